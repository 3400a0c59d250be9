use Rattle.rooms.proofs.Longest.{longest_exists, no_more}
use Rattle.rooms.proofs.Row.{certified_around, row_within}
use Rattle.rooms.proofs.Turn.{best_around}
use Rattle.rooms.proofs.theory.rows_stands.Goals as goal

pub returns : goal.returns
returns c = record { around = best_around; certified = certified_around; within = row_within; longest = longest_exists; most = no_more }
