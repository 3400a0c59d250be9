use Rattle.longest.proofs.Slacks.{search_ends, same_run, one_longest}
use Rattle.longest.proofs.rows_stand.Goals as goal

pub returns : goal.returns
returns c = record { ends = search_ends; same = same_run; one = one_longest }
