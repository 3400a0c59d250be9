use Rattle.std.proofs.Common.{arith}
use Rattle.assignment.proofs.Whole.{counted_up}
use Rattle.assignment.proofs.rounds.count_up.Goals as goal

pub returns : goal.returns
returns c = counted_up _ _ (omega arith) (λ k l. c.loop-i.invariant k (omega arith))
