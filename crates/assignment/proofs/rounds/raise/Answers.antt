use Rattle.std.proofs.Common.{arith}
use Rattle.std.proofs.lemmas.List.FromFn.{fill_by_all}
use Rattle.assignment.proofs.rounds.raise.Goals as goal

pub returns : goal.returns
returns c = fill_by_all _ _ _ 0 (omega arith) (λ k l. c.loop-r.invariant.0 k (omega arith))
