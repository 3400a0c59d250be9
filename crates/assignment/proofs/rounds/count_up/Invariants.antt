use Rattle.std.proofs.Common.{◌≡◌, ℕ, ◌<◌}
use Rattle.assignment.specs.Search.{at}
use Rattle.assignment.proofs.rounds.count_up.Given as goal

abbrev pub invariant-loop-i : goal.invariant-loop-i
invariant-loop-i l = (k : ℕ) → k < l.i → at l.places k ≡ k
