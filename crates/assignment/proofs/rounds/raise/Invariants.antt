use Rattle.std.proofs.Common.{◌≡◌, ℕ, ◌+◌, ◌-◌, ◌<◌, ◌≤◌}
use Rattle.assignment.specs.Search.{at}
use Rattle.assignment.proofs.rounds.raise.Given as goal

abbrev pub invariant-loop-r : goal.invariant-loop-r
invariant-loop-r l =
    ((k : ℕ) → k < l.r → at l.prices k ≡ at l.initial.prices k + (l.d - at l.distance k))
    × ((k : ℕ) → l.r ≤ k → at l.prices k ≡ at l.initial.prices k)
