use Rattle.std.proofs.Common.{◌≡◌, ℕ, ◌<◌, ◌≤◌, cond, ltb}
use Rattle.assignment.specs.Search.{at}
use Rattle.assignment.proofs.search.merge.Given as goal

abbrev pub invariant-loop-r : goal.invariant-loop-r
invariant-loop-r l =
    ((k : ℕ) → k < l.r → at l.distance k ≡ cond (ltb (at l.row k) (at l.initial.distance k)) (at l.row k) (at l.initial.distance k))
    × ((k : ℕ) → k < l.r → at l.parent k ≡ cond (ltb (at l.row k) (at l.initial.distance k)) l.i (at l.initial.parent k))
    × ((k : ℕ) → l.r ≤ k → at l.distance k ≡ at l.initial.distance k)
    × ((k : ℕ) → l.r ≤ k → at l.parent k ≡ at l.initial.parent k)
