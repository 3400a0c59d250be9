use Rattle.std.proofs.Common.{◌≡◌, ℕ, ◌+◌, ◌-◌, ◌<◌}
use Rattle.assignment.specs.Search.{at}
use Rattle.assignment.proofs.search.offer.Given as goal

abbrev pub invariant-loop-r : goal.invariant-loop-r
invariant-loop-r l = (k : ℕ) → k < l.r → at l.row k ≡ l.base + at l.prices k - at l.mine k
