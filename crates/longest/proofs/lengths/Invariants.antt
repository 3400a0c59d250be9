use Rattle.std.proofs.Common.{◌≡◌, ℕ, ◌-◌, ◌<◌, ◌≤◌, length}
use Rattle.rooms.specs.Format.{most_people}
use Rattle.assignment.specs.Search.{at}
use Rattle.longest.specs.View.{lefts}
use Rattle.longest.proofs.lengths.Given as goal

abbrev pub invariant-loop-i : goal.invariant-loop-i
invariant-loop-i l =
    (length l.d ≡ most_people)
    × ((j : ℕ) → j < l.i → at l.d j ≡ at l.persons j - at (lefts l.rows) j)
    × ((j : ℕ) → l.i ≤ j → at l.d j ≡ 0)
