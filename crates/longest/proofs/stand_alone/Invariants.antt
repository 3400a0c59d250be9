use Rattle.std.proofs.Common.{◌≡◌, ℕ, ◌<◌}
use Rattle.rooms.specs.Before.{nobody}
use Rattle.assignment.specs.Search.{at}
use Rattle.longest.specs.View.{lefts, befores}
use Rattle.longest.proofs.stand_alone.Given as goal

abbrev pub invariant-loop-i : goal.invariant-loop-i
invariant-loop-i l =
    ((j : ℕ) → j < l.i → at (lefts l.rows) j ≡ at l.numbers j)
    × ((j : ℕ) → j < l.i → at (befores l.rows) j ≡ nobody)
