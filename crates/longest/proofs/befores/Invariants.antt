use Rattle.std.proofs.Common.{◌≡◌, ℕ, ◌<◌, ◌≤◌, length}
use Rattle.rooms.specs.Format.{most_people}
use Rattle.rooms.specs.Before.{nobody, prior}
use Rattle.longest.specs.View.{befores}
use Rattle.longest.proofs.befores.Given as goal

abbrev pub invariant-loop-i : goal.invariant-loop-i
invariant-loop-i l =
    (length l.before ≡ most_people)
    × ((j : ℕ) → j < l.i → prior l.before j ≡ prior (befores l.rows) j)
    × ((j : ℕ) → l.i ≤ j → prior l.before j ≡ nobody)
