use Rattle.std.proofs.Common.{◌≡◌, ℕ, ◌<◌}
use Rattle.assignment.specs.Search.{at}
use Rattle.assignment.proofs.write_rooms.Given as goal

abbrev pub invariant-loop-i : goal.invariant-loop-i
invariant-loop-i l = (k : ℕ) → k < l.i → at l.rooms k ≡ at l.room k
