use Rattle.std.proofs.Common.{◌≡◌, ℕ, ◌-◌, ◌<◌, ◌≤◌}
use Rattle.assignment.specs.Search.{at}
use Rattle.assignment.proofs.rounds.lower.Given as goal

abbrev pub invariant-loop-i : goal.invariant-loop-i
invariant-loop-i l =
    ((k : ℕ) → k < l.i → at l.placed k ≡ at l.initial.placed k - (l.d - at l.distance (at l.rooms.room.now k)))
    × ((k : ℕ) → l.i ≤ k → at l.placed k ≡ at l.initial.placed k)
