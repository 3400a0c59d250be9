use Rattle.std.proofs.Common.{◌≡◌, ◌-◌, length}
use Rattle.assignment.specs.Run.{handed}
use Rattle.assignment.specs.Slices.{rooms_of, Holding}
use Rattle.assignment.proofs.slices.Rooms.hand_on.Given as goal

abbrev pub invariant-loop-t : goal.invariant-loop-t
invariant-loop-t l =
    Holding (length l.parent) l.self
    × (handed l.p l.parent (length l.parent - l._t) (rooms_of l.self) ≡ handed l.p l.parent (length l.parent) (rooms_of l.initial.self))
