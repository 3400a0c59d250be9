use Rattle.rooms.specs.View.{house}
use Rattle.rooms.specs.Rows.{signed}
use Rattle.rents.proofs.Writing.{Paid}
use Rattle.rents.proofs.sharing.Sharing.write_rents.Given as goal

-- The rents of the people before this one are written at their rooms.
abbrev pub invariant-loop-i : goal.invariant-loop-i
invariant-loop-i l = Paid (house l.self.group) l.self.rooms.now (signed l.self.d) l.initial.rents l.i l.rents
