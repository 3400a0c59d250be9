use Rattle.sheet.specs.Statement.{house_in}
use Rattle.sheet.proofs.Shared.{Marked}
use Rattle.sheet.proofs.statement.Statement.first_room.Given as goal

abbrev pub invariant-loop-i : goal.invariant-loop-i
invariant-loop-i l = Marked (house_in l.self) l.self.entries.now l.i l.taken
