use Rattle.rooms.specs.Format.{house_of}
use Rattle.longest.specs.Run.{slack}
use Rattle.longest.proofs.Lines.{Filled}
use Rattle.longest.proofs.Best.write_table.Given as goal

abbrev pub invariant-loop-i : goal.invariant-loop-i
invariant-loop-i l = Filled l.n (slack (house_of l.self.group.bytes.now) l.self.rooms.now l.self.persons l.self.prices) l.i l.table
