use Rattle.std.proofs.Common.{◌≡◌, ◌*◌, ◌^◌}
use Rattle.rooms.specs.House.{sum}
use Rattle.whole.specs.Bounds.{Within}
use Rattle.sheet.specs.Statement.{claimed_by, house_in}
use Rattle.sheet.proofs.Priced.{own_part}
use Rattle.sheet.proofs.statement.Sharing.surplus.Given as goal

abbrev pub invariant-loop-i : goal.invariant-loop-i
invariant-loop-i l = (l.total ≡ sum (own_part (house_in l.self.stated) (claimed_by l.self.stated)) l.i) × Within (2 ^ 64 * l.i) l.total
