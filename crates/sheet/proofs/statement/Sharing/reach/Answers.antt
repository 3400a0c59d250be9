use Rattle.std.proofs.Common.{arith}
use Rattle.std.proofs.lemmas.Int.{ints}
use Rattle.sheet.specs.Statement.{claimed_by, house_in}
use Rattle.sheet.proofs.Lengths.{reach_is}
use Rattle.sheet.proofs.statement.Sharing.reach.Goals as goal

pub returns : goal.returns
returns c =
    let r = reach_is (house_in c.args.self.now.stated) (claimed_by c.args.self.now.stated) c.args.k c.args.i _ _ _ _ c.length.ensures.value
    c.room-room.ensures.own c.worth.ensures c.worth-2.ensures in
    omega (arith, ints, r)
