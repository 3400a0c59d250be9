use Rattle.std.proofs.Common.{arith}
use Rattle.std.proofs.lemmas.Int.{ints}
use Rattle.sheet.specs.Statement.{claimed_by, house_in}
use Rattle.sheet.proofs.Priced.{own_is}
use Rattle.sheet.proofs.statement.Sharing.own_less.Goals as goal

pub returns : goal.returns
returns c =
    let r = own_is (house_in c.args.self.now.stated) (claimed_by c.args.self.now.stated) c.args.i _ _ _ c.room.ensures.own c.worth.ensures c.length.ensures.value in
    record { value = omega (arith, ints, r); within = record { low = omega (arith, ints); high = omega (arith, ints) } }
