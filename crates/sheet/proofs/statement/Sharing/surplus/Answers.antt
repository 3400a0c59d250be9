use Rattle.std.proofs.Common.{◌≡◌, ◌<◌, refl, ap, ◌∙◌, add-one, arith}
use Rattle.std.proofs.lemmas.Int.{ints}
use Rattle.rooms.specs.Format.{most_people}
use Rattle.sheet.specs.Statement.{claimed_by, house_in}
use Rattle.rooms.specs.House.{sum}
use Rattle.sheet.proofs.Priced.{own_part, spare_is}
use Rattle.sheet.proofs.statement.Sharing.surplus.Goals as goal

pub loop-i-init : goal.loop-i-init
unfolding sum
loop-i-init c = (refl, record { low = omega (arith, ints); high = omega (arith, ints) })

pub loop-i-preserved : goal.loop-i-preserved
unfolding sum
loop-i-preserved c =
    let o = c.own_less-total.ensures.value in
    let w = c.own_less-total.ensures.within in
    let t = c.loop-i.invariant.0 in
    let v = c.loop-i.invariant.1 in
    let l : c.loop-i.i < most_people = let few = c.count-i-end.ensures.allowed.few in omega arith in
    rw add-one (omega (arith, ints), record { low = omega (arith, ints); high = omega (arith, ints) })

pub returns : goal.returns
returns c =
    let h = house_in c.args.self.now.stated in
    let cl = claimed_by c.args.self.now.stated in
    let few = c.count-i-end.ensures.allowed.few in
    let s = spare_is h cl in
    let e : c.loop-i.i ≡ h.n = omega arith in
    let t = c.loop-i.invariant.0 ∙ ap (sum (own_part h cl)) e in
    let v = c.loop-i.invariant.1 in
    let r = c.rent.ensures in
    record { value = omega (arith, ints); within = record { low = omega (arith, ints); high = omega (arith, ints) } }
