use Rattle.std.proofs.Common.{◌≡◌, get_or, ℤ, pos, ◌+ℤ◌, ◌*ℤ◌, ap, ◌∙◌, arith, w64, to_z, of_z}
use Rattle.std.proofs.lemmas.Int.{ints}
use Rattle.rooms.specs.View.{house}
use Rattle.rents.proofs.Answered.{gain_is}
use Rattle.rents.proofs.Sizes.{spare_small}
use Rattle.rents.proofs.sharing.Sharing.gain.Goals as goal

pub plus-requires : goal.plus-requires
plus-requires c =
    let s = c.args.self.now in
    let p = c.times.ensures.within in
    let w = spare_small (house s.group) s.rooms.now s.d c.count.ensures.allowed s.low in
    let e = s.left in
    (record { low = omega (arith, ints); high = omega (arith, ints) }, record { low = omega (arith, ints); high = omega (arith, ints) })

pub returns : goal.returns
returns c =
    let s = c.args.self.now in
    let n = c.count.result in
    let row = get_or s.d c.args.i 0 in
    let z = spare_small (house s.group) s.rooms.now s.d c.count.ensures.allowed s.low in
    let y = s.left in
    let l = s.low c.args.i in
    let e : to_z w64 row ≡ pos row = omega (arith, ints) in
    let p : c.times.result ≡ pos row *ℤ pos n = c.times.ensures.value ∙ ap (λ (x : ℤ). x *ℤ pos n) e in
    let b = c.times.ensures.within in
    let v = c.plus.ensures.value in
    let u = c.plus.ensures.within in
    let r : to_z w64 (of_z w64 c.plus.result) ≡ pos row *ℤ pos n +ℤ s.spare = omega (arith, ints) in
    r ∙ gain_is (house s.group) s.rooms.now s.d c.args.i n s.spare s.housed c.requires c.count.ensures.people s.left
