use Rattle.std.proofs.Common.{◌≡◌, get_or, ℤ, pos, ◌-ℤ◌, ◌*ℤ◌, ap, ◌∙◌, arith, w64, SFits, to_z, of_z}
use Rattle.std.proofs.lemmas.Int.{ints, to_z-of_z}
use Rattle.rooms.specs.View.{house}
use Rattle.rents.proofs.Answered.{due_is}
use Rattle.rents.proofs.Sizes.{spare_small}
use Rattle.rents.proofs.sharing.Sharing.due.Goals as goal

pub minus-requires-2 : goal.minus-requires-2
minus-requires-2 c =
    let s = c.args.self.now in
    let p = c.times.ensures.within in
    let w = spare_small (house s.group) s.rooms.now s.d c.count.ensures.allowed s.low in
    let e = s.left in
    (record { low = omega (arith, ints); high = omega (arith, ints) }, record { low = omega (arith, ints); high = omega (arith, ints) })

pub returns : goal.returns
returns c =
    let s = c.args.self.now in
    let n = c.count.result in
    let worth = c.worth-worth.result in
    let row = get_or s.d c.args.i 0 in
    let z = spare_small (house s.group) s.rooms.now s.d c.count.ensures.allowed s.low in
    let y = s.left in
    let l = s.low c.args.i in
    let g = c.from.ensures in
    let t = c.worth-worth.type_inv in
    let w = c.minus.ensures.within in
    let f : SFits w64 c.minus.result = omega (arith, ints) in
    let e : c.minus.result ≡ pos worth -ℤ pos row = let v = c.minus.ensures.value in omega (arith, ints) in
    let p : c.times.result ≡ (pos worth -ℤ pos row) *ℤ pos n = (simp to_z-of_z at c.times.ensures.value) ∙ ap (λ (x : ℤ). x *ℤ pos n) e in
    let b = c.times.ensures.within in
    let v = c.minus-2.ensures.value in
    let u = c.minus-2.ensures.within in
    let r : to_z w64 (of_z w64 c.minus-2.result) ≡ (pos worth -ℤ pos row) *ℤ pos n -ℤ s.spare = omega (arith, ints) in
    r ∙ due_is (house s.group) s.rooms.now s.d c.args.i n worth s.spare c.worth-worth.ensures c.count.ensures.people s.left
