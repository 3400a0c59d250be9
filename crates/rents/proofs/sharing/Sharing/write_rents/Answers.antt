use Rattle.std.proofs.Common.{◌≡◌, ◌+◌, ◌<◌, set, sym, ap, ◌∙◌, subst, arith, w64, of_z}
use Rattle.std.proofs.lemmas.List.{get_or-take, length-take-le}
use Rattle.std.proofs.lemmas.Int.{to_z-of_z}
use Rattle.rooms.specs.Rows.{signed}
use Rattle.rooms.specs.View.{house}
use Rattle.rents.proofs.Writing.{Paid, paid_all, paid_more}
use Rattle.rents.proofs.sharing.Sharing.write_rents.Goals as goal

pub loop-i-preserved : goal.loop-i-preserved
loop-i-preserved c =
    let s = c.args.self.now in
    let h = house s.group in
    let room = s.rooms.now in
    let d = signed s.d in
    let n = c.count.result in
    let i = c.loop-i.i in
    let people = c.count.ensures.people in
    let long = length-take-le n room (omega (arith, s.housed.all)) in
    let here : i < n = omega (arith, c.loop-i-test.true) in
    let e = c.to_bits.ensures ∙ ap (of_z w64) (to_z-of_z w64 c.due.result (record { sfits = c.due.type_inv }) ∙ c.due.ensures) in
    subst (λ r. Paid h room d c.args.rents.now (i + 1) (set c.loop-i.rents r c.to_bits.result)) (sym (get_or-take n room i 0 here))
    (paid_more h room d c.args.rents.now s.housed c.requires i c.loop-i.rents c.to_bits.result (omega arith) e c.loop-i.invariant)

pub returns : goal.returns
returns c =
    let s = c.args.self.now in
    let h = house s.group in
    let room = s.rooms.now in
    let people = c.count.ensures.people in
    let long = length-take-le c.count.result room (omega (arith, s.housed.all)) in
    let all : c.loop-i.i ≡ h.n = omega (arith, c.loop-i-test.false, c.loop-i.auto.i-end) in
    paid_all h room (signed s.d) c.args.rents.now s.housed c.requires c.loop-i.rents
    (subst (λ k. Paid h room (signed s.d) c.args.rents.now k c.loop-i.rents) all c.loop-i.invariant)
