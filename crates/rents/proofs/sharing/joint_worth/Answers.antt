use Rattle.std.proofs.Common.{◌≡◌, ◌<◌, pos, sym, ap, ◌∙◌, arith, w64, to_z, of_z}
use Rattle.std.proofs.lemmas.List.{get_or-take, length-take-le}
use Rattle.std.proofs.lemmas.Int.{ints}
use Rattle.rooms.specs.House.{room_of, sum, value, worth_at}
use Rattle.rooms.specs.View.{house}
use Rattle.rents.proofs.Sizes.{sum_step, worths_small}
use Rattle.rents.proofs.sharing.joint_worth.Goals as goal

pub loop-i-init : goal.loop-i-init
unfolding sum
loop-i-init c = omega (arith, ints)

pub plus-worths-requires : goal.plus-worths-requires
plus-worths-requires c =
    let h = house c.args.group.now in
    let p = c.count.ensures.people in
    let long = length-take-le c.count.result c.args.rooms.now (omega (arith, c.requires.all)) in
    let w = worths_small h c.args.rooms.now c.count.ensures.allowed c.loop-i.i (omega (arith, c.loop-i-test.true)) in
    let e = c.loop-i.invariant in
    let v = c.from.ensures in
    let f = c.worth.type_inv in
    (record { low = omega (arith, ints); high = omega (arith, ints) }, record { low = omega (arith, ints); high = omega (arith, ints) })

pub loop-i-preserved : goal.loop-i-preserved
unfolding value
loop-i-preserved c =
    let h = house c.args.group.now in
    let room = c.args.rooms.now in
    let n = c.count.result in
    let i = c.loop-i.i in
    let p = c.count.ensures.people in
    let long = length-take-le n room (omega (arith, c.requires.all)) in
    let here : i < n = omega (arith, c.loop-i-test.true) in
    let a = c.plus-worths.ensures.value in
    let b = c.plus-worths.ensures.within in
    let u = c.from.ensures in
    let f = c.worth.type_inv in
    let v = c.worth.ensures ∙ ap (worth_at h i) (get_or-take n room i 0 here) in
    let e : c.loop-i.worths ≡ sum (λ i. value h i (room_of room i)) i = sym c.loop-i.worths-is ∙ c.loop-i.invariant in
    sum_step (λ i. value h i (room_of room i)) i c.loop-i.worths (pos c.worth.result) (to_z w64 (of_z w64 c.plus-worths.result)) e
    (ap pos v) (omega (arith, ints))

pub returns : goal.returns
returns c =
    let h = house c.args.group.now in
    let room = c.args.rooms.now in
    let p = c.count.ensures.people in
    let long = length-take-le c.count.result room (omega (arith, c.requires.all)) in
    let all : c.loop-i.i ≡ h.n = omega (arith, c.loop-i-test.false, c.loop-i.auto.i-end) in
    c.loop-i.invariant ∙ ap (sum (λ i. value h i (room_of room i))) all
