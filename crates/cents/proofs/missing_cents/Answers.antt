use Rattle.std.proofs.Common.{◌≡◌, length, ℤ, sym, ap, ◌∙◌, arith, w64, SFits, to_z, of_z}
use Rattle.std.proofs.lemmas.Int.{ints}
use Rattle.rooms.specs.House.{sum}
use Rattle.whole.specs.Floor.{floor}
use Rattle.rents.specs.Answer.{held}
use Rattle.rents.proofs.Sizes.{sum_step}
use Rattle.cents.specs.Cents.{floor_at, missing_cents}
use Rattle.cents.proofs.Slice.{floor_small, floors_small, held_at}
use Rattle.cents.proofs.missing_cents.Goals as goal

pub loop-fraction-init : goal.loop-fraction-init
unfolding sum
loop-fraction-init c = omega (arith, ints)

pub plus-floors-requires : goal.plus-floors-requires
plus-floors-requires c =
    let xs = c.args.rents.now in
    let n = length xs in
    let ps = held n xs in
    let r = c.loop-fraction.fraction-index in
    let w = floors_small n c.args.rent ps c.requires r (omega (arith, c.loop-fraction-test.true)) in
    let e = c.loop-fraction.invariant in
    let f : c.floor_of.result ≡ floor_at n ps r = c.floor_of.ensures ∙ ap (λ (x : ℤ). floor x n) (sym (held_at n xs r c.loop-fraction-test.true (omega arith))) in
    let v = floor_small n c.args.rent ps c.requires r c.loop-fraction-test.true in
    (record { low = omega (arith, ints); high = omega (arith, ints) }, record { low = omega (arith, ints); high = omega (arith, ints) })

pub loop-fraction-preserved : goal.loop-fraction-preserved
loop-fraction-preserved c =
    let xs = c.args.rents.now in
    let n = length xs in
    let ps = held n xs in
    let r = c.loop-fraction.fraction-index in
    let f : c.floor_of.result ≡ floor_at n ps r = c.floor_of.ensures ∙ ap (λ (x : ℤ). floor x n) (sym (held_at n xs r c.loop-fraction-test.true (omega arith))) in
    let a = c.plus-floors.ensures.value in
    let b = c.plus-floors.ensures.within in
    let e : c.loop-fraction.floors ≡ sum (λ r. floor_at n ps r) r = sym c.loop-fraction.floors-is ∙ c.loop-fraction.invariant in
    let g : SFits w64 c.floor_of.result = record { sfits = c.floor_of.type_inv } in
    sum_step (λ r. floor_at n ps r) r c.loop-fraction.floors c.floor_of.result (to_z w64 (of_z w64 c.plus-floors.result)) e f (omega (arith, ints))

pub minus-requires : goal.minus-requires
minus-requires c =
    let n = length c.args.rents.now in
    let w = floors_small n c.args.rent (held n c.args.rents.now) c.requires c.loop-fraction.fraction-index (omega (arith, c.loop-fraction.auto.fraction-index-end)) in
    let e = c.loop-fraction.invariant in
    let v = c.from.ensures in
    (record { low = omega (arith, ints); high = omega (arith, ints) }, record { low = omega (arith, ints); high = omega (arith, ints) })

pub returns : goal.returns
unfolding missing_cents
returns c =
    let n = length c.args.rents.now in
    let ps = held n c.args.rents.now in
    let i : c.loop-fraction.fraction-index ≡ n = omega (arith, c.loop-fraction.auto.fraction-index-end, c.loop-fraction-test.false) in
    let e : c.loop-fraction.floors ≡ sum (λ r. floor_at n ps r) n = sym c.loop-fraction.floors-is ∙ c.loop-fraction.invariant ∙ ap (λ k. sum (λ r. floor_at n ps r) k) i in
    let v = c.minus.ensures.value in
    let w = c.minus.ensures.within in
    let f = c.from.ensures in
    omega (arith, ints)
