use Rattle.std.proofs.Common.{◌≡◌, get_or, pos, sym, ◌∙◌, arith, w64, to_z, of_z}
use Rattle.std.proofs.lemmas.Int.{ints}
use Rattle.rooms.specs.House.{sum}
use Rattle.rooms.specs.Rows.{number, signed}
use Rattle.rents.proofs.Sizes.{lengths_small, number_signed, sum_step}
use Rattle.rents.proofs.sharing.all_lengths.Goals as goal

pub loop-row-init : goal.loop-row-init
unfolding sum
loop-row-init c = omega (arith, ints)

pub plus-lengths-requires : goal.plus-lengths-requires
plus-lengths-requires c =
    let w = lengths_small c.args.d.now c.requires.1 c.loop-row.row-index (omega arith) in
    let e = c.loop-row.invariant in
    let a = c.requires.1 c.loop-row.row-index in
    (record { low = omega (arith, ints); high = omega (arith, ints) }, record { low = omega (arith, ints); high = omega (arith, ints) })

pub loop-row-preserved : goal.loop-row-preserved
loop-row-preserved c =
    let d = c.args.d.now in
    let i = c.loop-row.row-index in
    let a = c.plus-lengths.ensures.value in
    let b = c.plus-lengths.ensures.within in
    let g = c.requires.1 i in
    let e : c.loop-row.lengths ≡ sum (λ i. number (signed d) i) i = sym c.loop-row.lengths-is ∙ c.loop-row.invariant in
    sum_step (λ i. number (signed d) i) i c.loop-row.lengths (pos (get_or d i 0)) (to_z w64 (of_z w64 c.plus-lengths.result)) e
    (sym (number_signed d i)) (omega (arith, ints))
