use Rattle.std.proofs.Common.{◌≡◌, false, pos, ◌+ℤ◌, sym, ap, ◌∙◌, arith, SFits, ℤ, ℕ}
use lib.Signed.{lt_z}
use mir.Syntax.{w128}
use Rattle.std.proofs.lemmas.Bool.{le-leb}
use Rattle.std.proofs.lemmas.Int.{to_z-of_z}
use Rattle.rooms.specs.Rows.{number, way}
use Rattle.sheet.specs.Statement.{claimed_by, house_in}
use Rattle.sheet.proofs.Entered.{bits_differ}
use Rattle.sheet.proofs.Lengths.{length_alone, length_far, length_low, length_out}
use Rattle.sheet.proofs.statement.Sharing.length_off.Goals as goal

pub returns-then-d-lt0 : goal.returns-then-d-lt0
returns-then-d-lt0 c =
    let f : SFits w128 c.length-d.result = record { sfits = c.length-d.type_inv } in
    length_low (house_in c.args.self.now.stated) (claimed_by c.args.self.now.stated) c.args.i _ (to_z-of_z w128 _ f ∙ c.length-d.ensures.value) c.if-d-lt0.true

pub returns-in-None : goal.returns-in-None
returns-in-None c =
    let f : SFits w128 c.length-d.result = record { sfits = c.length-d.type_inv } in
    let g : SFits w128 (pos 0) = omega arith in
    let low : lt_z c.length-d.result (pos 0) ≡ false = ap (λ (z : ℤ). lt_z z (pos 0)) (sym (to_z-of_z w128 _ f)) ∙ c.if-d-lt0.false in
    bits_differ c.length-d.result (pos 0) f g
    ∙ length_alone (house_in c.args.self.now.stated) (claimed_by c.args.self.now.stated) c.args.i _ c.length-d.ensures.value low c.in-None.ensures

pub returns-then-before-count : goal.returns-then-before-count
returns-then-before-count c =
    let e = c.in-Some.ensures.0 in
    le-leb _ _ c.if-before-count.true
    ∙ length_out (house_in c.args.self.now.stated) (claimed_by c.args.self.now.stated) c.args.i (λ p. c.in-Some.ensures.1 (sym e ∙ p)) (omega arith)

pub returns-else-before-count : goal.returns-else-before-count
returns-else-before-count c =
    let h = house_in c.args.self.now.stated in
    let cl = claimed_by c.args.self.now.stated in
    let e = c.in-Some.ensures.0 in
    let f : SFits w128 c.length-d.result = record { sfits = c.length-d.type_inv } in
    let g : SFits w128 c.reach.result = record { sfits = c.reach.type_inv } in
    let low : lt_z c.length-d.result (pos 0) ≡ false = ap (λ (z : ℤ). lt_z z (pos 0)) (sym (to_z-of_z w128 _ f)) ∙ c.if-d-lt0.false in
    bits_differ c.length-d.result c.reach.result f g
    ∙ length_far h cl c.args.i _ _ c.length-d.ensures.value (c.reach.ensures ∙ ap (λ (b : ℕ). number cl.d b +ℤ way h cl.room b c.args.i) (sym e)) low
    (λ p. c.in-Some.ensures.1 (sym e ∙ p)) (omega arith)
