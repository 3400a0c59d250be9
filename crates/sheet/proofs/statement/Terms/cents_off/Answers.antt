use Rattle.std.proofs.Common.{cond, ℤ, pos, ◌+ℤ◌, sym, ap, ◌∙◌, arith, w64, SFits, rules}
use lib.Signed.{lt_z}
use mir.Syntax.{w128}
use Rattle.std.proofs.lemmas.List.{get_or-take}
use Rattle.std.proofs.lemmas.Int.{ints, to_z-of_z}
use Rattle.rooms.specs.Rows.{number}
use Rattle.sheet.specs.Statement.{house_in, sheet_in}
use Rattle.sheet.proofs.Entered.{bits_differ}
use Rattle.sheet.proofs.Priced.{cents_test}
use Rattle.sheet.proofs.statement.Terms.cents_off.Goals as goal

pub returns : goal.returns
returns c =
    let s = c.args.self.now.sharing.stated in
    let t = c.args.self.now in
    let w = t.reckoned.thin in
    let b : SFits w64 (number s.entries.now.cents c.args.r) = search rules in
    let f : SFits w128 c.from.result = record { sfits = c.from.type_inv } in
    let g : SFits w128 c.own_less.result = record { sfits = c.own_less.type_inv } in
    let i : SFits w128 c.cent_more.result = record { sfits = c.cent_more.type_inv } in
    let d : SFits w128 c.plus-down.result = record { sfits = c.plus-down.type_inv } in
    let j : SFits w128 t.even = omega (arith, ints) in
    let k : SFits w128 t.missing = search rules in
    let z : SFits w128 c.plus-cents.result = record { sfits = c.plus-cents.type_inv } in
    bits_differ _ _ f z
    ∙ cents_test (house_in s) (sheet_in s) t.sharing.housed c.args.r _ c.own_less.result t.even t.missing c.cent_more.result t.surplus _ c.requires
    (c.from.ensures ∙ to_z-of_z w64 _ b ∙ sym (get_or-take (house_in s).n s.entries.now.cents c.args.r (pos 0) c.requires))
    c.own_less.ensures.value t.reckoned.even_is t.reckoned.missing_is
    (c.cent_more.ensures.value ∙ ap (λ (z : ℤ). cond (lt_z (pos c.args.r) z) (pos 1) (pos 0)) (to_z-of_z w128 _ k)) t.reckoned.spare_is
    (c.plus-cents.ensures.value
    ∙ (λ q. to_z-of_z w128 _ d q +ℤ to_z-of_z w128 _ i q)
    ∙ ap (λ (z : ℤ). z +ℤ c.cent_more.result) (c.plus-down.ensures.value ∙ (λ q. to_z-of_z w128 _ g q +ℤ to_z-of_z w128 _ j q)))
