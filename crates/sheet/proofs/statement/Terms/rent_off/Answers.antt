use Rattle.std.proofs.Common.{pos, sym, ◌∙◌, arith, w64, SFits, rules}
use mir.Syntax.{w128}
use Rattle.std.proofs.lemmas.List.{get_or-take}
use Rattle.std.proofs.lemmas.Int.{ints, to_z-of_z}
use Rattle.rooms.specs.Rows.{number}
use Rattle.sheet.specs.Statement.{claimed_by, house_in}
use Rattle.sheet.proofs.Entered.{bits_differ}
use Rattle.sheet.proofs.Priced.{rent_test}
use Rattle.sheet.proofs.statement.Terms.rent_off.Goals as goal

pub returns : goal.returns
returns c =
    let s = c.args.self.now.sharing.stated in
    let v = c.args.self.now.reckoned.small in
    let e : SFits w64 (number s.entries.now.rents c.args.r) = search rules in
    let f : SFits w128 c.from.result = record { sfits = c.from.type_inv } in
    let i : SFits w128 c.times.result = record { sfits = c.times.type_inv } in
    let j : SFits w128 c.minus-due.result = record { sfits = c.minus-due.type_inv } in
    let g : SFits w128 c.own_less.result = record { sfits = c.own_less.type_inv } in
    let k : SFits w128 c.args.self.now.surplus = omega (arith, ints) in
    bits_differ _ _ f j
    ∙ rent_test (house_in s) (claimed_by s) c.args.r _ _ _ _ _ _
    (c.from.ensures ∙ to_z-of_z w64 _ e ∙ sym (get_or-take (house_in s).n s.entries.now.rents c.args.r (pos 0) c.requires))
    (to_z-of_z w128 _ g ∙ c.own_less.ensures.value) c.count-n.ensures.people (to_z-of_z w128 _ i ∙ c.times.ensures.value)
    (to_z-of_z w128 _ k ∙ c.args.self.now.reckoned.spare_is) c.minus-due.ensures.value
