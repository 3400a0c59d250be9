use Rattle.std.proofs.Common.{◌<◌, ap, ◌∙◌, arith, SFits}
use mir.Syntax.{w128}
use Rattle.std.proofs.lemmas.Int.{ints, to_z-of_z}
use Rattle.sheet.specs.Statement.{claimed_by, house_in}
use Rattle.sheet.proofs.Priced.{own_part, tenant_below}
use Rattle.sheet.proofs.statement.Terms.own_less.Goals as goal

pub own_less-requires : goal.own_less-requires
own_less-requires c =
    let s = c.args.self.now.sharing in
    let some : 0 < (house_in s.stated).n = omega arith in
    omega (arith, tenant_below (house_in s.stated) (claimed_by s.stated) s.housed some c.args.r c.requires, c.args.self.now.reckoned.tenant_is c.args.r c.requires)

pub returns : goal.returns
returns c =
    let s = c.args.self.now.sharing.stated in
    let f : SFits w128 c.own_less.result = record { sfits = c.own_less.type_inv } in
    let w = c.own_less.ensures.within in
    record {
      value =
          to_z-of_z w128 _ f ∙ c.own_less.ensures.value
          ∙ ap (own_part (house_in s) (claimed_by s)) (c.from.ensures ∙ c.args.self.now.reckoned.tenant_is c.args.r c.requires);
      within = record { low = omega (arith, ints); high = omega (arith, ints) };
    }
