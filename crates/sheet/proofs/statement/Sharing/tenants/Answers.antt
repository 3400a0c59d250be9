use Rattle.std.proofs.Common.{◌<◌, ◌∙◌, arith}
use Rattle.std.proofs.lemmas.List.{length-set}
use Rattle.sheet.specs.Statement.{claimed_by, house_in}
use Rattle.sheet.proofs.Priced.{tenants_all, tenants_more}
use Rattle.sheet.proofs.statement.Sharing.tenants.Goals as goal

pub loop-i-preserved : goal.loop-i-preserved
loop-i-preserved c =
    let h = house_in c.args.self.now.stated in
    let l : c.loop-i.i < h.n = omega arith in (
      length-set c.loop-i.tenant _ _ ∙ c.loop-i.invariant.0,
      tenants_more h (claimed_by c.args.self.now.stated) c.loop-i.i _ c.loop-i.tenant c.count-i-end.ensures.allowed.few c.args.self.now.housed l c.room.ensures.own
          c.loop-i.invariant.0 c.loop-i.invariant.1,
    )

pub returns : goal.returns
returns c =
    tenants_all (house_in c.args.self.now.stated) (claimed_by c.args.self.now.stated) c.loop-i.tenant c.args.self.now.housed
    (λ k l. c.loop-i.invariant.1 k (omega arith))
