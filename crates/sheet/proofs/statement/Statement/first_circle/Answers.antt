use Rattle.std.proofs.Common.{ℕ, ap, ◌∙◌, rules, tests}
use Rattle.rooms.specs.Before.{on_circle}
use Rattle.rooms.specs.First.{found}
use Rattle.sheet.specs.Statement.{claimed_by, house_in}
use Rattle.sheet.proofs.Found.{found_below}
use Rattle.sheet.proofs.statement.Statement.first_circle.Goals as goal

pub returns : goal.returns
returns c =
    let before = (claimed_by c.args.self.now).before in
    let n = (house_in c.args.self.now).n in
    found_below (on_circle before c.count-n.result) _ n _ _ _ c.find.ensures.ran c.count-n.ensures.people (λ x b q k. search (rules, tests))
    ∙ ap (λ (m : ℕ). found (on_circle before m) n) c.count-n.ensures.people
