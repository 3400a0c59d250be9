use Rattle.std.proofs.Common.{◌≡◌, ◌∙◌, sym, length, arith, rules}
use Rattle.rooms.specs.Format.{most_people}
use Rattle.sheet.specs.Statement.{house_in}
use Rattle.sheet.proofs.Lengths.{prior_read}
use Rattle.sheet.proofs.statement.Statement.before.Goals as goal

pub returns-else-before : goal.returns-else-before
returns-else-before c =
    let w : length c.args.self.now.entries.now.before ≡ most_people = search rules in
    let p = prior_read c.args.self.now.entries.now.before (house_in c.args.self.now).n c.args.i c.requires (omega arith) in
    (p ∙ sym c.from.ensures, λ e. c.if-before.false (sym c.from.ensures ∙ e))
