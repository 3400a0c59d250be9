use Rattle.std.proofs.Common.{◌∙◌}
use Rattle.assignment.proofs.Row.{filled}
use Rattle.assignment.proofs.slices.Tree.start.Goals as goal

pub returns-clause-by : goal.returns-clause-by
returns-clause-by c = (rw (c.args.self.now.long_parent, c.requires.people) at c.fill.ensures.after (λ _ e. e)) ∙ filled _ _

pub returns-clause-fresh : goal.returns-clause-fresh
returns-clause-fresh c = (rw (c.args.self.now.long_turn, c.requires.people) at c.fill-2.ensures.after (λ _ e. e)) ∙ filled _ _
