use Rattle.std.proofs.Common.{rules, tests}
use Rattle.rooms.proofs.First.{found_from_Range}
use Rattle.rooms.proofs.group.first_large.Goals as goal

pub returns : goal.returns
returns c = found_from_Range _ _ _ _ _ c.find.ensures.ran (λ x b q k. search (rules, tests))
