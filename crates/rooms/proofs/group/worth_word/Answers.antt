use Rattle.std.proofs.Common.{rules}
use Rattle.rooms.specs.Format.{worth_word}
use Rattle.rooms.proofs.group.worth_word.Goals as goal

pub returns : goal.returns
unfolding worth_word
returns c = search rules
