use Rattle.std.proofs.Common.{sym, ◌∙◌, arith}
use Rattle.rooms.proofs.Taken.{passed, rent_is}
use Rattle.rooms.proofs.group.Group.rent.Goals as goal

pub word_at-requires : goal.word_at-requires
word_at-requires c = let p = passed c.args.self.now.bytes.now c.args.self.now.good in omega arith

pub returns : goal.returns
returns c = c.word_at.ensures ∙ sym (rent_is c.args.self.now.bytes.now)
