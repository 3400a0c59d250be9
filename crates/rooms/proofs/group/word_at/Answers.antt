use Rattle.std.proofs.Common.{arith}
use Rattle.rooms.proofs.Taken.{word_is}
use Rattle.rooms.proofs.group.word_at.Goals as goal

pub returns : goal.returns
returns c = omega (arith, word_is c.args.bytes.now c.args.at, c.from_le_bytes.ensures)
