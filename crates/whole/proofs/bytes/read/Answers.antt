use Rattle.std.proofs.Common.{sym, ap, ◌∙◌}
use Rattle.whole.proofs.Eight.{number_is}
use Rattle.whole.proofs.bytes.read.Goals as goal

pub returns : goal.returns
returns g c = c.from_bits.ensures ∙ ap g.T.Word.of_bits (c.from_le_bytes.ensures ∙ sym (number_is c.args.bytes.now c.args.at))
