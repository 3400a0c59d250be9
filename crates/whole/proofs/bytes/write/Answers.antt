use Rattle.std.proofs.Common.{rules, ap, ◌∙◌}
use Rattle.std.proofs.lemmas.Slice.{overwrites}
use Rattle.whole.specs.Bytes.{put, number_at}
use Rattle.whole.proofs.Eight.{bytes_are, read_back}
use Rattle.whole.proofs.bytes.write.Goals as goal

pub returns : goal.returns
unfolding put
returns g c =
    let x = g.T.Word.bits c.args.x in
    let law = g.met.T.Word.laws in
    let e = bytes_are x in
    record {
      written = search (rules, overwrites);
      back = λ f. ap g.T.Word.of_bits (ap (λ ys. number_at ys c.args.at) (search (rules, overwrites)) ∙ read_back c.args.bytes.now c.args.at x c.requires (law.small c.args.x f)) ∙ law.back c.args.x f;
    }
