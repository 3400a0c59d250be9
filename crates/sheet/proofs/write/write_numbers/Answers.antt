use Rattle.std.proofs.Common.{ℕ, ◌+◌, ◌*◌, List, get_or, refl, ap, ◌∙◌, arith}
use lib.Seq.{paste}
use Rattle.whole.proofs.Eight.{eight}
use Rattle.sheet.specs.Write.{number_part}
use Rattle.sheet.proofs.Pieces.{pieces_more, put_paste}
use Rattle.sheet.proofs.write.write_numbers.Goals as goal

pub loop-i-preserved : goal.loop-i-preserved
loop-i-preserved c =
    let i = c.loop-i.i in
    let at = c.args.at in
    let xs = c.args.numbers in
    c.write.ensures.written ∙ put_paste c.loop-i.sheet (at + 8 * i) (get_or xs i 0)
    ∙ ap (λ (s : List ℕ). paste s (at + 8 * i) (number_part xs i) 8) c.loop-i.invariant
    ∙ pieces_more (number_part xs) c.args.sheet.now at 8 i (at + 8 * i) (λ k. (eight (get_or xs k 0)).0) refl (omega arith)
