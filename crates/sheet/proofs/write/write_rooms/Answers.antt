use Rattle.std.proofs.Common.{ℕ, ◌+◌, ◌*◌, List, get_or, refl, ap, ◌∙◌, arith}
use lib.Seq.{paste}
use Rattle.whole.specs.Bytes.{put}
use Rattle.sheet.specs.Write.{room_part}
use Rattle.sheet.proofs.Pieces.{pieces_more, room_paste}
use Rattle.sheet.proofs.Sheets.{room_part_long}
use Rattle.sheet.proofs.write.write_rooms.Goals as goal

pub loop-r-preserved : goal.loop-r-preserved
loop-r-preserved c =
    let n = c.args.n in
    let r = c.loop-r.r in
    let xs = c.args.rents.now in
    let at = 10 * n + 16 * r in
    c.write-in-loop-r.ensures.written ∙ ap (λ (s : List ℕ). put s (at + 8) (get_or xs (n + r) 0)) c.write.ensures.written
    ∙ room_paste c.loop-r.sheet at (get_or xs r 0) (get_or xs (n + r) 0) (omega arith)
    ∙ ap (λ (s : List ℕ). paste s at (room_part n xs r) 16) c.loop-r.invariant
    ∙ pieces_more (room_part n xs) c.args.sheet.now (10 * n) 16 r at (room_part_long n xs) refl (omega arith)
