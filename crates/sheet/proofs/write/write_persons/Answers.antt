use Rattle.std.proofs.Common.{◌≡◌, ℕ, ◌+◌, ◌*◌, List, length, get_or, set, ap, ◌∙◌, arith, rules}
use Rattle.rooms.specs.Before.{nobody, prior}
use Rattle.rooms.specs.Format.{most_people}
use Rattle.std.proofs.lemmas.List.{get_or_default}
use lib.Seq.{paste}
use Rattle.whole.specs.Bytes.{put}
use Rattle.sheet.specs.Write.{person_part}
use Rattle.sheet.proofs.Pieces.{pieces_more, person_paste}
use Rattle.sheet.proofs.Sheets.{person_part_long}
use Rattle.sheet.proofs.write.write_persons.Goals as goal

pub loop-i-preserved : goal.loop-i-preserved
loop-i-preserved c =
    let i = c.loop-i.i in
    let rooms = c.args.draft.now.rooms.now in
    let before = c.args.draft.now.before in
    let d = c.args.draft.now.d in
    let at = 10 * i in
    let l : length before ≡ most_people = search rules in
    let b : get_or before i 0 ≡ prior before i = get_or_default before i 0 nobody (omega arith) in
    c.write.ensures.written ∙ ap (λ (x : ℕ). put (set (set c.loop-i.sheet at (get_or rooms i 0)) (at + 1) x) (at + 2) (get_or d i 0)) b
    ∙ person_paste c.loop-i.sheet at (get_or rooms i 0) (prior before i) (get_or d i 0) (omega arith)
    ∙ ap (λ (s : List ℕ). paste s at (person_part rooms before d i) 10) c.loop-i.invariant
    ∙ pieces_more (person_part rooms before d) c.args.sheet.now 0 10 i at (person_part_long rooms before d) (omega arith) (omega arith)
