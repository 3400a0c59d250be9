use Rattle.std.proofs.Common.{ℕ, ◌*◌, List, ap, ◌∙◌, arith}
use lib.Seq.{paste}
use Rattle.std.specs.List.{range_with_len, flat_map}
use Rattle.sheet.specs.Write.{number_part, room_part}
use Rattle.sheet.proofs.Sheets.{sheet_written}
use Rattle.sheet.proofs.write.write_sheet.Goals as goal

pub returns : goal.returns
returns c =
    let n = c.args.draft.now.n in
    let rents = c.args.draft.now.rents.now in
    let q = flat_map (room_part n rents) (range_with_len 0 n) in
    let u = flat_map (number_part c.args.draft.now.persons) (range_with_len 0 n) in
    let v = flat_map (number_part c.args.draft.now.prices) (range_with_len 0 n) in
    c.write_numbers-2.ensures ∙ ap (λ (s : List ℕ). paste s (34 * n) v (8 * n)) c.write_numbers.ensures
    ∙ ap (λ (s : List ℕ). paste (paste s (26 * n) u (8 * n)) (34 * n) v (8 * n)) c.write_rooms.ensures.written
    ∙ ap (λ (s : List ℕ). paste (paste (paste s (10 * n) q (16 * n)) (26 * n) u (8 * n)) (34 * n) v (8 * n)) c.write_persons.ensures
    ∙ sheet_written n c.args.draft.now.rooms.now c.args.draft.now.before c.args.draft.now.d rents c.args.draft.now.persons c.args.draft.now.prices c.args.sheet.now c.write_rooms.ensures.fits (omega arith)
