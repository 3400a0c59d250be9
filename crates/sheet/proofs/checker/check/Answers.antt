use Rattle.std.proofs.Common.{◌≡◌, ℕ, List, length, sym, ap, ◌∙◌}
use Rattle.rooms.specs.Format.{house_of, taken}
use Rattle.rooms.specs.Refused.{number_of, place_of}
use Rattle.sheet.specs.Format.{sheet_length, sheet_of}
use Rattle.sheet.specs.Judge.{judge_sheet}
use Rattle.sheet.proofs.Meant.{accepted_told, entered_whole, judged_length, judged_refused, judged_sheet, payable_told}
use Rattle.sheet.proofs.checker.check.Goals as goal

pub returns-in-Err : goal.returns-in-Err
returns-in-Err c =
    let g = c.args.group.now in
    let s = c.args.sheet.now in
    let j = judged_refused g s (number_of c.in-Err.refusal, place_of c.in-Err.refusal) c.in-Err.ensures in
    record { judged = j; plain = tt; accepted = accepted_told g s _ j; payable = payable_told g s _ j }

pub returns-then-sheet-sheet_len : goal.returns-then-sheet-sheet_len
returns-then-sheet-sheet_len c =
    let g = c.args.group.now in
    let s = c.args.sheet.now in
    let n : c.count-n.result ≡ (house_of g).n = c.count-n.ensures.people ∙ ap (λ (b : List ℕ). (house_of b).n) c.in-Ok.ensures.0 in
    let j = judged_length g s (house_of g) (c.in-Ok.ensures.1 ∙ ap (λ (b : List ℕ). taken (house_of b)) c.in-Ok.ensures.0) (λ e. c.if-sheet-sheet_len.true (e ∙ ap sheet_length (sym n) ∙ sym c.sheet_len.ensures)) in
    record { judged = j; plain = tt; accepted = accepted_told g s _ j; payable = payable_told g s _ j }

pub returns : goal.returns
returns c =
    let g = c.args.group.now in
    let s = c.args.sheet.now in
    let b = c.in-Ok.group.bytes.now in
    let n : c.count-n.result ≡ (house_of g).n = c.count-n.ensures.people ∙ ap (λ (b : List ℕ). (house_of b).n) c.in-Ok.ensures.0 in
    let l : length s ≡ sheet_length (house_of g).n = c.if-sheet-sheet_len.false ∙ c.sheet_len.ensures ∙ ap sheet_length n in
    let e = entered_whole (house_of b) c.read_entries.result s c.count-n.result c.count-n.ensures.people c.read_entries.ensures in
    let j = c.check_entries.ensures.judged ∙ ap (judge_sheet (house_of b)) e
    ∙ ap (λ (x : List ℕ). judge_sheet (house_of x) (sheet_of (house_of x).n s)) c.in-Ok.ensures.0 ∙ judged_sheet g s (house_of g) (c.in-Ok.ensures.1 ∙ ap (λ (b : List ℕ). taken (house_of b)) c.in-Ok.ensures.0) l in
    record { judged = j; plain = c.check_entries.ensures.plain; accepted = accepted_told g s _ j; payable = payable_told g s _ j }
