-- What is printed of a judgement, and its fault. Assumes nothing: these are definitions.
use Rattle.std.specs.Prelude.{ℕ, List, Some, None, codes, Option}
use Rattle.rooms.specs.Refused.{refusal_text}
use Rattle.sheet.specs.Judge.{Judgement}
use Rattle.sheet.specs.Judge.Judgement.{accepted, faulty}

-- The number and the place of a fault; none where the sheet is accepted.
abbrev pub fault_in : Judgement → Option (ℕ × ℕ)
fault_in accepted = None
fault_in (faulty at) = Some at

-- "accepted", or as "refused 9 at 3".
abbrev pub judgement_text : Judgement → List ℕ
judgement_text accepted = codes "accepted"
judgement_text (faulty at) = refusal_text at.0 at.1
