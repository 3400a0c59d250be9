-- What a sheet is judged, by a group's bytes and the sheet's: accepted, or the first fault, by its number and place. Assumes nothing.
use Rattle.std.specs.Prelude.{ℕ, ◌+◌, ◌*◌, Bool, cond, ◌||◌, List, length, ◌==◌}
use Rattle.rooms.specs.Before.{on_circle}
use Rattle.rooms.specs.First.{first, some}
use Rattle.rooms.specs.Format.{Reading, read}
use Rattle.rooms.specs.Format.Reading.{taken, refused}
use Rattle.rooms.specs.House.{House}
use Rattle.rooms.specs.Rows.{number}
use Rattle.rents.specs.Rents.{rents_of}
use Rattle.rents.specs.Shown.{Claim}
use Rattle.rents.specs.Faults.{differs, room_fault, number_fault, length_fault, way_fault, rent_fault}
use Rattle.cents.specs.Cents.{cents_of}
use Rattle.sheet.specs.Format.{Sheet, sheet_length, sheet_of}

pub data Judgement : Type 0 where
  accepted : Judgement
  faulty : ℕ × ℕ → Judgement

-- Where a place has two parts, the first counts 32 times.
abbrev pub place : ℕ → ℕ → ℕ
place a b = a * 32 + b

-- The cents of room r are not those of the rents that the claim's rooms and rows make.
abbrev pub cents_fault : House → Sheet → ℕ → Bool
cents_fault h s r = differs (number s.cents r) (number (cents_of h.n h.rent (rents_of h s.claim.room s.claim.d)) r)

abbrev pub price_fault : House → Sheet → ℕ → Bool
price_fault h s r = rent_fault h s.claim r || cents_fault h s r

-- A fault that the test finds somewhere below n is named by the first place at which it does; else the judgement goes on.
abbrev pub named : (ℕ → Bool) → ℕ → (ℕ → ℕ × ℕ) → Judgement → Judgement
named fault n name next = cond (some fault n) (faulty (name (first fault n))) next

-- 7: rooms not shared, the person; 8: the numbers for the joint worth, the person and the room; 9: a length or a person before, the person, and then a
-- circle of persons before, its lowest person of all; 10: a way that leads to more, from and to; 11: a rent, the room, or cents, the room and 32.
unfoldable pub judge_sheet : House → Sheet → Judgement
judge_sheet h s =
    let c : Claim = s.claim in
    let n : ℕ = h.n in
    named (room_fault h c) n (λ i. (7, i))
    (named (λ i. some (number_fault h c i) n) n (λ i. (8, place i (first (number_fault h c i) n)))
    (named (length_fault h c) n (λ i. (9, i))
    (named (on_circle c.before n) n (λ i. (9, i))
    (named (λ k. some (way_fault h c k) n) n (λ k. (10, place k (first (way_fault h c k) n)))
    (named (price_fault h s) n (λ r. (11, cond (rent_fault h c r) r (r + 32)))
    accepted)))))

-- The group's own refusals come first, then 6: a sheet of another length.
abbrev pub judge_read : Reading → List ℕ → Judgement
judge_read (refused at) sheet = faulty at
judge_read (taken h) sheet = cond (length sheet == sheet_length h.n) (judge_sheet h (sheet_of h.n sheet)) (faulty (6, length sheet))

unfoldable pub judge : List ℕ → List ℕ → Judgement
judge group sheet = judge_read (read group) sheet
