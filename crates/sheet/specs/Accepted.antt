-- What a judgement of a sheet means: an accepted sheet shows the fairest share, whatever shows it is accepted, and a refusal names what is false.
-- Assumes nothing: these are definitions and statements.
use Rattle.std.specs.Prelude.{◌≡◌, ℕ, ◌+◌, ◌<◌, ◌≤◌, true, ◌⊎◌, List, length, pos, ◌+ℤ◌, ◌<ℤ◌, ◌≢◌}
use Rattle.rooms.specs.Before.{Comes, RowsShown, on_circle}
use Rattle.rooms.specs.Format.{read}
use Rattle.rooms.specs.Format.Reading.{taken}
use Rattle.rooms.specs.House.{House, Housed, Settled, rent_of, room_of, value}
use Rattle.rooms.specs.Rows.{Certified, number, way}
use Rattle.rents.specs.Rents.{Rents, due, rents_of, whose}
use Rattle.rents.specs.Shown.{Claim, Means, Shown, Whole}
use Rattle.cents.specs.Cents.{Rounded, cents_of}
use Rattle.sheet.specs.Format.{Sheet, sheet_length, sheet_of}
use Rattle.sheet.specs.Judge.{judge, judge_sheet, place}
use Rattle.sheet.specs.Judge.Judgement.{accepted, faulty}

-- The cents of every room are those of the rents that the claim's rooms and rows make.
abbrev pub RightCents : House → Sheet → Type 0
RightCents h s =
    (r : ℕ) → r < h.n → number s.cents r ≡ number (cents_of h.n h.rent (rents_of h s.claim.room s.claim.d)) r

-- A sheet that speaks of everybody and every room is accepted just where its claim is shown and its cents are right.
abbrev pub AcceptedShown : Type 0
AcceptedShown = (h : House) (s : Sheet) → Whole h s.claim → judge_sheet h s ≡ accepted → Shown h s.claim × RightCents h s

abbrev pub ShownAccepted : Type 0
ShownAccepted = (h : House) (s : Sheet) → Shown h s.claim → RightCents h s → judge_sheet h s ≡ accepted

-- THE CHECKER'S PROMISE. The group's bytes are a house's, the sheet is as long as it should be, and its claim is shown: so its rents are the fairest,
-- its sharing best and its rows longest; and its cents are those of its rents.
pub record AcceptedMeans (group sheet : List ℕ) : Type 0 where
  pub house : House
  pub taken_as : read group ≡ taken house
  pub long : length sheet ≡ sheet_length house.n
  pub shown : Shown house (sheet_of house.n sheet).claim
  pub means : Means house (sheet_of house.n sheet).claim
  pub rents : (sheet_of house.n sheet).claim.rents ≡ rents_of house (sheet_of house.n sheet).claim.room (sheet_of house.n sheet).claim.d
  pub cents : (sheet_of house.n sheet).cents ≡ cents_of house.n house.rent (sheet_of house.n sheet).claim.rents

-- It holds of what is accepted; and whatever is shown with the right cents is accepted.
abbrev pub AcceptedFair : Type 0
AcceptedFair = (group sheet : List ℕ) → judge group sheet ≡ accepted → AcceptedMeans group sheet

abbrev pub FairAccepted : Type 0
FairAccepted =
    (group sheet : List ℕ) (h : House) → read group ≡ taken h → length sheet ≡ sheet_length h.n → Shown h (sheet_of h.n sheet).claim →
    RightCents h (sheet_of h.n sheet) → judge group sheet ≡ accepted

-- What is accepted can be paid: its cents add up to the rent, are near their fractions, the lowest rooms pay the cents that are over, and as its rents
-- settle nobody gains more than one cent by another room.
pub record Payable (group sheet : List ℕ) : Type 0 where
  pub house : House
  pub taken_as : read group ≡ taken house
  pub settled : Settled house (sheet_of house.n sheet).claim.room house.n (sheet_of house.n sheet).claim.rents
  pub rounded : Rounded house.n house.rent (sheet_of house.n sheet).claim.rents (sheet_of house.n sheet).cents

abbrev pub AcceptedPayable : Type 0
AcceptedPayable = (group sheet : List ℕ) → judge group sheet ≡ accepted → Payable group sheet

-- ---- what is false where a sheet is refused

-- Person i has no room, or an earlier person's.
abbrev pub WithoutRoom : House → Claim → ℕ → Type 0
WithoutRoom h c i =
    (i < h.n) × ((h.n ≤ room_of c.room i) ⊎ ((k : ℕ) × (k < i) × (room_of c.room k ≡ room_of c.room i)))

-- The numbers of person i and room r add up to less than the worth, or to more where the room is the person's own.
abbrev pub NumbersOff : House → Claim → ℕ → ℕ → Type 0
NumbersOff h c i r =
    (i < h.n) × (r < h.n) × (((number c.persons i +ℤ number c.rooms r) <ℤ value h i r)
    ⊎ ((room_of c.room i ≡ r) × (value h i r <ℤ (number c.persons i +ℤ number c.rooms r))))

-- Person i's length is below nothing, or does not come from the person before, or i stands on a circle of persons before.
abbrev pub RowOff : House → Claim → ℕ → Type 0
RowOff h c i =
    (i < h.n) × ((number c.d i <ℤ pos 0) ⊎ ((Comes h c.room c.d c.before i → ⊥) ⊎ (on_circle c.before h.n i ≡ true)))

-- The way from k to i leads to more.
abbrev pub WayOff : House → Claim → ℕ → ℕ → Type 0
WayOff h c k i = (k < h.n) × (i < h.n) × (number c.d i <ℤ (number c.d k +ℤ way h c.room k i))

-- The rent of room r is not its tenant's; its cents are not those of that rent.
abbrev pub RentOff : House → Claim → ℕ → Type 0
RentOff h c r = (r < h.n) × (rent_of c.rents r ≢ due h c.room c.d (whose h c.room r))

abbrev pub CentsOff : House → Sheet → ℕ → Type 0
CentsOff h s r = (r < h.n) × (number s.cents r ≢ number (cents_of h.n h.rent (rents_of h s.claim.room s.claim.d)) r)

-- For each number what is at fault at the place, and what is therefore not shown.
pub data RefusedFor (h : House) (s : Sheet) (k p : ℕ) : Type 0 where
  rooms : k ≡ 7 → WithoutRoom h s.claim p → (Housed h s.claim.room → ⊥) → RefusedFor h s k p
  numbers : (i r : ℕ) → k ≡ 8 → p ≡ place i r → NumbersOff h s.claim i r →
      (Certified h s.claim.room s.claim.persons s.claim.rooms → ⊥) → RefusedFor h s k p
  rows : k ≡ 9 → RowOff h s.claim p → (RowsShown h s.claim.room s.claim.d s.claim.before → ⊥) → RefusedFor h s k p
  ways : (from to : ℕ) → k ≡ 10 → p ≡ place from to → WayOff h s.claim from to →
      (RowsShown h s.claim.room s.claim.d s.claim.before → ⊥) → RefusedFor h s k p
  rents : k ≡ 11 → RentOff h s.claim p → (Rents h s.claim.room s.claim.d s.claim.rents → ⊥) → RefusedFor h s k p
  cents : (r : ℕ) → k ≡ 11 → p ≡ r + 32 → CentsOff h s r → (RightCents h s → ⊥) → RefusedFor h s k p

abbrev pub RefusedFalse : Type 0
RefusedFalse = (h : House) (s : Sheet) (k p : ℕ) → Whole h s.claim → judge_sheet h s ≡ faulty (k, p) → RefusedFor h s k p
