-- The rents made from the longest rows, and what is proved of them. Assumes nothing: these are definitions and statements.
use Rattle.std.specs.Prelude.{◌≡◌, ℕ, ◌<◌, ◌≤◌, List, map, length, ℤ, pos, ◌+ℤ◌, ◌-ℤ◌, ◌*ℤ◌, ◌≤ℤ◌, nat_eq}
use Rattle.std.specs.List.{range_with_len}
use Rattle.rooms.specs.First.{first}
use Rattle.rooms.specs.House.{House, Housed, Settled, joint, own_gain, rent_of, room_of, sum, value}
use Rattle.rooms.specs.Promise.{BestSharing, Fairest, Poorest}
use Rattle.rooms.specs.Rows.{Longest, number, way}

-- What is left when everybody gains the length of their longest row, and the rent is paid: the joint worth less the rent less all the lengths. It is
-- shared evenly, and may be below nothing.
unfoldable pub spare : House → List ℕ → List ℤ → ℤ
spare h room d = (joint h room -ℤ pos h.rent) -ℤ sum (λ i. number d i) h.n

-- What person i pays, n times: what their room is worth to them, less the length of their longest row, less an even part of what is spare.
abbrev pub due : House → List ℕ → List ℤ → ℕ → ℤ
due h room d i = (value h i (room_of room i) -ℤ number d i) *ℤ pos h.n -ℤ spare h room d

-- The rents over the scale n are what everybody pays for their room.
pub record Rents (h : House) (room : List ℕ) (d ps : List ℤ) : Type 0 where
  pub priced : h.n ≤ length ps
  pub each : (i : ℕ) → i < h.n → rent_of ps (room_of room i) ≡ due h room d i

-- Whose room r is.
abbrev pub whose : House → List ℕ → ℕ → ℕ
whose h room r = first (λ i. nat_eq (room_of room i) r) h.n

-- Those rents, room by room.
abbrev pub rents_of : House → List ℕ → List ℤ → List ℤ
rents_of h room d = map (λ r. due h room d (whose h room r)) (range_with_len 0 h.n)

-- A best sharing with its longest rows and the rents made from them, for somebody at least.
pub record Made (h : House) (room : List ℕ) (d ps : List ℤ) : Type 0 where
  pub someone : 0 < h.n
  pub housed : Housed h room
  pub best : BestSharing h room
  pub longest : Longest h room d
  pub rents : Rents h room d ps

-- For any sharing and any numbers d there are such rents.
abbrev pub RentsExist : Type 0
RentsExist = (h : House) (room : List ℕ) (d : List ℤ) → Housed h room → Rents h room d (rents_of h room d)

-- Such rents add up to the house's, whatever the numbers d; and everybody gains d(i) and an even part of what is spare.
abbrev pub RentsAddUp : Type 0
RentsAddUp =
    (h : House) (room : List ℕ) (d ps : List ℤ) → Housed h room → Rents h room d ps →
    (sum (λ r. rent_of ps r) h.n ≡ pos h.rent *ℤ pos h.n)
    × ((i : ℕ) → i < h.n → own_gain h room h.n ps i ≡ number d i *ℤ pos h.n +ℤ spare h room d)

-- Where no way leads to more than d, they settle the sharing.
abbrev pub RentsSettle : Type 0
RentsSettle =
    (h : House) (room : List ℕ) (d ps : List ℤ) → 0 < h.n → Housed h room → Rents h room d ps →
    ((k i : ℕ) → k < h.n → i < h.n → (number d k +ℤ way h room k i) ≤ℤ number d i) → Settled h room h.n ps

-- Somebody has least, and whoever has least gains just an even part of what is spare; they are those whose longest row is nothing long.
abbrev pub LeastSpare : Type 0
LeastSpare =
    (h : House) (room : List ℕ) (d ps : List ℤ) → Made h room d ps → ((j : ℕ) × Poorest h room h.n ps j)
    × ((j : ℕ) → Poorest h room h.n ps j → (number d j ≡ pos 0) × (own_gain h room h.n ps j ≡ spare h room d))
    × ((j : ℕ) → j < h.n → number d j ≡ pos 0 → Poorest h room h.n ps j)

-- No settlement gives everybody more than that.
abbrev pub NoneMore : Type 0
NoneMore =
    (h : House) (room : List ℕ) (d ps : List ℤ) → Made h room d ps → (other : List ℕ) (e : ℕ) (qs : List ℤ) (t : ℤ) → Settled h other e qs →
    ((i : ℕ) → i < h.n → t ≤ℤ own_gain h other e qs i) → (t *ℤ pos h.n) ≤ℤ (spare h room d *ℤ pos e)

-- Every settlement that gives everybody as much has the same rents.
abbrev pub SameRents : Type 0
SameRents =
    (h : House) (room : List ℕ) (d ps : List ℤ) → Made h room d ps → (other : List ℕ) (e : ℕ) (qs : List ℤ) → Settled h other e qs →
    ((i : ℕ) → i < h.n → (spare h room d *ℤ pos e) ≤ℤ (own_gain h other e qs i *ℤ pos h.n)) →
    (r : ℕ) → r < h.n → rent_of qs r *ℤ pos h.n ≡ rent_of ps r *ℤ pos e

-- So these rents are the fairest.
abbrev pub MadeFairest : Type 0
MadeFairest = (h : House) (room : List ℕ) (d ps : List ℤ) → Made h room d ps → Fairest h room h.n ps
