-- The rents and gains as numbers of 64 bits: what they are computed from, which they are, and how large. Assumes nothing: these are definitions and
-- statements.
use Rattle.std.specs.Prelude.{◌≡◌, ℕ, ◌+◌, ◌-◌, ◌*◌, ◌<◌, ◌≤◌, List, ◌++◌, map, take, replicate, ℤ, pos, ◌*ℤ◌, ◌≤ℤ◌, slice_index}
use Rattle.std.specs.Int.{w64, cast_signed, cast_unsigned}
use Rattle.std.specs.List.{range_with_len}
use Rattle.rooms.specs.House.{House, Housed, joint, own_gain, rent_of, sum, total, worth_at}
use Rattle.rooms.specs.Format.{Allowed, most_people, most_rent, most_worth}
use Rattle.rooms.specs.Promise.{BestSharing, Fairest, Poorest}
use Rattle.rooms.specs.Rows.{Longest, number, signed}
use Rattle.whole.specs.Bounds.{Within}
use Rattle.whole.specs.Floor.{rest}
use Rattle.rents.specs.Rents.{Rents, due, rents_of, spare}

-- Signed numbers as bits, and the first n numbers of such bits.
abbrev pub bits : List ℤ → List ℕ
bits zs = map (cast_unsigned w64) zs

abbrev pub held : ℕ → List ℕ → List ℤ
held n xs = map (cast_signed w64) (take n xs)

-- A best sharing and the lengths of its longest rows, none of them above the highest worth.
pub record Measured (h : House) (room d : List ℕ) : Type 0 where
  pub housed : Housed h room
  pub best : BestSharing h room
  pub longest : Longest h room (signed d)
  pub low : (i : ℕ) → slice_index d i ≤ most_worth

-- What everybody gains, n times, written into an array of the most people: nothing past n.
abbrev pub gains_of : House → List ℕ → List ℤ → List ℤ
gains_of h room d = map (λ i. own_gain h room h.n (rents_of h room d) i) (range_with_len 0 h.n) ++ replicate (most_people - h.n) (pos 0)

-- The lengths d are not below nothing, and at most b.
abbrev pub Lengths : House → List ℤ → ℕ → Type 0
Lengths h d b = (i : ℕ) → i < h.n → (pos 0 ≤ℤ number d i) × (number d i ≤ℤ pos b)

-- How large n × a rent or n × a gain can be, above or below nothing, where worths and lengths are at most b; and in any group.
abbrev pub due_bound : ℕ → ℕ → ℕ → ℕ
due_bound n b rent = 3 * (b * n) + rent

abbrev pub most_due : ℕ
most_due = due_bound most_people most_worth most_rent

-- How large the numbers on the way are: the joint worth, all lengths, what is spare; then what everybody pays and gains.
pub record Small (h : House) (room : List ℕ) (d : List ℤ) (b : ℕ) : Type 0 where
  pub worths : Within (b * h.n) (joint h room)
  pub lengths : Within (b * h.n) (sum (λ i. number d i) h.n)
  pub left : Within (2 * (b * h.n) + h.rent) (spare h room d)
  pub dues : (i : ℕ) → i < h.n → Within (due_bound h.n b h.rent) (due h room d i)
  pub gains : (ps : List ℤ) → Rents h room d ps → (i : ℕ) → i < h.n → Within (due_bound h.n b h.rent) (own_gain h room h.n ps i)

abbrev pub RentsSmall : Type 0
RentsSmall =
    (h : House) (room : List ℕ) (d : List ℤ) (b : ℕ) → Housed h room → ((i r : ℕ) → worth_at h i r ≤ b) → Lengths h d b → Small h room d b

-- Rents over n that can be paid in whole cents: they add up to the whole rent, they differ by whole cents, and they are not too large.
pub record Roundable (n rent : ℕ) (ps : List ℤ) : Type 0 where
  pub someone : 0 < n
  pub few : n ≤ most_people
  pub sums : total ps n ≡ pos rent *ℤ pos n
  pub even : (q r : ℕ) → q < n → r < n → rest (rent_of ps q) n ≡ rest (rent_of ps r) n
  pub small : (r : ℕ) → r < n → Within most_due (rent_of ps r)

-- The rents made from longest rows can be: all leave the same remainder by n.
abbrev pub RentsRoundable : Type 0
RentsRoundable =
    (h : House) (room : List ℕ) (d ps : List ℤ) → Allowed h → Housed h room → Lengths h d most_worth → Rents h room d ps → Roundable h.n h.rent ps

-- What is promised of the rents computed: they are the fairest, which has them add up and settle the sharing; whoever has least gains just the least
-- and has a longest row of no length; and they can be paid in whole cents.
pub record Fair (h : House) (room : List ℕ) (d ps : List ℤ) (least : ℤ) : Type 0 where
  pub fairest : Fairest h room h.n ps
  pub poorest : (j : ℕ) → Poorest h room h.n ps j → (own_gain h room h.n ps j ≡ least) × (number d j ≡ pos 0)
  pub roundable : Roundable h.n h.rent ps
