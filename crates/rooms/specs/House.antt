-- What a house, a sharing of its rooms, rents and a settlement are. Assumes nothing: these are definitions.
use Rattle.std.specs.Prelude.{◌≡◌, ℕ, zero, suc, ◌<◌, ◌≤◌, List, [], length, ℤ, pos, ◌+ℤ◌, ◌-ℤ◌, ◌*ℤ◌, ◌≤ℤ◌, slice_index, slice_index_or}

-- A house of n rooms for n people, both numbered from 0: what each room is worth to each person, a list of n worths for each, and the rent of the
-- whole house. All are cents a month.
pub record House : Type 0 where
  pub n : ℕ
  pub worth : List (List ℕ)
  pub rent : ℕ

-- What room r is worth to person i; nothing where none is written.
abbrev pub worth_at : House → ℕ → ℕ → ℕ
worth_at h i r = slice_index (slice_index_or h.worth i []) r

-- The same as a signed number, since rents and gains may be below nothing.
unfoldable pub value : House → ℕ → ℕ → ℤ
value h i r = pos (worth_at h i r)

-- A sharing is a list: the room of person 0, of person 1, and so on.
abbrev pub room_of : List ℕ → ℕ → ℕ
room_of room i = slice_index room i

-- Everybody has a room, and nobody has another's.
pub record Housed (h : House) (room : List ℕ) : Type 0 where
  pub all : h.n ≤ length room
  pub each : (i : ℕ) → i < h.n → room_of room i < h.n
  pub own : (i j : ℕ) → i < h.n → j < h.n → room_of room i ≡ room_of room j → i ≡ j

-- f 0 + f 1 + .. + f (n − 1).
unfoldable pub sum : (ℕ → ℤ) → ℕ → ℤ
sum f zero = pos 0
sum f (suc n) = f n +ℤ sum f n

-- The joint worth of a sharing: what everybody's own room is worth to them, together.
abbrev pub joint : House → List ℕ → ℤ
joint h room = sum (λ i. value h i (room_of room i)) h.n

-- Rents are exact fractions: a list of whole numbers, one for each room, over one scale d for all. They may be below nothing.
abbrev pub rent_of : List ℤ → ℕ → ℤ
rent_of ps r = slice_index_or ps r (pos 0)

-- What n rooms cost together.
abbrev pub total : List ℤ → ℕ → ℤ
total ps n = sum (λ r. rent_of ps r) n

-- What person i would gain by room r at the rents ps over d: its worth less its rent, d times.
unfoldable pub gain : House → ℕ → List ℤ → ℕ → ℕ → ℤ
gain h d ps i r = value h i r *ℤ pos d -ℤ rent_of ps r

-- What person i gains by their own room, d times.
abbrev pub own_gain : House → List ℕ → ℕ → List ℤ → ℕ → ℤ
own_gain h room d ps i = gain h d ps i (room_of room i)

-- A settlement: everybody has a room of their own, there is a rent for every room, the rents add up to the house's, and nobody would gain more by
-- another room at its rent.
pub record Settled (h : House) (room : List ℕ) (d : ℕ) (ps : List ℤ) : Type 0 where
  pub scale : 0 < d
  pub housed : Housed h room
  pub priced : h.n ≤ length ps
  pub sums : total ps h.n ≡ pos h.rent *ℤ pos d
  pub content : (i r : ℕ) → i < h.n → r < h.n → gain h d ps i r ≤ℤ own_gain h room d ps i
