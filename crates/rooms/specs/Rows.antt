-- What shows that a sharing is best, and rows of ways among people. Assumes nothing: these are definitions.
use Rattle.std.specs.Prelude.{◌≡◌, ℕ, ◌<◌, ◌≤◌, List, [], ◌∷◌, map, length, ℤ, pos, ◌+ℤ◌, ◌-ℤ◌, ◌≤ℤ◌, ◌≢◌, slice_index_or}
use Rattle.rooms.specs.House.{House, Housed, room_of, value}

-- A number for a person or a room, of a list of them.
abbrev pub number : List ℤ → ℕ → ℤ
number xs i = slice_index_or xs i (pos 0)

-- Numbers that are not below nothing, as signed ones.
abbrev pub signed : List ℕ → List ℤ
signed xs = map pos xs

-- The numbers for the joint worth, u for each person and v for each room (a dual solution): the two add up to at least the worth everywhere, and to
-- just the worth at everybody's own room.
pub record Certified (h : House) (room : List ℕ) (u v : List ℤ) : Type 0 where
  pub housed : Housed h room
  pub cover : (i r : ℕ) → i < h.n → r < h.n → value h i r ≤ℤ (number u i +ℤ number v r)
  pub tight : (i : ℕ) → i < h.n → number u i +ℤ number v (room_of room i) ≡ value h i (room_of room i)

-- The way from k to i: what i sees in k's room above what k sees in it. It may be below nothing.
unfoldable pub way : House → List ℕ → ℕ → ℕ → ℤ
way h room k i = value h i (room_of room k) -ℤ value h k (room_of room k)

-- i is none of the list.
abbrev pub Apart : ℕ → List ℕ → Type 0
Apart i [] = Unit {0}
Apart i (x ∷ xs) = (i ≢ x) × Apart i xs

-- A row of people that ends at i, told from its end back: i, then xs, who stand before i, the nearest first. All are of the n, and nobody stands in it twice.
abbrev pub Row : ℕ → ℕ → List ℕ → Type 0
Row n i [] = i < n
Row n i (k ∷ xs) = (i < n) × Apart i (k ∷ xs) × Row n k xs

-- The length of a row: the sum of its ways, nothing for a person alone.
unfoldable pub long : House → List ℕ → ℕ → List ℕ → ℤ
long h room i [] = pos 0
long h room i (k ∷ xs) = long h room k xs +ℤ way h room k i

-- Where a row begins.
abbrev pub begin : ℕ → List ℕ → ℕ
begin i [] = i
begin i (k ∷ xs) = begin k xs

-- d is, for each person, the greatest length of all rows that end there: one has it and none is longer.
pub record Longest (h : House) (room : List ℕ) (d : List ℤ) : Type 0 where
  pub all : h.n ≤ length d
  pub reached : (i : ℕ) → i < h.n → (xs : List ℕ) × Row h.n i xs × (long h room i xs ≡ number d i)
  pub most : (i : ℕ) (xs : List ℕ) → i < h.n → Row h.n i xs → long h room i xs ≤ℤ number d i
