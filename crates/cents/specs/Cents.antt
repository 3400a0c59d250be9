-- Rents in whole cents, and what is promised of them. Assumes nothing: these are definitions and statements.
use Rattle.std.specs.Prelude.{◌≡◌, ℕ, ◌<◌, ◌≤◌, cond, List, map, length, ℤ, pos, ◌+ℤ◌, ◌-ℤ◌, ◌*ℤ◌, ◌≤ℤ◌, ◌<ℤ◌, int_lt}
use Rattle.std.specs.List.{range_with_len}
use Rattle.rooms.specs.House.{House, Settled, gain, own_gain, rent_of, sum, total}
use Rattle.whole.specs.Floor.{floor}
use Rattle.rents.specs.Answer.{Roundable}

-- Room r's rent over n, rounded toward lower numbers.
abbrev pub floor_at : ℕ → List ℤ → ℕ → ℤ
floor_at n ps r = floor (rent_of ps r) n

-- How many cents are missing when every room pays that.
unfoldable pub missing_cents : ℕ → ℕ → List ℤ → ℤ
missing_cents n rent ps = pos rent -ℤ sum (λ r. floor_at n ps r) n

-- One cent more for each of the first m rooms.
abbrev pub extra : ℤ → ℕ → ℤ
extra m r = cond (int_lt (pos r) m) (pos 1) (pos 0)

-- The rents in cents: rounded toward lower numbers, and one cent more for the rooms of the lowest numbers, as many as are missing.
abbrev pub cents_of : ℕ → ℕ → List ℤ → List ℤ
cents_of n rent ps = map (λ r. floor_at n ps r +ℤ extra (missing_cents n rent ps) r) (range_with_len 0 n)

-- c is less than one cent from the fraction p over n.
pub record Near (n : ℕ) (p c : ℤ) : Type 0 where
  pub low : (p -ℤ pos n) <ℤ (c *ℤ pos n)
  pub high : (c *ℤ pos n) <ℤ (p +ℤ pos n)

-- Fewer than n rooms pay one cent more than the fraction rounded toward lower numbers, those of the lowest numbers; the others pay just that.
pub record LowestMore (n : ℕ) (ps cs : List ℤ) : Type 0 where
  pub many : ℕ
  pub fewer : many < n
  pub more : (r : ℕ) → r < many → rent_of cs r ≡ floor_at n ps r +ℤ pos 1
  pub others : (r : ℕ) → many ≤ r → r < n → rent_of cs r ≡ floor_at n ps r

-- Where the rents ps over n settle a sharing of a house of n, nobody would gain more than one cent by another room at the rents cs.
abbrev pub WithinACent : ℕ → List ℤ → List ℤ → Type 0
WithinACent n ps cs =
    (h : House) (room : List ℕ) → h.n ≡ n → Settled h room n ps →
    (i r : ℕ) → i < n → r < n → gain h 1 cs i r ≤ℤ (own_gain h room 1 cs i +ℤ pos 1)

-- What is promised of the rents cs in cents for the rents ps over n: they add up to the whole rent exactly.
pub record Rounded (n rent : ℕ) (ps cs : List ℤ) : Type 0 where
  pub sums : total cs n ≡ pos rent
  pub near : (r : ℕ) → r < n → Near n (rent_of ps r) (rent_of cs r)
  pub lowest : LowestMore n ps cs
  pub content : WithinACent n ps cs

-- It holds of the rents in cents, and of no others.
abbrev pub CentsRounded : Type 0
CentsRounded = (n rent : ℕ) (ps : List ℤ) → Roundable n rent ps → Rounded n rent ps (cents_of n rent ps)

abbrev pub OnlyCents : Type 0
OnlyCents = (n rent : ℕ) (ps cs : List ℤ) → length cs ≡ n → Rounded n rent ps cs → cs ≡ cents_of n rent ps

-- Any rents less than one cent from those that settle are within a cent.
abbrev pub NearContent : Type 0
NearContent = (n : ℕ) (ps cs : List ℤ) → ((r : ℕ) → r < n → Near n (rent_of ps r) (rent_of cs r)) → WithinACent n ps cs
