-- A bound above and below nothing, and how bounds add up. Assumes nothing: these are definitions.
use Rattle.std.specs.Prelude.{ℕ, ◌+◌, ◌*◌, ◌<◌, ◌≤◌, ℤ, pos, ◌+ℤ◌, ◌-ℤ◌, ◌*ℤ◌, neg_ℤ, ◌≤ℤ◌}
use Rattle.rooms.specs.House.{sum}

-- z is at most b above or below nothing.
pub record Within (b : ℕ) (z : ℤ) : Type 0 where
  pub low : neg_ℤ (pos b) ≤ℤ z
  pub high : z ≤ℤ pos b

-- A higher bound is a bound too.
abbrev pub Wider : Type 0
Wider = (a b : ℕ) (x : ℤ) → a ≤ b → Within a x → Within b x

-- Of a sum, of a difference, and of a product with a factor that has no sign.
abbrev pub SumWithin : Type 0
SumWithin = (a b : ℕ) (x y : ℤ) → Within a x → Within b y → Within (a + b) (x +ℤ y)

abbrev pub DifferenceWithin : Type 0
DifferenceWithin = (a b : ℕ) (x y : ℤ) → Within a x → Within b y → Within (a + b) (x -ℤ y)

abbrev pub ProductWithin : Type 0
ProductWithin = (a b : ℕ) (x : ℤ) (n : ℕ) → Within a x → n ≤ b → Within (a * b) (x *ℤ pos n)

-- At most m numbers, each within b, are together within m times b.
abbrev pub TotalWithin : Type 0
TotalWithin = (b m : ℕ) (f : ℕ → ℤ) (n : ℕ) → n ≤ m → ((i : ℕ) → i < n → Within b (f i)) → Within (b * m) (sum f n)
