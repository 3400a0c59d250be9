-- Quotient and remainder toward lower numbers. Assumes nothing: these are definitions.
use Rattle.std.specs.Prelude.{◌≡◌, ℕ, ◌-◌, ◌/◌, ◌%◌, ◌<◌, ℤ, pos, negsuc, ◌+ℤ◌, ◌*ℤ◌, ◌≤ℤ◌, ◌<ℤ◌}

-- a over n, toward lower numbers. (`negsuc a` is −(a + 1).)
unfoldable pub floor : ℤ → ℕ → ℤ
floor (pos a) n = pos (a / n)
floor (negsuc a) n = negsuc (a / n)

-- What is left of a above n times that.
unfoldable pub rest : ℤ → ℕ → ℕ
rest (pos a) n = a % n
rest (negsuc a) n = n - 1 - a % n

-- q is the greatest whole number that is n times at most a: one more would be too much.
pub record FloorOf (a : ℤ) (n : ℕ) (q : ℤ) : Type 0 where
  pub low : (q *ℤ pos n) ≤ℤ a
  pub high : a <ℤ (q *ℤ pos n +ℤ pos n)

-- The quotient is such a number, and it is the only one.
abbrev pub Floors : Type 0
Floors = (a : ℤ) (n : ℕ) → 0 < n → FloorOf a n (floor a n)

abbrev pub OnlyFloor : Type 0
OnlyFloor = (a : ℤ) (n : ℕ) (q : ℤ) → FloorOf a n q → q ≡ floor a n

-- Quotient and remainder make up the number; the remainder is not below nothing, and is below n. No others do.
abbrev pub Rests : Type 0
Rests = (a : ℤ) (n : ℕ) → 0 < n → (rest a n < n) × (a ≡ floor a n *ℤ pos n +ℤ pos (rest a n))

abbrev pub OnlyRest : Type 0
OnlyRest = (a : ℤ) (n : ℕ) (q : ℤ) (m : ℕ) → m < n → a ≡ q *ℤ pos n +ℤ pos m → (q ≡ floor a n) × (m ≡ rest a n)

-- n times k more: the quotient is k more and the remainder is the same. So numbers that differ by a multiple of n have one remainder.
abbrev pub Moved : Type 0
Moved =
    (a k : ℤ) (n : ℕ) → 0 < n →
    (floor (a +ℤ k *ℤ pos n) n ≡ floor a n +ℤ k) × (rest (a +ℤ k *ℤ pos n) n ≡ rest a n)
