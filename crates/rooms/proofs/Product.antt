-- Products of an integer with a natural, which omega does not take apart by itself.
use Rattle.std.proofs.Common.{◌≡◌, ℕ, ◌+◌, ◌*◌, ◌<◌, ◌≤◌, ℤ, pos, ◌+ℤ◌, ◌-ℤ◌, ◌*ℤ◌, neg_ℤ, ◌≤ℤ◌, ap, mul-le-mul_right, le_of_mul-le-mul_right, arith}
use borrow.Author.Differences.{up, down, sum_is_lem, neg_is, product_is, le_out, at_most_in}
use Rattle.std.proofs.lemmas.Int.{ints}

pub times_add : (a b : ℤ) (d : ℕ) → (a +ℤ b) *ℤ pos d ≡ a *ℤ pos d +ℤ b *ℤ pos d
times_add a b d = omega (arith, ints, ap (λ (x : ℕ). x * d) (sum_is_lem a b))

pub times_sub : (a b : ℤ) (d : ℕ) → (a -ℤ b) *ℤ pos d ≡ a *ℤ pos d -ℤ b *ℤ pos d
times_sub a b d = omega (arith, ints, times_add a (neg_ℤ b) d, ap (λ (x : ℕ). x * d) (neg_is b).0, ap (λ (x : ℕ). x * d) (neg_is b).1)

-- The order of two such factors is free.
pub times_turn : (a : ℤ) (d e : ℕ) → (a *ℤ pos d) *ℤ pos e ≡ (a *ℤ pos e) *ℤ pos d
times_turn a d e =
    omega (
      arith,
      ints,
      ap (λ (x : ℕ). x * e) (product_is a (pos d)).0,
      ap (λ (x : ℕ). x * e) (product_is a (pos d)).1,
      ap (λ (x : ℕ). x * d) (product_is a (pos e)).0,
      ap (λ (x : ℕ). x * d) (product_is a (pos e)).1,
    )

pub times_both : (a : ℤ) (d e : ℕ) → a *ℤ pos (d * e) ≡ (a *ℤ pos d) *ℤ pos e
times_both a d e = omega (arith, ints, ap (λ (x : ℕ). x * e) (product_is a (pos d)).0, ap (λ (x : ℕ). x * e) (product_is a (pos d)).1)

pub times_le : (a b : ℤ) (d : ℕ) → a ≤ℤ b → (a *ℤ pos d) ≤ℤ (b *ℤ pos d)
times_le a b d h = omega (arith, ints, mul-le-mul_right d (le_out a b h))

pub times_cancel : (a b : ℤ) (d : ℕ) → 0 < d → (a *ℤ pos d) ≤ℤ (b *ℤ pos d) → a ≤ℤ b
times_cancel a b d p h =
    let k : (up a + down b) * d ≤ (up b + down a) * d = omega (arith, ints) in
    at_most_in a b (le_of_mul-le-mul_right k p)

pub times_same : (a b : ℤ) (d : ℕ) → 0 < d → a *ℤ pos d ≡ b *ℤ pos d → a ≡ b
times_same a b d p h =
    let u : a ≤ℤ b = times_cancel a b d p (omega (arith, ints)) in
    let v : b ≤ℤ a = times_cancel b a d p (omega (arith, ints)) in
    omega (arith, ints)

pub times_none : (a : ℤ) (d : ℕ) → pos 0 ≤ℤ a → pos 0 ≤ℤ (a *ℤ pos d)
times_none a d h = let k = times_le (pos 0) a d h in omega (arith, ints)
