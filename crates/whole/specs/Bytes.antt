-- The eight bytes of a number, the lowest first, at a place among other bytes, and the number of eight bytes. Assumes nothing: these are definitions.
use Rattle.std.specs.Prelude.{◌≡◌, ℕ, ◌+◌, ◌^◌, ◌<◌, ◌≤◌, ◌⊎◌, List, ◌++◌, length, take, drop, ℤ, slice_index}
use Rattle.std.specs.Int.{w64, cast_signed, cast_unsigned}
use Rattle.rooms.specs.Bytes.{low_bytes, from_bytes, Bytes}
use Rattle.whole.specs.Bits.{Signed64}

-- The eight bytes of a number.
unfoldable pub bytes_of : ℕ → List ℕ
bytes_of x = low_bytes 8 x

-- The eight bytes at a place.
abbrev pub eight_at : List ℕ → ℕ → List ℕ
eight_at s at = take 8 (drop at s)

-- The number that stands at a place.
unfoldable pub number_at : List ℕ → ℕ → ℕ
number_at s at = from_bytes (eight_at s at)

-- The bytes s with those of x at a place; all others are as they were.
unfoldable pub put : List ℕ → ℕ → ℕ → List ℕ
put s at x = take at s ++ (bytes_of x ++ drop (at + 8) s)

-- A number has eight bytes, and they are bytes.
abbrev pub Eight : Type 0
Eight = (x : ℕ) → (length (bytes_of x) ≡ 8) × Bytes (bytes_of x)

-- What was written is read back.
abbrev pub ReadBack : Type 0
ReadBack = (s : List ℕ) (at x : ℕ) → at + 8 ≤ length s → x < 2 ^ 64 → number_at (put s at x) at ≡ x

-- A write keeps the length and every other byte, and so each number that stands wholly before or after it.
abbrev pub Kept : Type 0
Kept =
    (s : List ℕ) (at x : ℕ) → at + 8 ≤ length s →
    (length (put s at x) ≡ length s) × ((k : ℕ) → (k < at) ⊎ (at + 8 ≤ k) → slice_index (put s at x) k ≡ slice_index s k)
    × ((p : ℕ) → (p + 8 ≤ at) ⊎ (at + 8 ≤ p) → number_at (put s at x) p ≡ number_at s p)

-- A number that is read from bytes fits in 64 bits.
abbrev pub Below : Type 0
Below = (s : List ℕ) (at : ℕ) → Bytes s → number_at s at < 2 ^ 64

-- Its eight bytes are those that were read.
abbrev pub BytesBack : Type 0
BytesBack = (s : List ℕ) (at : ℕ) → at + 8 ≤ length s → Bytes s → bytes_of (number_at s at) ≡ eight_at s at

-- Both hold of signed numbers, by way of their bits.
pub record SignedBytesBack : Type 0 where
  pub read : (s : List ℕ) (at : ℕ) (x : ℤ) → at + 8 ≤ length s → Signed64 x → cast_signed w64 (number_at (put s at (cast_unsigned w64 x)) at) ≡ x
  pub again : (s : List ℕ) (at : ℕ) → at + 8 ≤ length s → Bytes s → bytes_of (cast_unsigned w64 (cast_signed w64 (number_at s at))) ≡ eight_at s at
