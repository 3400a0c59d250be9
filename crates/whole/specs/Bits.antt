-- What it means that a signed number of 64 bits is held as an unsigned one. Assumes nothing: these are definitions.
use Rattle.std.specs.Prelude.{◌≡◌, ℕ, ◌^◌, ◌<◌, ℤ, pos, ◌+ℤ◌, neg_ℤ, ◌≤ℤ◌, ◌<ℤ◌}
use Rattle.std.specs.Int.{w64, cast_signed, cast_unsigned}

-- A number that an i64 can hold.
pub record Signed64 (x : ℤ) : Type 0 where
  pub low : neg_ℤ (pos (2 ^ 63)) ≤ℤ x
  pub high : x <ℤ pos (2 ^ 63)

-- The bits of a number are the number itself, and 2 ^ 64 more where it is below nothing.
abbrev pub BitsAre : Type 0
BitsAre =
    (x : ℤ) → Signed64 x →
    (cast_unsigned w64 x < 2 ^ 64) × (pos 0 ≤ℤ x → pos (cast_unsigned w64 x) ≡ x) × (x <ℤ pos 0 → pos (cast_unsigned w64 x) ≡ x +ℤ pos (2 ^ 64))

-- A number that is turned to bits and back is the same.
abbrev pub SignedBack : Type 0
SignedBack = (x : ℤ) → Signed64 x → cast_signed w64 (cast_unsigned w64 x) ≡ x

-- So are bits that are turned to a number and back, and the number is one that an i64 can hold.
abbrev pub BitsBack : Type 0
BitsBack = (b : ℕ) → b < 2 ^ 64 → Signed64 (cast_signed w64 b) × (cast_unsigned w64 (cast_signed w64 b) ≡ b)

-- Numbers of some type as bits lose nothing: the bits of each number that fits are 64, and either way is undone by the other.
pub record WordLaws {N : Type 0} (bits : N → ℕ) (of_bits : ℕ → N) (fits : N → Type 0) : Type 0 where
  pub small : (x : N) → fits x → bits x < 2 ^ 64
  pub back : (x : N) → fits x → of_bits (bits x) ≡ x
  pub again : (b : ℕ) → b < 2 ^ 64 → fits (of_bits b) × (bits (of_bits b) ≡ b)
