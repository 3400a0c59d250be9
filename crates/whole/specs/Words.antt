-- Neither kind of numbers of eight bytes loses anything as bits.
use Rattle.std.specs.Prelude.{ℕ, ◌^◌, ◌<◌, ℤ, pos, negsuc, refl}
use Rattle.std.specs.Int.{w64, cast_signed, cast_unsigned}
use Rattle.std.proofs.Common.{SFits, arith}
use Rattle.std.proofs.lemmas.Int.{ints, of_z-to_z, to_z-of_z}
use Rattle.whole.specs.Bits.{Signed64, WordLaws}

pub unsigned_word : WordLaws (λ (x : ℕ). x) (λ b. b) (λ x. x < 2 ^ 64)
unsigned_word = record { small = λ x f. f; back = λ x f. refl; again = λ b l. (l, refl) }

fits : (x : ℤ) → Signed64 x → SFits w64 x
fits x f = omega (arith, ints)

small : (x : ℤ) → Signed64 x → cast_unsigned w64 x < 2 ^ 64
small (pos n) f = omega (arith, ints)
small (negsuc n) f = omega arith

signed : (b : ℕ) → b < 2 ^ 64 → Signed64 (cast_signed w64 b)
signed b l = Prim.search (arith, ints)

pub signed_word : WordLaws (cast_unsigned w64) (cast_signed w64) Signed64
signed_word = record {
  small = small;
  back = λ x f. to_z-of_z w64 x (fits x f);
  again = λ b l. (signed b l, of_z-to_z w64 b l);
}
