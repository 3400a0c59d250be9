-- The first two numbers at which a test of two holds. Assumes nothing: this is a definition.
use Rattle.std.specs.Prelude.{ℕ, Bool, Option}
use Rattle.std.specs.Option.{option_map}
use Rattle.rooms.specs.First.{first, found, some}

-- The first number below n with which the test holds of some other, and the first such other, where there are any.
abbrev pub found_pair : (ℕ → ℕ → Bool) → ℕ → Option (ℕ × ℕ)
found_pair t n = option_map (λ i. (i, first (t i) n)) (found (λ i. some (t i) n) n)
