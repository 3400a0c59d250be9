-- What the first number is at which a test holds. Assumes nothing: these are definitions.
use Rattle.std.specs.Prelude.{ℕ, zero, suc, Bool, cond, nat_lt, Option, Some, None}

-- r where the test has held before n, at r; else n where it holds there, and the number after where it does not.
abbrev pub or_here : Bool → ℕ → ℕ → ℕ
or_here here n r = cond (nat_lt r n) r (cond here n (suc n))

-- The first number below n at which the test holds; n where there is none.
abbrev pub first : (ℕ → Bool) → ℕ → ℕ
first t zero = zero
first t (suc n) = or_here (t n) n (first t n)

-- The test holds at some number below n.
abbrev pub some : (ℕ → Bool) → ℕ → Bool
some t n = nat_lt (first t n) n

-- The first number below n at which the test holds, where there is one.
abbrev pub found : (ℕ → Bool) → ℕ → Option ℕ
found t n = cond (some t n) (Some (first t n)) None
