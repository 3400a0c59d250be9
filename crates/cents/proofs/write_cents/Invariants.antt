use Rattle.std.proofs.Common.{◌≡◌, ℕ, ◌<◌, get_or}
use Rattle.rents.specs.Answer.{bits, held}
use Rattle.cents.specs.Cents.{cents_of}
use Rattle.cents.proofs.write_cents.Given as goal

-- The cents of the rooms before this one are written.
abbrev pub invariant-loop-r : goal.invariant-loop-r
invariant-loop-r l = (k : ℕ) → k < l.r → get_or l.cent-items k 0 ≡ get_or (bits (cents_of l.n l.rent (held l.n l.fn.rents))) k 0
