use Rattle.std.proofs.Common.{◌≡◌, length}
use Rattle.rooms.specs.House.{sum}
use Rattle.rents.specs.Answer.{held}
use Rattle.cents.specs.Cents.{floor_at}
use Rattle.cents.proofs.missing_cents.Given as goal

-- The floors of the rooms before this one have been added up.
abbrev pub invariant-loop-fraction : goal.invariant-loop-fraction
invariant-loop-fraction l = l.floors ≡ sum (λ r. floor_at (length l.rents) (held (length l.rents) l.rents) r) l.fraction-index
