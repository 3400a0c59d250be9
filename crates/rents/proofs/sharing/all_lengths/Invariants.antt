use Rattle.std.proofs.Common.{◌≡◌}
use Rattle.rooms.specs.House.{sum}
use Rattle.rooms.specs.Rows.{number, signed}
use Rattle.rents.proofs.sharing.all_lengths.Given as goal

-- The lengths of the people before this one have been added up.
abbrev pub invariant-loop-row : goal.invariant-loop-row
invariant-loop-row l = l.lengths ≡ sum (λ i. number (signed l.d) i) l.row-index
