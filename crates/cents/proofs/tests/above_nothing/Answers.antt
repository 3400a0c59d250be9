use Rattle.std.proofs.Common.{[], ◌∷◌, refl, lit<, lit≤}
use Rattle.rooms.specs.House.{sum}
use Rattle.whole.specs.Floor.{rest}
use Rattle.rents.specs.Answer.{held}
use Rattle.cents.proofs.Trials.{roundable_by}
use Rattle.cents.proofs.tests.above_nothing.Goals as goal

pub write_cents-requires : goal.write_cents-requires
unfolding sum rest
write_cents-requires g c = record { roundable = roundable_by 2 15 (held 2 (15 ∷ 15 ∷ 1 ∷ 2 ∷ 3 ∷ [])) (lit< tt) (lit≤ tt) refl refl; enough = lit≤ tt }

pub write_cents-requires-2 : goal.write_cents-requires-2
unfolding sum rest
write_cents-requires-2 g c = record { roundable = roundable_by 2 100 (held 2 (110 ∷ 90 ∷ 1 ∷ 2 ∷ [])) (lit< tt) (lit≤ tt) refl refl; enough = lit≤ tt }

pub write_cents-requires-3 : goal.write_cents-requires-3
unfolding sum rest
write_cents-requires-3 g c = record { roundable = roundable_by 3 11 (held 3 (11 ∷ 11 ∷ 11 ∷ 1 ∷ 2 ∷ 3 ∷ 4 ∷ [])) (lit< tt) (lit≤ tt) refl refl; enough = lit≤ tt }

pub write_cents-requires-4 : goal.write_cents-requires-4
unfolding sum rest
write_cents-requires-4 g c = record { roundable = roundable_by 1 9 (held 1 (9 ∷ 1 ∷ [])) (lit< tt) (lit≤ tt) refl refl; enough = lit≤ tt }
