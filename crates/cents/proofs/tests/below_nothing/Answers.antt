use Rattle.std.proofs.Common.{[], ◌∷◌, set, replicate, refl, lit<, lit≤}
use Rattle.rooms.specs.House.{sum}
use Rattle.whole.specs.Floor.{rest}
use Rattle.rents.specs.Answer.{held}
use Rattle.cents.proofs.Trials.{roundable_by}
use Rattle.cents.proofs.tests.below_nothing.Goals as goal

pub write_cents-requires : goal.write_cents-requires
unfolding sum rest
write_cents-requires g c = record { roundable = roundable_by 2 5 (held 2 (18446744073709551609 ∷ 17 ∷ 0 ∷ 0 ∷ [])) (lit< tt) (lit≤ tt) refl refl; enough = lit≤ tt }

pub write_cents-requires-2 : goal.write_cents-requires-2
unfolding sum rest
write_cents-requires-2 g c = record { roundable = roundable_by 2 0 (held 2 (18446744073709551611 ∷ 5 ∷ 0 ∷ 0 ∷ [])) (lit< tt) (lit≤ tt) refl refl; enough = lit≤ tt }

pub write_cents-requires-3 : goal.write_cents-requires-3
unfolding sum rest
write_cents-requires-3 g c = record {
  roundable = roundable_by 24 27 (held 24 (set (replicate 48 29) 0 18446744073709551597)) (lit< tt) (lit≤ tt) refl refl;
  enough = lit≤ tt;
}
