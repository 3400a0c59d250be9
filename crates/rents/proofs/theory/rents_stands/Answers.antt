use Rattle.rents.proofs.Fair.{rents_add_up, rents_exist, rents_settle}
use Rattle.rents.proofs.theory.rents_stands.Goals as goal

pub returns : goal.returns
returns c = record { exist = rents_exist; sums = rents_add_up; settle = rents_settle }
