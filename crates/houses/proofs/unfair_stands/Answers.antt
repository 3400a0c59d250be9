use Rattle.houses.proofs.Unfair.{another, equal_gains, equal_rents, in_turn, worths_as_rents}
use Rattle.houses.proofs.unfair_stands.Goals as goal

pub returns : goal.returns
returns c = record { rents = equal_rents; worths = worths_as_rents; gains = equal_gains; another = another; turns = in_turn }
