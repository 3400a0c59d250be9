use Rattle.rents.proofs.Sizes.{rents_roundable, rents_small}
use Rattle.rents.proofs.fairest.answer_stands.Goals as goal

pub returns : goal.returns
returns c = record { small = rents_small; roundable = rents_roundable }
