use Rattle.rents.proofs.Fair.{least_spare, made_fairest, none_more, same_rents}
use Rattle.rents.proofs.theory.fairest_stands.Goals as goal

pub returns : goal.returns
returns c = record { least = least_spare; most = none_more; only = same_rents; fairest = made_fairest }
