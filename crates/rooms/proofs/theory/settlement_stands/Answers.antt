use Rattle.rooms.proofs.Sharing.{any_best, best, fairest_at_least}
use Rattle.rooms.proofs.theory.settlement_stands.Goals as goal

pub returns : goal.returns
returns c = record { best = best; any = any_best; least = fairest_at_least }
