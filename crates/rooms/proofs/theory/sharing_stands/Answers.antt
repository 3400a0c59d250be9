use Rattle.rooms.proofs.Sharing.{certified_best, holder, same_sum}
use Rattle.rooms.proofs.theory.sharing_stands.Goals as goal

pub returns : goal.returns
returns c = record { onto = holder; sums = same_sum; certified = certified_best }
