use Rattle.std.proofs.Common.{arith}
use Rattle.rooms.specs.Format.{most_people}
use Rattle.longest.proofs.Padded.{padded_by}
use Rattle.longest.proofs.lengths.Goals as goal

pub returns : goal.returns
returns c =
    padded_by _ _ most_people c.loop-i.d c.requires.0 c.loop-i.invariant.0 (λ j h. c.loop-i.invariant.1 j (omega arith)) (λ j h. c.loop-i.invariant.2 j (omega arith))
