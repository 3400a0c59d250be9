use Rattle.std.proofs.Common.{arith}
use Rattle.assignment.proofs.Lowered.{lowered_all}
use Rattle.assignment.proofs.rounds.lower.Goals as goal

pub returns : goal.returns
returns c =
    lowered_all _ _ c.args.distance.now c.args.rooms.now.room.now _ _ _ _ c.split_at_mut-placed.ensures.value c.split_at_mut-placed.ensures.front_len (omega arith) (omega arith)
    (λ k l. c.loop-i.invariant.0 k (omega arith))
