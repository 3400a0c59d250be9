use Rattle.std.proofs.Common.{arith, get_or}
use Rattle.longest.proofs.Slacks.{covers}
use Rattle.longest.proofs.Best.write_slacks.Goals as goal

pub overflow_sub-slack : goal.overflow_sub-slack
overflow_sub-slack c =
    let p = c.args.self.now.solved.certified in
    omega (arith, c.from.ensures, c.row-mine.ensures.each (get_or c.args.self.now.rooms.now c.loop-k.k 0), covers _ _ _ _ p c.args.i (get_or c.args.self.now.rooms.now c.loop-k.k 0) (omega arith) (p.housed.each c.loop-k.k (omega arith)))
