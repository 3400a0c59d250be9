use Rattle.std.proofs.Common.{arith}
use Rattle.rooms.specs.Format.{house_of}
use Rattle.assignment.proofs.Row.{work_within}
use Rattle.longest.proofs.tests.found_in.Goals as goal

pub assign-best-requires : goal.assign-best-requires
assign-best-requires g c = (omega arith, work_within _ _ (omega arith) (omega arith))

pub longest_rows-found-requires : goal.longest_rows-found-requires
longest_rows-found-requires g c =
    let w = work_within (house_of c.new-group.result.bytes.now).n 744 (omega arith) (omega arith) in
    record { solved = c.assign-best.ensures.solved; enough = omega arith }
