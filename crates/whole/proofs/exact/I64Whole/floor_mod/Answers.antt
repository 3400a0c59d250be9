use Rattle.std.specs.Int.{w64}
use Rattle.whole.proofs.Floors.{remaining, rests}
use Rattle.whole.proofs.exact.I64Whole.floor_mod.Goals as goal

pub returns : goal.returns
returns c =
    let a = c.args.self in
    let n = c.args.n in
    let d = c.rem_euclid in
    let e = remaining w64 a c.from.result d.result n c.ranges.self (record { sfits = c.from.type_inv }) (record { sfits = d.type_inv }) c.from.ensures d.ensures.value in
    record { value = e; below = rw e (rests a n c.requires).0 }
