use Rattle.std.specs.Int.{w128}
use Rattle.whole.proofs.Floors.{divided, floor_within, floors}
use Rattle.whole.proofs.wide.I128Whole.floor_div.Goals as goal

pub returns : goal.returns
returns c =
    let a = c.args.self in
    let n = c.args.n in
    let d = c.div_euclid in
    let e = divided w128 a c.from.result d.result n c.ranges.self (record { sfits = c.from.type_inv }) (record { sfits = d.type_inv }) c.from.ensures d.ensures in
    record { value = e; meant = rw e (floors a n c.requires); within = λ b w. rw e (floor_within b a n w) }
