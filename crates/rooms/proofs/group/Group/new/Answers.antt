use Rattle.std.proofs.Common.{sym, ap, ◌∙◌, arith}
use Rattle.rooms.specs.Format.{is_taken}
use Rattle.rooms.proofs.Taken.{passed, people_is}
use Rattle.rooms.proofs.group.Group.new.Goals as goal

pub bounds-bytes-0 : goal.bounds-bytes-0
bounds-bytes-0 c = let p = passed c.args.bytes.now (ap is_taken c.requires) in omega arith

pub invariant_of-result : goal.invariant_of-result
invariant_of-result c =
    let s = c.args.bytes.now in
    let few = (passed s (ap is_taken c.requires)).few in
    record { count = c.from.ensures ∙ sym (people_is s); few = omega (arith, c.from.ensures); good = ap is_taken c.requires }
