use Rattle.rooms.specs.House.{worth_at}
use Rattle.rooms.specs.Format.{house_of}
use Rattle.assignment.proofs.Growth.{GrowingTree}
use Rattle.assignment.proofs.search.grow.Given as goal

abbrev pub invariant-loop-k : goal.invariant-loop-k
invariant-loop-k l =
    let h = house_of l.group.bytes.now in
    GrowingTree h.n (worth_at h) l.p l.standing l.tree l.k
