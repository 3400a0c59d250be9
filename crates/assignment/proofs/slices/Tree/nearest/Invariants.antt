use Rattle.std.proofs.Common.{length}
use Rattle.assignment.specs.Search.{at}
use Rattle.assignment.proofs.Near.{Nearing}
use Rattle.assignment.proofs.slices.Tree.nearest.Given as goal

abbrev pub invariant-loop-r : goal.invariant-loop-r
invariant-loop-r l = Nearing (length l.self.turn.now) (at l.self.distance.now) (at l.self.turn.now) l.r l.near
