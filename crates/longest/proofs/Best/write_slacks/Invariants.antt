use Rattle.std.proofs.Common.{◌≡◌, ℕ, ◌<◌}
use Rattle.rooms.specs.Format.{house_of}
use Rattle.assignment.specs.Search.{at}
use Rattle.longest.specs.Run.{slack}
use Rattle.longest.proofs.Best.write_slacks.Given as goal

abbrev pub invariant-loop-k : goal.invariant-loop-k
invariant-loop-k l = (j : ℕ) → j < l.k → at l.line j ≡ slack (house_of l.self.group.bytes.now) l.self.rooms.now l.self.persons l.self.prices j l.i
