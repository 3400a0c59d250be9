use Rattle.std.proofs.Common.{◌≡◌}
use Rattle.longest.specs.Run.{in_table, first_offers}
use Rattle.longest.specs.View.{lefts, offered}
use Rattle.longest.proofs.Ways.first_offers.Given as goal

abbrev pub invariant-loop-k : goal.invariant-loop-k
invariant-loop-k l = offered l.offers ≡ first_offers (in_table l.self.slacks.now l.self.n) l.self.n (lefts l.rows) l.k
