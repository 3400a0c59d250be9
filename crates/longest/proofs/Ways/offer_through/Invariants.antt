use Rattle.longest.specs.Run.{in_table}
use Rattle.longest.specs.View.{lefts, befores}
use Rattle.longest.proofs.Passing.{Passing}
use Rattle.longest.proofs.Ways.offer_through.Given as goal

abbrev pub invariant-loop-i : goal.invariant-loop-i
invariant-loop-i l =
    Passing (in_table l.self.slacks.now l.self.n) l.k l.rest l.i (lefts l.initial.offers) (befores l.initial.offers) (lefts l.offers) (befores l.offers)
