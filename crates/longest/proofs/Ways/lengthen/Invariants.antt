use Rattle.std.proofs.Common.{◌≡◌, ℕ, ◌-◌, ◌<◌, ◌≤◌}
use Rattle.rooms.specs.Format.{most_worth}
use Rattle.assignment.specs.Search.{at}
use Rattle.longest.specs.Run.{in_table, run}
use Rattle.longest.specs.View.{lefts, standing}
use Rattle.longest.proofs.Nearest.{Leads}
use Rattle.longest.proofs.Ways.lengthen.Given as goal

abbrev pub invariant-longer : goal.invariant-longer
invariant-longer l =
    (run (in_table l.self.slacks.now l.self.n) l.self.n (l.self.n - l.round) (standing l.rows l.offers l.rounds)
    ≡ run (in_table l.self.slacks.now l.self.n) l.self.n l.self.n (standing l.initial.rows l.initial.offers 0))
    × (l.rounds ≡ l.round)
    × ((i : ℕ) → i < l.self.n → at (lefts l.rows) i ≤ most_worth)

abbrev pub invariant-loop-i : goal.invariant-loop-i
invariant-loop-i l = Leads l.self.n l.rows l.offer-items l.i l.next
