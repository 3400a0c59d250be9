use Rattle.std.proofs.Common.{◌≡◌, ℕ, ◌<◌, get_or, pos}
use Rattle.rooms.specs.House.{own_gain}
use Rattle.rooms.specs.Rows.{signed}
use Rattle.rooms.specs.View.{house}
use Rattle.rents.specs.Rents.{rents_of}
use Rattle.rents.proofs.sharing.Sharing.gains.Given as goal

-- The gains of the people before this one are written.
abbrev pub invariant-loop-i : goal.invariant-loop-i
invariant-loop-i l =
    (k : ℕ) → k < l.i →
    get_or l.gain-items k (pos 0) ≡ own_gain (house l.self.group) l.self.rooms.now (house l.self.group).n (rents_of (house l.self.group) l.self.rooms.now (signed l.self.d)) k
