use Rattle.std.proofs.Common.{◌≡◌, ℕ, ◌<◌, length, get_or}
use Rattle.rooms.specs.Format.{most_people}
use Rattle.rooms.specs.House.{room_of}
use Rattle.sheet.specs.Statement.{claimed_by}
use Rattle.sheet.proofs.statement.Sharing.tenants.Given as goal

-- The people before this one stand at their rooms.
abbrev pub invariant-loop-i : goal.invariant-loop-i
invariant-loop-i l =
    (length l.tenant ≡ most_people) × ((k : ℕ) → k < l.i → get_or l.tenant (room_of (claimed_by l.self.stated).room k) 0 ≡ k)
