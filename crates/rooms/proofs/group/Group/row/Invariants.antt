use Rattle.std.proofs.Common.{◌≡◌, ℕ, ◌+◌, ◌*◌, ◌<◌, get_or}
use Rattle.rooms.specs.Format.{people, worth_word}
use Rattle.rooms.proofs.group.Group.row.Given as goal

-- The worths of the rooms before this one are written.
abbrev pub invariant-loop-r : goal.invariant-loop-r
invariant-loop-r l = (k : ℕ) → k < l.r → get_or l.worths k 0 ≡ worth_word l.self.bytes.now (l.i * people l.self.bytes.now + k)
