use Rattle.std.proofs.Common.{◌≡◌, ℕ, ◌+◌, ◌*◌, ◌<◌, get_or}
use Rattle.sheet.proofs.columns.column.Given as goal

-- The entries before this one are read.
abbrev pub invariant-loop-k : goal.invariant-loop-k
invariant-loop-k g l = (k : ℕ) → k < l.k → get_or l.entry-items k g.E.Entry.NOTHING ≡ g.E.Entry.stands l.sheet (l.at + l.step * k)
