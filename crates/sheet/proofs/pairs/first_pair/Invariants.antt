use Rattle.std.proofs.Common.{◌≡◌, ℕ, ◌<◌, Bool, false}
use Rattle.rooms.specs.First.{some}
use Rattle.sheet.proofs.pairs.first_pair.Given as goal

abbrev pub invariant-loop-i : goal.invariant-loop-i
invariant-loop-i g l =
    (t : ℕ → ℕ → Bool) → ((i r : ℕ) (b : Bool) → i < l.n → r < l.n → goal.F-post g l.off i r b → b ≡ t i r) → (k : ℕ) → k < l.i-counter → some (t k) l.n ≡ false
