-- That written rooms and numbers are a best sharing with its longest rows, by the tests of a claim.
use Rattle.std.proofs.Common.{◌≡◌, ℕ, ◌<◌, ◌≤◌, true, false, ltb, List, length, get_or, ℤ, inl, inr, arith}
use Rattle.std.proofs.lemmas.List.{get_or_past}
use Rattle.std.proofs.lemmas.Bool.{cases_lt, ltb-false}
use Rattle.rooms.specs.First.{some}
use Rattle.rooms.specs.Format.{most_worth}
use Rattle.rooms.specs.House.{House}
use Rattle.rooms.specs.Rows.{signed}
use Rattle.rooms.proofs.First.{some_false}
use Rattle.rents.specs.Answer.{Measured}
use Rattle.rents.specs.Faults.{shows}
use Rattle.rents.specs.Shown.{Claim}
use Rattle.rents.proofs.Faults.{shows_decides}
use Rattle.rents.proofs.Shown.{shown_fairest}

low_by : (b : ℕ) (d : List ℕ) → some (λ i. ltb b (get_or d i 0)) (length d) ≡ false → (i : ℕ) → get_or d i 0 ≤ b
low_by b d e i = elim (cases_lt i (length d)) [
  | inl l ↦ ltb-false b (get_or d i 0) (some_false (λ i. ltb b (get_or d i 0)) (length d) e i l)
  | inr l ↦ let z = get_or_past d i 0 l in omega arith
]

pub measured_by : (h : House) (room before d : List ℕ) (ps u v : List ℤ) → 0 < h.n →
    shows h (record { room = room; before = before; d = signed d; rents = ps; persons = u; rooms = v }) ≡ true →
    some (λ i. ltb most_worth (get_or d i 0)) (length d) ≡ false → Measured h room d
measured_by h room before d ps u v o e low =
    let c : Claim = record { room = room; before = before; d = signed d; rents = ps; persons = u; rooms = v } in
    let s = (shows_decides h c).0 e in
    let f = shown_fairest h c o s in
    record { housed = s.housed; best = f.best; longest = f.longest; low = low_by most_worth d low }
