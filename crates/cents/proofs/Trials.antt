-- That written numbers can be paid in whole cents, by a test at each.
use Rattle.std.proofs.Common.{◌≡◌, ℕ, ◌<◌, ◌≤◌, Bool, false, not, ◌||◌, eqb, List, ℤ, pos, ◌*ℤ◌, neg_ℤ, ◌≤ℤ◌, sym, ◌∙◌, arith}
use lib.Signed.{lt_z}
use Rattle.std.proofs.lemmas.Int.{ints}
use Rattle.std.proofs.lemmas.Bool.{eqb-true, not-false, or_parts}
use Rattle.rooms.specs.First.{some}
use Rattle.rooms.specs.Format.{most_people}
use Rattle.rooms.specs.House.{rent_of, total}
use Rattle.rooms.proofs.First.{some_false}
use Rattle.whole.specs.Floor.{rest}
use Rattle.rents.specs.Answer.{Roundable, most_due}

-- A rent leaves another remainder than the first, or is too large.
abbrev pub fault : ℕ → List ℤ → ℕ → Bool
fault n ps r = not (eqb (rest (rent_of ps r) n) (rest (rent_of ps 0) n)) || (lt_z (pos most_due) (rent_of ps r) || lt_z (rent_of ps r) (neg_ℤ (pos most_due)))

at_most : (a b : ℤ) → lt_z a b ≡ false → b ≤ℤ a
at_most a b e = grind (arith, ints)

pub roundable_by : (n rent : ℕ) (ps : List ℤ) → 0 < n → n ≤ most_people → total ps n ≡ pos rent *ℤ pos n → some (fault n ps) n ≡ false → Roundable n rent ps
roundable_by n rent ps o few sums none = record {
  someone = o;
  few = few;
  sums = sums;
  even = λ q r l m. same q l ∙ sym (same r m);
  small = λ r l.
      let p = or_parts _ _ (parts r l).1 in
      record { low = at_most (rent_of ps r) (neg_ℤ (pos most_due)) p.1; high = at_most (pos most_due) (rent_of ps r) p.0 };
}
  where
    parts : (r : ℕ) → r < n → (not (eqb (rest (rent_of ps r) n) (rest (rent_of ps 0) n)) ≡ false) × ((lt_z (pos most_due) (rent_of ps r) || lt_z (rent_of ps r) (neg_ℤ (pos most_due))) ≡ false)
    parts r l = or_parts _ _ (some_false (fault n ps) n none r l)

    same : (r : ℕ) → r < n → rest (rent_of ps r) n ≡ rest (rent_of ps 0) n
    same r l = eqb-true _ _ (not-false _ (parts r l).0)
