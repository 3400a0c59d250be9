-- What the tests of the longest rows say of the entries that stand in arrays.
use Rattle.std.proofs.Common.{◌≡◌, ℕ, zero, suc, ◌-◌, ◌<◌, ◌≤◌, true, false, List, length, get_or, take, ℤ, pos, ◌+ℤ◌, ◌-ℤ◌, sym, refl, ap, ◌∙◌, sub-one, arith}
use lib.Signed.{lt_z}
use Rattle.std.proofs.lemmas.List.{get_or_default, get_or-take}
use Rattle.std.proofs.lemmas.Bool.{and_left, and_from, eq-eqb, le-ltb, ne_eqb, lt-ltb, not_from_false, not_from_true, or_left, or_right}
use Rattle.rooms.specs.Before.{leads_back, nobody, prior}
use Rattle.rooms.specs.House.{House, room_of, value, worth_at}
use Rattle.rooms.specs.Rows.{number, way}
use Rattle.rents.specs.Shown.{Claim}
use Rattle.rents.specs.Faults.{differs, length_fault}

-- ---- going back
pub prior_read : (before : List ℕ) (n k : ℕ) → k < n → k < length before → prior (take n before) k ≡ get_or before k 0
prior_read before n k l m = get_or-take n before k nobody l ∙ get_or_default before k nobody 0 m

module _ (before : List ℕ) (i j : ℕ) where
  pub back_none : (left : ℕ) → prior before j ≡ nobody → false ≡ leads_back before left i j
  back_none zero e = refl
  back_none (suc m) e = sym (and_left _ _ (not_from_true _ (eq-eqb _ _ e)))

  pub back_here : (left : ℕ) → 0 < left → (prior before j ≡ nobody → ⊥) → prior before j ≡ i → true ≡ leads_back before left i j
  back_here zero l ne e = absurd (omega arith)
  back_here (suc m) l ne e = sym (and_from _ _ (not_from_false _ (ne_eqb _ _ ne)) (or_left _ _ (eq-eqb _ _ e)))

  pub back_on : (left : ℕ) → 0 < left → (prior before j ≡ nobody → ⊥) → (prior before j ≡ i → ⊥) →
      leads_back before (left - 1) i (prior before j) ≡ leads_back before left i j
  back_on zero l ne e = absurd (omega arith)
  back_on (suc m) l ne e = rw (sub-one, ne_eqb (prior before j) nobody ne, ne_eqb (prior before j) i e)

-- ---- the length of a row and a way
module _ (h : House) (c : Claim) where
  pub reach_is : (k i room : ℕ) (x : ℤ) (seen own : ℕ) → x ≡ number c.d k → room ≡ room_of c.room k → seen ≡ worth_at h i room → own ≡ worth_at h k room →
      x +ℤ (pos seen -ℤ pos own) ≡ number c.d k +ℤ way h c.room k i
  unfolding way value
  reach_is k i room x seen own a b c d = rw (a, c, d, b)

-- ---- the test of a length and the person before, case by case
module _ (h : House) (c : Claim) (i : ℕ) where
  pub length_low : (x : ℤ) → x ≡ number c.d i → lt_z x (pos 0) ≡ true → true ≡ length_fault h c i
  length_low x e t = sym (or_left _ _ (ap (λ z. lt_z z (pos 0)) (sym e) ∙ t))

  pub length_alone : (x : ℤ) → x ≡ number c.d i → lt_z x (pos 0) ≡ false → prior c.before i ≡ nobody → differs x (pos 0) ≡ length_fault h c i
  length_alone x e f p =
      let a : lt_z (number c.d i) (pos 0) ≡ false = ap (λ z. lt_z z (pos 0)) (sym e) ∙ f in
      ap (λ z. differs z (pos 0)) e ∙ rw (a, eq-eqb (prior c.before i) nobody p)

  pub length_out : (prior c.before i ≡ nobody → ⊥) → h.n ≤ prior c.before i → true ≡ length_fault h c i
  length_out ne l =
      sym (or_right (lt_z (number c.d i) (pos 0)) _ (rw (ne_eqb (prior c.before i) nobody ne) (or_left _ _ (not_from_false _ (le-ltb _ _ l)))))

  pub length_far : (x y : ℤ) → x ≡ number c.d i → y ≡ number c.d (prior c.before i) +ℤ way h c.room (prior c.before i) i →
      lt_z x (pos 0) ≡ false → (prior c.before i ≡ nobody → ⊥) → prior c.before i < h.n → differs x y ≡ length_fault h c i
  length_far x y e g f ne l =
      let a : lt_z (number c.d i) (pos 0) ≡ false = ap (λ z. lt_z z (pos 0)) (sym e) ∙ f in
      rw (e, g) (rw (a, ne_eqb (prior c.before i) nobody ne, lt-ltb (prior c.before i) h.n l))
