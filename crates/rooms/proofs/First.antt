-- The first number at which a test holds: the test fails before it, holds at it, and there is only one such number.
use Rattle.std.proofs.Common.{◌≡◌, ℕ, zero, suc, ◌<◌, sym, ◌≤◌, Bool, true, false, cond, eqb, ltb, ◌⊎◌, Decides, refl, ap, ◌∙◌, inl, inr, arith}
use Rattle.std.proofs.lemmas.Bool.{le-ltb, ltb-true, ltb-false, eqb-true, eq-eqb, both_ways, cases_Bool, cases_eq}
use Rattle.std.proofs.lemmas.Iterator.{first_from_Range}
use Rattle.std.proofs.iter.Yields.{nat_range_steps}
use Rattle.std.proofs.Common.{List, Option, Some, None, Bor}
use Rattle.std.specs.Bool.{⊤}
use Rattle.std.specs.Fn.{CalledAt}
use Rattle.std.specs.Iterator.{YieldsThen}
use Rattle.std.specs.List.{FoldsTo}
use Rattle.std.specs.Option.{MatchOption}
use Rattle.std.specs.declared.ops.Range.{Range}
use denote.Param.Members.{Mut}
use Rattle.rooms.specs.First.{first, found, or_here, some}

-- What one more number does: a first one stays, else it is this number or the one after.
pub first_more : (t : ℕ → Bool) (n : ℕ) →
    ((first t n < n) × (first t (suc n) ≡ first t n)) ⊎
    ((n ≤ first t n) × (t n ≡ true) × (first t (suc n) ≡ n)) ⊎ ((n ≤ first t n) × (t n ≡ false) × (first t (suc n) ≡ suc n))
first_more t n = go (ltb (first t n) n) (t n) refl
  where
    go : (s b : Bool) → ltb (first t n) n ≡ s →
        ((first t n < n) × (cond s (first t n) (cond b n (suc n)) ≡ first t n)) ⊎
        ((n ≤ first t n) × (b ≡ true) × (cond s (first t n) (cond b n (suc n)) ≡ n)) ⊎ ((n ≤ first t n) × (b ≡ false) × (cond s (first t n) (cond b n (suc n)) ≡ suc n))
    go true b u = inl (ltb-true _ _ u, refl)
    go false true u = inr (inl (ltb-false _ _ u, refl, refl))
    go false false u = inr (inr (ltb-false _ _ u, refl, refl))

pub first_le : (t : ℕ → Bool) (n : ℕ) → first t n ≤ n
first_le t zero = omega arith
first_le t (suc n) = let a = first_le t n in omega (arith, first_more t n)

-- The test fails before the first.
pub first_before : (t : ℕ → Bool) (n k : ℕ) → k < first t n → t k ≡ false
first_before t zero k l = absurd (omega arith)
first_before t (suc n) k l = go (first_more t n) (first_before t n k)
  where
    go : ((first t n < n) × (first t (suc n) ≡ first t n)) ⊎
        ((n ≤ first t n) × (t n ≡ true) × (first t (suc n) ≡ n)) ⊎ ((n ≤ first t n) × (t n ≡ false) × (first t (suc n) ≡ suc n)) →
        (k < first t n → t k ≡ false) → t k ≡ false
    go (inl a) again = again (omega (arith, a.1))
    go (inr (inl a)) again = again (omega (arith, a.0, a.2))
    go (inr (inr a)) again = elim (cases_eq k n) [ inl e ↦ ap t e ∙ a.1 | inr e ↦ again (omega (arith, a.0, a.2)) ]

-- The test holds at the first, where there is one.
pub first_at : (t : ℕ → Bool) (n : ℕ) → first t n < n → t (first t n) ≡ true
first_at t zero l = absurd (omega arith)
first_at t (suc n) l = go (first_more t n) (first_at t n)
  where
    go : ((first t n < n) × (first t (suc n) ≡ first t n)) ⊎
        ((n ≤ first t n) × (t n ≡ true) × (first t (suc n) ≡ n)) ⊎ ((n ≤ first t n) × (t n ≡ false) × (first t (suc n) ≡ suc n)) →
        (first t n < n → t (first t n) ≡ true) → t (first t (suc n)) ≡ true
    go (inl a) again = ap t a.1 ∙ again a.0
    go (inr (inl a)) again = ap t a.2 ∙ a.1
    go (inr (inr a)) again = absurd (omega (arith, a.2))

-- Where it fails everywhere there is none.
pub first_none : (t : ℕ → Bool) (n : ℕ) → ((k : ℕ) → k < n → t k ≡ false) → first t n ≡ n
first_none t n h =
    elim (cases_eq (first t n) n) [ inl e ↦ e | inr e ↦ absurd (both_ways (t (first t n)) (h (first t n) (omega (arith, first_le t n))) (first_at t n (omega (arith, first_le t n)))) ]

pub none_first : (t : ℕ → Bool) (n : ℕ) → first t n ≡ n → (k : ℕ) → k < n → t k ≡ false
none_first t n e k l = first_before t n k (omega arith)

-- The only number at which it holds and before which it fails.
pub first_is : (t : ℕ → Bool) (n k : ℕ) → k < n → t k ≡ true → ((j : ℕ) → j < k → t j ≡ false) → first t n ≡ k
first_is t n k l h before =
    elim (cases_eq (first t n) k) [
      | inl e ↦ e
      | inr e ↦ elim (lower e) [
        | inl a ↦ absurd (both_ways (t (first t n)) (before (first t n) a) (first_at t n (omega arith)))
        | inr a ↦ absurd (both_ways (t k) (first_before t n k a) h)
      ]
    ]
  where
    lower : (first t n ≡ k → ⊥) → (first t n < k) ⊎ (k < first t n)
    lower e = order (ltb (first t n) k) refl
      where
        order : (b : Bool) → ltb (first t n) k ≡ b → (first t n < k) ⊎ (k < first t n)
        order true u = inl (ltb-true _ _ u)
        order false u = inr (omega (arith, ltb-false _ _ u))

-- Tests that agree below n have the same first.
pub first_same : (s t : ℕ → Bool) (n : ℕ) → ((k : ℕ) → k < n → s k ≡ t k) → first s n ≡ first t n
first_same s t zero h = refl
first_same s t (suc n) h =
    let a : first s n ≡ first t n = first_same s t n (λ k l. h k (omega arith)) in
    let b : s n ≡ t n = h n (omega arith) in
    ap (λ x. or_here x n (first s n)) b ∙ ap (or_here (t n) n) a

-- Whether there is none decides whether the test fails everywhere.
pub first_decides : (t : ℕ → Bool) (n : ℕ) → Decides (eqb (first t n) n) ((k : ℕ) → k < n → t k ≡ false)
first_decides t n = (λ e. none_first t n (eqb-true _ _ e), λ h. eq-eqb _ _ (first_none t n h))

pub some_false : (t : ℕ → Bool) (n : ℕ) → some t n ≡ false → (k : ℕ) → k < n → t k ≡ false
some_false t n e k l = first_before t n k (omega (arith, ltb-false _ _ e))

pub false_some : (t : ℕ → Bool) (n : ℕ) → ((k : ℕ) → k < n → t k ≡ false) → some t n ≡ false
false_some t n h = le-ltb _ _ (omega (arith, first_none t n h))

pub true_some : (t : ℕ → Bool) (n k : ℕ) → k < n → t k ≡ true → some t n ≡ true
true_some t n k l e =
    elim (cases_Bool (some t n)) [ inl s ↦ s | inr s ↦ absurd (both_ways (t k) (some_false t n s k l) e) ]

-- What `find` over the numbers below n answers, where the closure is the test.
pub found_from_Range : {F : Type 0} {g : Mut F (Bor ℕ × Unit {0}) Bool} (t : ℕ → Bool) (n : ℕ) (u : Range ℕ) (f : F) (r : Option ℕ) →
    (xs : List ℕ) × (j : F) × YieldsThen nat_range_steps (record { start = 0; end = n }) xs r u × FoldsTo (λ p x q. CalledAt g p x false q) f xs j ×
    MatchOption r ⊤ (λ x. (h : F) × CalledAt g j x true h) →
    ((x : ℕ) (b : Bool) (q : F) → CalledAt g f x b q → (q ≡ f) × (b ≡ t x)) → r ≡ found t n
found_from_Range t n u f r ran test =
    go r (first_from_Range _ u f r (λ x. t x ≡ true) (λ x. t x ≡ false) ran (λ x q k. sym (test x true q k).1) (λ x q k. let a = test x false q k in (a.0, sym a.1)))
  where
    go : (r : Option ℕ) →
        MatchOption r ((k : ℕ) → 0 ≤ k → k < n → t k ≡ false) (λ i. (0 ≤ i) × (i < n) × (t i ≡ true) × ((k : ℕ) → 0 ≤ k → k < i → t k ≡ false)) → r ≡ found t n
    go None h = ap (λ b. cond b (Some (first t n)) None) (sym (false_some t n (λ k l. h k (omega arith) l)))
    go (Some i) h =
        let e = first_is t n i h.1 h.2 (λ k l. h.3 k (omega arith) l) in
        ap Some (sym e) ∙ ap (λ b. cond b (Some (first t n)) None) (sym (true_some t n i h.1 h.2))
