-- What is found of a test, from what is known of each number, and back.
use Rattle.std.proofs.Common.{◌≡◌, ℕ, ◌<◌, ◌≤◌, Bool, true, false, cond, List, Option, Some, None, Bor, sym, ap, ◌∙◌, refl, arith}
use Rattle.std.proofs.lemmas.Bool.{ltb-true}
use Rattle.std.proofs.lemmas.Iterator.{first_from_Range}
use Rattle.std.proofs.iter.Yields.{nat_range_steps}
use Rattle.std.specs.Bool.{⊤}
use Rattle.std.specs.Fn.{CalledAt}
use Rattle.std.specs.Iterator.{YieldsThen}
use Rattle.std.specs.List.{FoldsTo}
use Rattle.std.specs.Option.{MatchOption, option_map}
use Rattle.std.specs.declared.ops.Range.{Range}
use denote.Param.Members.{Mut}
use Rattle.rooms.specs.First.{first, found, some}
use Rattle.rooms.proofs.First.{false_some, first_at, first_is, found_from_Range, true_some}
use Rattle.sheet.specs.Pairs.{found_pair}

module _ (t : ℕ → Bool) (n : ℕ) where
  pub found_is : (k : ℕ) → k < n → t k ≡ true → ((j : ℕ) → j < k → t j ≡ false) → Some k ≡ found t n
  found_is k l h before =
      ap Some (sym (first_is t n k l h before)) ∙ ap (λ b. cond b (Some (first t n)) None) (sym (true_some t n k l h))

  pub none_found : ((k : ℕ) → k < n → t k ≡ false) → None ≡ found t n
  none_found h = ap (λ b. cond b (Some (first t n)) None) (sym (false_some t n h))

  pub found_at : (i : ℕ) → Some i ≡ found t n → (some t n ≡ true) × (i ≡ first t n)
  found_at i e = go (some t n) refl e
    where
      go : (b : Bool) → some t n ≡ b → Some i ≡ cond b (Some (first t n)) None → (some t n ≡ true) × (i ≡ first t n)
      go true u e = (u, cc)
      go false u e = absurd (cc)

  pub found_none : None ≡ found t n → some t n ≡ false
  found_none e = go (some t n) refl e
    where
      go : (b : Bool) → some t n ≡ b → None ≡ cond b (Some (first t n)) None → some t n ≡ false
      go true u e = absurd (cc)
      go false u e = u

  -- Where one is found, it is below n and the test holds at it.
  pub found_there : (i : ℕ) → Some i ≡ found t n → (i < n) × (t i ≡ true)
  found_there i e =
      let a = found_at i e in
      let l = ltb-true _ _ a.0 in
      (rw a.1 l, rw a.1 (first_at t n l))

-- What `find` over the numbers below n answers, where the closure is the test, and n is written otherwise.
pub found_below : {F : Type 0} {g : Mut F (Bor ℕ × Unit {0}) Bool} (t : ℕ → Bool) (n m : ℕ) (u : Range ℕ) (f : F) (r : Option ℕ) →
    (xs : List ℕ) × (j : F) × YieldsThen nat_range_steps (record { start = 0; end = n }) xs r u × FoldsTo (λ p x q. CalledAt g p x false q) f xs j ×
    MatchOption r ⊤ (λ x. (h : F) × CalledAt g j x true h) → n ≡ m →
    ((x : ℕ) (b : Bool) (q : F) → CalledAt g f x b q → (q ≡ f) × (b ≡ t x)) → r ≡ found t m
found_below t n m u f r ran e test = found_from_Range t n u f r ran test ∙ ap (found t) e

-- The same where the closure is the test at the numbers below n.
pub found_within : {F : Type 0} {g : Mut F (Bor ℕ × Unit {0}) Bool} (t : ℕ → Bool) (n : ℕ) (u : Range ℕ) (f : F) (r : Option ℕ) →
    (xs : List ℕ) × (j : F) × YieldsThen nat_range_steps (record { start = 0; end = n }) xs r u × FoldsTo (λ p x q. CalledAt g p x false q) f xs j ×
    MatchOption r ⊤ (λ x. (h : F) × CalledAt g j x true h) →
    ((x : ℕ) (b : Bool) (q : F) → CalledAt g f x b q → (q ≡ f) × (x < n → b ≡ t x)) → r ≡ found t n
found_within t n u f r ran test =
    go r (first_from_Range _ u f r (λ x. x < n → t x ≡ true) (λ x. x < n → t x ≡ false) ran (λ x q k l. sym ((test x true q k).1 l)) (λ x q k. let a = test x false q k in (a.0, λ l. sym (a.1 l))))
  where
    go : (r : Option ℕ) →
        MatchOption r ((k : ℕ) → 0 ≤ k → k < n → k < n → t k ≡ false) (λ i. (0 ≤ i) × (i < n) × (i < n → t i ≡ true) × ((k : ℕ) → 0 ≤ k → k < i → k < n → t k ≡ false)) → r ≡ found t n
    go None h = none_found t n (λ k l. h k (omega arith) l l)
    go (Some i) h = found_is t n i h.1 (h.2 h.1) (λ k l. h.3 k (omega arith) l (omega (arith, h.1)))

-- A pair is found where its first number is, with the second that is found with it.
module _ (t : ℕ → ℕ → Bool) (n : ℕ) where
  pub no_pair : None ≡ found (λ i. some (t i) n) n → None ≡ found_pair t n
  no_pair e = ap (option_map (λ i. (i, first (t i) n))) e

  pub pair_is : (i r : ℕ) → Some i ≡ found (λ i. some (t i) n) n → Some r ≡ found (t i) n → Some (i, r) ≡ found_pair t n
  pair_is i r e f = let a = (found_at (t i) n r f).1 in ap (λ r. Some (i, r)) a ∙ ap (option_map (λ i. (i, first (t i) n))) e

  pub no_pair_found : None ≡ found_pair t n → None ≡ found (λ i. some (t i) n) n
  no_pair_found e = go (found (λ i. some (t i) n) n) e
    where
      go : (o : Option ℕ) → None ≡ option_map {U = ℕ × ℕ} (λ i. (i, first (t i) n)) o → None ≡ o
      go None e = refl
      go (Some k) e = absurd (cc)

  pub pair_at : (i r : ℕ) → Some (i, r) ≡ found_pair t n → (Some i ≡ found (λ i. some (t i) n) n) × (r ≡ first (t i) n)
  pair_at i r e = go (found (λ i. some (t i) n) n) e
    where
      go : (o : Option ℕ) → Some (i, r) ≡ option_map {U = ℕ × ℕ} (λ i. (i, first (t i) n)) o → (Some i ≡ o) × (r ≡ first (t i) n)
      go None e = absurd (cc)
      go (Some k) e =
          let q : ◌≡◌ {A = ℕ × ℕ} (i, r) (k, first (t k) n) = cc in
          let p : i ≡ k = ap (λ (z : ℕ × ℕ). z.0) q in
          (ap Some p, ap (λ (z : ℕ × ℕ). z.1) q ∙ ap (λ j. first (t j) n) (sym p))
