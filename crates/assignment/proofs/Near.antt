-- The nearest room that is not reached.
use Rattle.std.proofs.Common.{◌≡◌, ℕ, zero, suc, ◌+◌, ◌<◌, ◌≤◌, List, length, Some, Bool, true, false, cond, ◌⊎◌, sym, refl, ◌∙◌, inl, inr, ⊎_elim, add-one, arith}
use Rattle.std.proofs.lemmas.Bool.{cases_eq, cases_lt, lt-ltb, cond-true, cond-false}
use Rattle.std.proofs.lemmas.Bool.Decides.{nat_tests}
use Rattle.std.proofs.lemmas.List.Quantifiers.{position-Some}
use Rattle.std.proofs.lemmas.List.Sums.{fails_before_first}
use Rattle.std.specs.Prelude.{position, ◌==◌}
use Rattle.std.specs.Option.{IsSome}
use Rattle.std.specs.List.{position_or_len}
use Rattle.assignment.specs.Search.{at, is_closer, nearest_of}

-- Room m is a nearest one of those that are not reached.
pub record Nearest (n : ℕ) (b s : ℕ → ℕ) (m : ℕ) : Type 0 where
  pub here : m < n
  pub fresh : s m ≡ 0
  pub least : (t : ℕ) → t < n → s t ≡ 0 → b m ≤ b t

-- One more turn of the loop.
pub nearest_more : (n : ℕ) (b s : ℕ → ℕ) (k a : ℕ) → a ≡ nearest_of n b s k → nearest_of n b s (k + 1) ≡ cond (is_closer n b s k a) k a
unfolding nearest_of
nearest_more n b s k a e = rw (add-one, e)

-- What is known after the first k rooms: all are reached and m is n, or m is a nearest of them.
abbrev SoFar : ℕ → (ℕ → ℕ) → (ℕ → ℕ) → ℕ → ℕ → Type 0
SoFar n b s k m =
    ((m ≡ n) × ((r : ℕ) → r < k → 0 < s r))
    ⊎ ((m < k) × (s m ≡ 0) × ((r : ℕ) → r < k → s r ≡ 0 → b m ≤ b r))

near_step : (n : ℕ) (b s : ℕ → ℕ) (k m : ℕ) (t : Bool) → t ≡ is_closer n b s k m → k < n → SoFar n b s k m → SoFar n b s (suc k) (cond t k m)
near_step n b s k m true e h (inl (q, none)) =
    inr (omega arith, grind (arith, nat_tests), λ r l z. ⊎_elim (λ (x : r ≡ k). grind arith) (λ (x : r ≡ k → ⊥). grind (arith, none r)) (cases_eq r k))
near_step n b s k m true e h (inr (q, z, low)) =
    inr (omega arith, grind (arith, nat_tests), λ r l y. ⊎_elim (λ (x : r ≡ k). grind arith) (λ (x : r ≡ k → ⊥). grind (arith, nat_tests, low r)) (cases_eq r k))
near_step n b s k m false e h (inl (q, none)) =
    inl (q, λ r l. ⊎_elim (λ (x : r ≡ k). grind (arith, nat_tests)) (λ (x : r ≡ k → ⊥). none r (omega arith)) (cases_eq r k))
near_step n b s k m false e h (inr (q, z, low)) =
    inr (omega arith, z, λ r l y. ⊎_elim (λ (x : r ≡ k). grind (arith, nat_tests)) (λ (x : r ≡ k → ⊥). low r (omega arith) y) (cases_eq r k))

near_so : (n : ℕ) (b s : ℕ → ℕ) (k : ℕ) → k ≤ n → SoFar n b s k (nearest_of n b s k)
unfolding nearest_of
near_so n b s zero h = inl (refl, λ r l. omega arith)
near_so n b s (suc k) h = near_step n b s k (nearest_of n b s k) _ refl (omega arith) (near_so n b s k (omega arith))

-- Where some room q is not reached, the loop finds a nearest.
pub nearest_is : (n : ℕ) (b s : ℕ → ℕ) (q : ℕ) → q < n → s q ≡ 0 → Nearest n b s (nearest_of n b s n)
nearest_is n b s q h z =
    ⊎_elim
    (λ (x : (nearest_of n b s n ≡ n) × ((r : ℕ) → r < n → 0 < s r)). absurd (omega (arith, x.1 q h)))
    (λ (x : (nearest_of n b s n < n) × (s (nearest_of n b s n) ≡ 0) × ((r : ℕ) → r < n → s r ≡ 0 → b (nearest_of n b s n) ≤ b r)). record { here = x.0; fresh = x.1; least = x.2 })
    (near_so n b s n (omega arith))

-- What the loop keeps, which begins at the first room that is not reached: near is the nearest of the first k rooms, or none of them is fresh and near is
-- the first that is.
pub record Nearing (n : ℕ) (b s : ℕ → ℕ) (k m : ℕ) : Type 0 where
  pub here : m < n
  pub fresh : s m ≡ 0
  pub so_far : ((m < k) × (nearest_of n b s k ≡ m)) ⊎ ((k ≤ m) × (nearest_of n b s k ≡ n) × ((r : ℕ) → r < m → 0 < s r))

-- There is a first one.
pub first_some : (xs : List ℕ) (q : ℕ) → q < length xs → at xs q ≡ 0 → IsSome (position (λ x. x == 0) xs)
first_some xs q l z =
    ⊎_elim
    (λ (h : position_or_len (λ x. x == 0) xs < length xs). rw (lt-ltb _ _ h) refl)
    (λ (h : length xs ≤ position_or_len (λ x. x == 0) xs). absurd (grind (arith, nat_tests, fails_before_first (λ x. x == 0) xs q 0)))
    (cases_lt (position_or_len (λ x. x == 0) xs) (length xs))

pub nearing_none : (b : ℕ → ℕ) (xs : List ℕ) (m : ℕ) → position (λ x. x == 0) xs ≡ Some m → Nearing (length xs) b (at xs) 0 m
unfolding nearest_of
nearing_none b xs m e =
    let f = position-Some (λ x. x == 0) xs m 0 e in
    record { here = f.0; fresh = grind (arith, nat_tests, f.1); so_far = inr (omega arith, refl, λ r l. grind (arith, nat_tests, f.2 r l)) }

module _ (n : ℕ) (b s : ℕ → ℕ) (k m : ℕ) (h : k < n) (g : Nearing n b s k m) where
  pub nearing_taken : s k ≡ 0 → b k < b m → Nearing n b s (k + 1) k
  nearing_taken z l = record { here = h; fresh = z; so_far = inl (omega arith, nearest_more n b s k _ refl ∙ cond-true _ _ _ (closer g.so_far)) }
    where
      closer : ((m < k) × (nearest_of n b s k ≡ m)) ⊎ ((k ≤ m) × (nearest_of n b s k ≡ n) × ((r : ℕ) → r < m → 0 < s r)) → is_closer n b s k (nearest_of n b s k) ≡ true
      closer (inl x) = grind (arith, nat_tests)
      closer (inr x) = grind (arith, nat_tests)

  pub nearing_kept : (s k ≡ 0 → b m ≤ b k) → Nearing n b s (k + 1) m
  nearing_kept l = record { here = g.here; fresh = g.fresh; so_far = go g.so_far }
    where
      go : ((m < k) × (nearest_of n b s k ≡ m)) ⊎ ((k ≤ m) × (nearest_of n b s k ≡ n) × ((r : ℕ) → r < m → 0 < s r)) →
          ((m < k + 1) × (nearest_of n b s (k + 1) ≡ m)) ⊎ ((k + 1 ≤ m) × (nearest_of n b s (k + 1) ≡ n) × ((r : ℕ) → r < m → 0 < s r))
      go (inl x) =
          let t : is_closer n b s k (nearest_of n b s k) ≡ false = grind (arith, nat_tests, g.here) in
          inl (omega arith, nearest_more n b s k _ refl ∙ cond-false _ _ _ t ∙ x.1)
      go (inr x) = ⊎_elim
          (λ (q : k ≡ m).
          let t : is_closer n b s k (nearest_of n b s k) ≡ true = grind (arith, nat_tests, g.fresh) in
          inl (omega arith, nearest_more n b s k _ refl ∙ cond-true _ _ _ t ∙ q))
          (λ (q : k ≡ m → ⊥).
          let t : is_closer n b s k (nearest_of n b s k) ≡ false = grind (arith, nat_tests, x.2 k) in
          inr (omega arith, nearest_more n b s k _ refl ∙ cond-false _ _ _ t ∙ x.1, x.2))
          (cases_eq k m)

pub nearing_all : (n : ℕ) (b s : ℕ → ℕ) (k m : ℕ) → k ≡ n → Nearing n b s k m → m ≡ nearest_of n b s n
nearing_all n b s k m e g =
    let h = g.here in
    ⊎_elim
    (λ (x : (m < k) × (nearest_of n b s k ≡ m)). sym (rw e at x.1))
    (λ (x : (k ≤ m) × (nearest_of n b s k ≡ n) × ((r : ℕ) → r < m → 0 < s r)). absurd (omega arith))
    g.so_far
