-- A finite search, and that of more than n numbers below n two are equal.
use Rattle.std.proofs.Common.{◌≡◌, ℕ, zero, suc, ◌<◌, ◌≤◌, ◌⊎◌, sym, subst, inl, inr, arith}
use Rattle.std.proofs.lemmas.Bool.{cases_eq, cases_order}
use Rattle.rooms.proofs.Reorder.{onto}

-- One of which P holds, or Q of each.
pub find : (P Q : ℕ → Type 0) (n : ℕ) → ((i : ℕ) → i < n → P i ⊎ Q i) → ((i : ℕ) × (i < n) × P i) ⊎ ((i : ℕ) → i < n → Q i)
find P Q zero f = inr (λ i l. absurd (omega arith))
find P Q (suc n) f = last (f n (omega arith)) (find P Q n (λ i l. f i (omega arith)))
  where
    last : P n ⊎ Q n → ((i : ℕ) × (i < n) × P i) ⊎ ((i : ℕ) → i < n → Q i) → ((i : ℕ) × (i < suc n) × P i) ⊎ ((i : ℕ) → i < suc n → Q i)
    last (inl p) r = inl (n, omega arith, p)
    last (inr q) (inl r) = let l : r.0 < n = r.1 in inl (r.0, omega arith, r.2)
    last (inr q) (inr r) = inr (λ i l. elim (cases_eq i n) [ inl e ↦ subst Q (sym e) q | inr e ↦ r i (omega arith) ])

pub record Twice (f : ℕ → ℕ) (n : ℕ) : Type 0 where
  pub a : ℕ
  pub b : ℕ
  pub order : a < b
  pub within : b ≤ n
  pub same : f a ≡ f b

-- Of the n + 1 numbers f 0 to f n, all below n, two are equal: where the first n differ they are all numbers below n, and f n is one of them.
pub pigeonhole : (f : ℕ → ℕ) (n : ℕ) → ((k : ℕ) → k ≤ n → f k < n) → Twice f n
pigeonhole f n low =
    last (
    find (λ b. (a : ℕ) × (a < b) × (f a ≡ f b)) (λ b. (a : ℕ) → a < b → f a ≡ f b → ⊥) n
    (λ b l. find (λ a. f a ≡ f b) (λ a. f a ≡ f b → ⊥) b (λ a m. cases_eq (f a) (f b)))
    )
  where
    last : ((b : ℕ) × (b < n) × ((a : ℕ) × (a < b) × (f a ≡ f b))) ⊎ ((b : ℕ) → b < n → (a : ℕ) → a < b → f a ≡ f b → ⊥) → Twice f n
    last (inl t) = let l : t.0 < n = t.1 in record { a = t.2.0; b = t.0; order = t.2.1; within = omega arith; same = t.2.2 }
    last (inr apart) =
        let o = onto f n (record { each = λ k l. low k (omega arith); own = own }) (f n) (low n (omega arith)) in
        record { a = o.0; b = n; order = o.1; within = omega arith; same = o.2 }
      where
        own : (i j : ℕ) → i < n → j < n → f i ≡ f j → i ≡ j
        own i j l m e =
            elim (cases_order i j) [ inl q ↦ q | inr q ↦ elim q [ inl q ↦ absurd (apart j m i q e) | inr q ↦ absurd (apart i l j q (sym e)) ] ]
