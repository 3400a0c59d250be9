-- Numbers below n, one for each number below n and none twice, are the numbers below n in another order.
use Rattle.std.proofs.Common.{◌≡◌, ℕ, zero, suc, ◌<◌, ◌≤◌, Bool, true, false, cond, eqb, ◌⊎◌, ℤ, ◌+ℤ◌, refl, ap, inl, inr, arith, eqb-true}
use borrow.Author.Tests.{eqb_apart}
use Rattle.std.proofs.lemmas.Int.{ints}
use Rattle.rooms.specs.House.{sum}
use Rattle.rooms.proofs.Sum.{sum_same, sum_but}

-- a and b exchanged.
unfoldable pub swap : ℕ → ℕ → ℕ → ℕ
swap a b x = cond (eqb x a) b (cond (eqb x b) a x)

pub swap_is : (a b x : ℕ) → ((x ≡ a) × (swap a b x ≡ b)) ⊎ ((x ≡ b) × (swap a b x ≡ a)) ⊎ (((¬ (x ≡ a)) × (¬ (x ≡ b))) × (swap a b x ≡ x))
unfolding swap
swap_is a b x = go (eqb x a) (eqb x b) refl refl
  where
    go : (s t : Bool) → eqb x a ≡ s → eqb x b ≡ t →
        ((x ≡ a) × (cond s b (cond t a x) ≡ b)) ⊎ ((x ≡ b) × (cond s b (cond t a x) ≡ a)) ⊎ (((¬ (x ≡ a)) × (¬ (x ≡ b))) × (cond s b (cond t a x) ≡ x))
    go true t u v = inl (eqb-true x a u, refl)
    go false true u v = inr (inl (eqb-true x b v, refl))
    go false false u v = inr (inr ((eqb_apart x a u, eqb_apart x b v), refl))

pub swap_own : (a b x y : ℕ) → swap a b x ≡ swap a b y → x ≡ y
swap_own a b x y e = omega (arith, swap_is a b x, swap_is a b y)

pub swap_back : (a b x : ℕ) → swap a b (swap a b x) ≡ x
swap_back a b x = omega (arith, swap_is a b x, swap_is a b (swap a b x))

-- To exchange two numbers changes no sum: one of the two is the last, and at the other the terms differ by as much as at the last.
pub sum_swap : (f : ℕ → ℤ) (r n : ℕ) → r ≤ n → sum (λ i. f (swap r n i)) (suc n) ≡ sum f (suc n)
unfolding sum
sum_swap f r n l = last (eqb r n) refl
  where
    last : (t : Bool) → eqb r n ≡ t → f (swap r n n) +ℤ sum (λ i. f (swap r n i)) n ≡ f n +ℤ sum f n
    last true u =
        let v : r ≡ n = eqb-true r n u in
        let a : f (swap r n n) ≡ f n = ap f (omega (arith, swap_is r n n)) in
        let b : sum (λ i. f (swap r n i)) n ≡ sum f n = sum_same (λ i. f (swap r n i)) f n (λ i m. ap f (omega (arith, swap_is r n i))) in
        omega (arith, ints)
    last false u =
        let v : r < n = omega (arith, eqb_apart r n u) in
        let a : f (swap r n n) ≡ f r = ap f (omega (arith, swap_is r n n)) in
        let c : f (swap r n r) ≡ f n = ap f (omega (arith, swap_is r n r)) in
        let b : sum (λ i. f (swap r n i)) n +ℤ f r ≡ sum f n +ℤ f (swap r n r) =
        sum_but (λ i. f (swap r n i)) f r n v (λ i m q. ap f (omega (arith, swap_is r n i))) in
        omega (arith, ints)

-- Each has one below n, and no two the same: a permutation of the numbers below n.
pub record Permutation (p : ℕ → ℕ) (n : ℕ) : Type 0 where
  pub each : (i : ℕ) → i < n → p i < n
  pub own : (i j : ℕ) → i < n → j < n → p i ≡ p j → i ≡ j

-- With the last one's number and the last number exchanged the last one has the last number, and the others permute those below.
tidy : (p : ℕ → ℕ) (n : ℕ) → Permutation p (suc n) → Permutation (λ i. swap (p n) n (p i)) n
tidy p n s = record {
  each = λ i l.
      let a : p i < suc n = s.each i (omega arith) in
      let b : p n < suc n = s.each n (omega arith) in
      let c : ¬ (p i ≡ p n) = λ e. omega (arith, s.own i n (omega arith) (omega arith) e) in
      omega (arith, swap_is (p n) n (p i));
  own = λ i j l m e. s.own i j (omega arith) (omega arith) (swap_own (p n) n (p i) (p j) e);
}

-- Each number below n is somebody's. By induction: the last one has it, or, once the last one's number and the last number are exchanged, somebody
-- before the last one has it.
pub onto : (p : ℕ → ℕ) (n : ℕ) → Permutation p n → (r : ℕ) → r < n → (i : ℕ) × (i < n) × (p i ≡ r)
onto p zero s r l = absurd (omega arith)
onto p (suc n) s r l = last (eqb (p n) r) refl (onto (λ i. swap (p n) n (p i)) n (tidy p n s) (swap (p n) n r))
  where
    last : (t : Bool) → eqb (p n) r ≡ t → (swap (p n) n r < n → (i : ℕ) × (i < n) × (swap (p n) n (p i) ≡ swap (p n) n r)) → (i : ℕ) × (i < suc n) × (p i ≡ r)
    last true u go = (n, omega arith, eqb-true (p n) r u)
    last false u go =
        let a : p n < suc n = s.each n (omega arith) in
        let k = go (omega (arith, swap_is (p n) n r, eqb_apart (p n) r u)) in
        let b : k.0 < n = k.1 in
        (k.0, omega arith, swap_own (p n) n (p k.0) r k.2)

-- The order of a sum is free. By induction: exchange the last one's number with the last number, which changes no sum, and leave out the last.
pub sum_permuted : (p : ℕ → ℕ) (n : ℕ) → Permutation p n → (f : ℕ → ℤ) → sum (λ i. f (p i)) n ≡ sum f n
unfolding sum
sum_permuted p zero s f = refl
sum_permuted p (suc n) s f =
    let q : p n < suc n = s.each n (omega arith) in
    let a = sum_permuted (λ i. swap (p n) n (p i)) n (tidy p n s) (λ x. f (swap (p n) n x)) in
    let b : sum (λ i. f (swap (p n) n (swap (p n) n (p i)))) n ≡ sum (λ i. f (p i)) n =
    sum_same (λ i. f (swap (p n) n (swap (p n) n (p i)))) (λ i. f (p i)) n (λ i m. ap f (swap_back (p n) n (p i))) in
    let c = sum_swap f (p n) n (omega arith) in
    let d : f (swap (p n) n n) ≡ f (p n) = ap f (omega (arith, swap_is (p n) n n)) in
    omega (arith, ints)
