-- Sums over the first so many numbers: of marks that are 0 or 1, and of rounds.
use Rattle.std.proofs.Common.{◌≡◌, ℕ, zero, suc, ◌+◌, ◌*◌, ◌<◌, ◌≤◌, sym, refl, ⊎_elim, mul_assoc, suc-mul, mul_comm, mul-add, arith}
use Rattle.std.proofs.lemmas.Bool.{cases_eq}
use Rattle.assignment.specs.Run.{sum_of}

pub sum_same : (f g : ℕ → ℕ) (p : ℕ) → ((i : ℕ) → i < p → g i ≡ f i) → sum_of g p ≡ sum_of f p
unfolding sum_of
sum_same f g zero h = refl
sum_same f g (suc p) h = omega (arith, sum_same f g p (λ i l. h i (omega arith)), h p (omega arith))

pub sum_none : (f : ℕ → ℕ) (p : ℕ) → ((i : ℕ) → i < p → f i ≡ 0) → sum_of f p ≡ 0
unfolding sum_of
sum_none f zero h = refl
sum_none f (suc p) h = omega (arith, sum_none f p (λ i l. h i (omega arith)), h p (omega arith))

-- One place j has one more: the sum has one more.
pub sum_one : (f g : ℕ → ℕ) (j p : ℕ) → j < p → g j ≡ f j + 1 → ((i : ℕ) → i < p → (i ≡ j → ⊥) → g i ≡ f i) → sum_of g p ≡ sum_of f p + 1
unfolding sum_of
sum_one f g j zero l e h = absurd (omega arith)
sum_one f g j (suc p) l e h =
    ⊎_elim
    (λ (q : p ≡ j). let e' : g p ≡ f p + 1 = rw q e in omega (arith, sum_same f g p (λ i k. h i (omega arith) (λ r. omega arith))))
    (λ (q : p ≡ j → ⊥). omega (arith, h p (omega arith) q, sum_one f g j p (omega arith) e (λ i k r. h i (omega arith) r)))
    (cases_eq p j)

pub sum_most : (f : ℕ → ℕ) (c p : ℕ) → ((i : ℕ) → i < p → f i ≤ c) → sum_of f p ≤ p * c
unfolding sum_of
sum_most f c zero h = omega arith
sum_most f c (suc p) h = omega (arith, sum_most f c p (λ i l. h i (omega arith)), h p (omega arith), suc-mul p c)

-- If the one at i is at most (i + 1) × n, twice the sum is at most p × (p + 1) × n. With a = (p + 1) × n, one more step adds 2 a to p × a,
-- and (p + 1) × (a + n) = p × a + p × n + a + n = p × a + 2 a.
pub sum_half : (f : ℕ → ℕ) (n p : ℕ) → ((i : ℕ) → i < p → f i ≤ (i + 1) * n) → 2 * sum_of f p ≤ p * ((p + 1) * n)
unfolding sum_of
sum_half f n zero h = omega arith
sum_half f n (suc p) h =
    let a : ℕ = (p + 1) * n in
    let e : (suc p + 1) * n ≡ (p + 1) * n + n = rw suc_mul_more in
    rw e (omega (
      arith,
      sum_half f n p (λ i l. h i (omega arith)),
      h p (omega arith),
      suc-mul p ((p + 1) * n + n),
      mul-add p ((p + 1) * n) n,
      p_more,
    ))
  where
    suc_mul_more : (suc p + 1) * n ≡ (p + 1) * n + n
    suc_mul_more = let q : suc p + 1 ≡ suc (p + 1) = omega arith in rw q (suc-mul (p + 1) n)

    p_more : (p + 1) * n ≡ p * n + n
    p_more = let q : p + 1 ≡ suc p = omega arith in rw q (suc-mul p n)

pub cube_half : (n : ℕ) → n * ((n + 1) * n) ≡ n * n * (n + 1)
cube_half n = rw (mul_comm (n + 1) n) (sym (mul_assoc n n (n + 1)))
