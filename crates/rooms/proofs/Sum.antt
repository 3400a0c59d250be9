-- Sums of integers over the numbers below n.
use Rattle.std.proofs.Common.{◌≡◌, ℕ, zero, suc, ◌<◌, Bool, true, false, cond, eqb, ℤ, pos, ◌+ℤ◌, ◌-ℤ◌, ◌*ℤ◌, ◌≤ℤ◌, sym, refl, ap, arith, eq-eqb, eqb-true}
use borrow.Author.Tests.{eqb_apart, apart_eqb}
use Rattle.std.proofs.lemmas.Int.{ints}
use Rattle.rooms.specs.House.{sum}
use Rattle.rooms.proofs.Product.{times_add}

pub sum_same : (f g : ℕ → ℤ) (n : ℕ) → ((i : ℕ) → i < n → f i ≡ g i) → sum f n ≡ sum g n
unfolding sum
sum_same f g zero h = refl
sum_same f g (suc n) h =
    let a : f n ≡ g n = h n (omega arith) in
    let b : sum f n ≡ sum g n = sum_same f g n (λ i l. h i (omega arith)) in
    omega (arith, ints)

pub sum_le : (f g : ℕ → ℤ) (n : ℕ) → ((i : ℕ) → i < n → f i ≤ℤ g i) → sum f n ≤ℤ sum g n
unfolding sum
sum_le f g zero h = omega (arith, ints)
sum_le f g (suc n) h =
    let a : f n ≤ℤ g n = h n (omega arith) in
    let b : sum f n ≤ℤ sum g n = sum_le f g n (λ i l. h i (omega arith)) in
    omega (arith, ints)

-- Where no term is larger and the sums are equal, each term is equal: a lower one would make its sum lower.
pub sum_tight : (f g : ℕ → ℤ) (n : ℕ) → ((i : ℕ) → i < n → f i ≤ℤ g i) → sum g n ≤ℤ sum f n → (i : ℕ) → i < n → f i ≡ g i
unfolding sum
sum_tight f g zero h e i l = absurd (omega arith)
sum_tight f g (suc n) h e i l =
    let a : f n ≤ℤ g n = h n (omega arith) in
    let b : sum f n ≤ℤ sum g n = sum_le f g n (λ k m. h k (omega arith)) in
    let c : sum g n ≤ℤ sum f n = omega (arith, ints) in
    let d : f n ≡ g n = omega (arith, ints) in
    last (eqb i n) refl d (λ m. sum_tight f g n (λ k p. h k (omega arith)) c i m)
  where
    last : (t : Bool) → eqb i n ≡ t → f n ≡ g n → (i < n → f i ≡ g i) → f i ≡ g i
    last true u d go = let v : i ≡ n = eqb-true i n u in cc
    last false u d go = go (omega (arith, eqb_apart i n u))

pub sum_add : (f g : ℕ → ℤ) (n : ℕ) → sum (λ i. f i +ℤ g i) n ≡ sum f n +ℤ sum g n
unfolding sum
sum_add f g zero = refl
sum_add f g (suc n) = let b = sum_add f g n in omega (arith, ints)

pub sum_sub : (f g : ℕ → ℤ) (n : ℕ) → sum (λ i. f i -ℤ g i) n ≡ sum f n -ℤ sum g n
unfolding sum
sum_sub f g zero = refl
sum_sub f g (suc n) = let b = sum_sub f g n in omega (arith, ints)

pub sum_times : (f : ℕ → ℤ) (d : ℕ) (n : ℕ) → sum (λ i. f i *ℤ pos d) n ≡ sum f n *ℤ pos d
unfolding sum
sum_times f d zero = omega (arith, ints)
sum_times f d (suc n) = let b = sum_times f d n in omega (arith, ints, times_add (f n) (sum f n) d)

pub sum_const : (t : ℤ) (n : ℕ) → sum (λ i. t) n ≡ t *ℤ pos n
unfolding sum
sum_const t zero = omega (arith, ints)
sum_const t (suc n) = let b = sum_const t n in omega (arith, ints)

-- Two families that differ at one number: their sums differ by as much.
pub sum_but : (f g : ℕ → ℤ) (r n : ℕ) → r < n → ((i : ℕ) → i < n → ¬ (i ≡ r) → f i ≡ g i) → sum f n +ℤ g r ≡ sum g n +ℤ f r
unfolding sum
sum_but f g r zero l h = absurd (omega arith)
sum_but f g r (suc n) l h = last (eqb r n) refl (λ m. sum_but f g r n m (λ i p q. h i (omega arith) q))
  where
    last : (t : Bool) → eqb r n ≡ t → (r < n → sum f n +ℤ g r ≡ sum g n +ℤ f r) → (f n +ℤ sum f n) +ℤ g r ≡ (g n +ℤ sum g n) +ℤ f r
    last true u go =
        let v : r ≡ n = eqb-true r n u in
        let a : sum f n ≡ sum g n = sum_same f g n (λ i p. h i (omega arith) (omega arith)) in
        rw v (omega (arith, ints))
    last false u go =
        let v : r < n = omega (arith, eqb_apart r n u) in
        let a = go v in
        let b : f n ≡ g n = h n (omega arith) (omega arith) in
        omega (arith, ints)

-- Two families that differ at two numbers: go from the one to the other in two steps.
pub sum_but_two : (f g : ℕ → ℤ) (a b n : ℕ) → a < n → b < n → ¬ (a ≡ b) → ((i : ℕ) → i < n → ¬ (i ≡ a) → ¬ (i ≡ b) → f i ≡ g i) →
    (sum f n +ℤ g a) +ℤ g b ≡ (sum g n +ℤ f a) +ℤ f b
sum_but_two f g a b n l m ne same =
    let k = λ (i : ℕ). cond (eqb i a) (f i) (g i) in
    let ka : k a ≡ f a = simp (eq-eqb a a refl) in
    let kb : k b ≡ g b = simp (apart_eqb b a (λ e. ne (sym e))) in
    let p = sum_but k g a n l (λ i q r. simp (apart_eqb i a r)) in
    let q = sum_but f k b n m (λ i q r. mid i q r (eqb i a) refl) in
    join (sum f n) (sum k n) (sum g n) (f a) (g a) (k a) (f b) (g b) (k b) ka kb p q
  where
    mid : (i : ℕ) → i < n → ¬ (i ≡ b) → (t : Bool) → eqb i a ≡ t → f i ≡ cond t (f i) (g i)
    mid i q r true u = refl
    mid i q r false u = same i q (eqb_apart i a u) r

    join : (F K G fa ga ka fb gb kb : ℤ) → ka ≡ fa → kb ≡ gb → K +ℤ ga ≡ G +ℤ ka → F +ℤ kb ≡ K +ℤ fb → (F +ℤ ga) +ℤ gb ≡ (G +ℤ fa) +ℤ fb
    join F K G fa ga ka fb gb kb a b c d = omega (arith, ints)

-- Where no term is below nothing, neither is the sum, and no term is above it.
pub term_le : (f : ℕ → ℤ) (n : ℕ) → ((i : ℕ) → i < n → pos 0 ≤ℤ f i) → (pos 0 ≤ℤ sum f n) × ((i : ℕ) → i < n → f i ≤ℤ sum f n)
unfolding sum
term_le f zero h = (omega (arith, ints), λ i l. absurd (omega arith))
term_le f (suc n) h =
    let b = term_le f n (λ i l. h i (omega arith)) in
    let c : pos 0 ≤ℤ f n = h n (omega arith) in
    let s : pos 0 ≤ℤ sum f n = b.0 in
    (omega (arith, ints), λ i l. at b.1 c s i l (eqb i n) refl)
  where
    at : ((i : ℕ) → i < n → f i ≤ℤ sum f n) → pos 0 ≤ℤ f n → pos 0 ≤ℤ sum f n → (i : ℕ) → i < suc n → (t : Bool) → eqb i n ≡ t → f i ≤ℤ (f n +ℤ sum f n)
    at b c s i l true u = let e : f i ≡ f n = ap f (eqb-true i n u) in omega (arith, ints)
    at b c s i l false u = let e : f i ≤ℤ sum f n = b i (omega (arith, eqb_apart i n u)) in omega (arith, ints)
