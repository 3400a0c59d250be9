-- Sums over a sharing; no sharing is worth more than a settled or a certified one; rents that settle one best sharing settle every other.
use Rattle.std.proofs.Common.{◌≡◌, ℕ, zero, suc, ◌<◌, List, ℤ, pos, ◌+ℤ◌, ◌-ℤ◌, ◌*ℤ◌, ◌≤ℤ◌, ap, inl, inr, arith}
use Rattle.std.proofs.lemmas.Int.{ints, by_lt_z}
use Rattle.std.proofs.lemmas.Bool.{cases_eq}
use Rattle.rooms.specs.House.{House, Housed, gain, joint, own_gain, rent_of, room_of, sum, total, value}
use Rattle.rooms.specs.Promise.{AnyBest, Best, FairestAtLeast, Poorest}
use Rattle.rooms.specs.Rows.{number}
use Rattle.rooms.specs.Sharing.{CertifiedBest, Onto, SameSum}
use Rattle.rooms.proofs.Product.{times_cancel, times_le}
use Rattle.rooms.proofs.Reorder.{Permutation, onto, sum_permuted}
use Rattle.rooms.proofs.Sum.{sum_add, sum_le, sum_same, sum_sub, sum_tight, sum_times}

pub permutation : (h : House) (room : List ℕ) → Housed h room → Permutation (λ i. room_of room i) h.n
permutation h room s = record { each = s.each; own = s.own }

pub holder : Onto
holder h room s = onto (λ i. room_of room i) h.n (permutation h room s)

pub same_sum : SameSum
same_sum h room s = sum_permuted (λ i. room_of room i) h.n (permutation h room s)

-- What everybody gains together is the joint worth less the rents.
pub sum_gain : (h : House) (room : List ℕ) (d : ℕ) (ps : List ℤ) → Housed h room →
    sum (λ i. own_gain h room d ps i) h.n ≡ joint h room *ℤ pos d -ℤ total ps h.n
unfolding gain
sum_gain h room d ps s =
    let a = sum_sub (λ i. value h i (room_of room i) *ℤ pos d) (λ i. rent_of ps (room_of room i)) h.n in
    let b = sum_times (λ i. value h i (room_of room i)) d h.n in
    let c = same_sum h room s (λ r. rent_of ps r) in
    cc

-- Nobody gains more by their room of another sharing. Together everybody gains the joint worth less the same rents, so the other's is not higher.
pub best : Best
best h room d ps s other o =
    let a = sum_gain h room d ps s.housed in
    let b = sum_gain h other d ps o in
    let c = sum_le (λ i. own_gain h other d ps i) (λ i. own_gain h room d ps i) h.n (λ i l. s.content i (room_of other i) l (o.each i l)) in
    times_cancel (joint h other) (joint h room) d s.scale (omega (arith, ints))

-- If the joint worths are equal, then so are the sums of the gains, and none is higher than in the settlement: each is equal.
pub any_best : AnyBest
any_best h room other d ps s o e =
    let a = sum_gain h room d ps s.housed in
    let b = sum_gain h other d ps o in
    let f : joint h other *ℤ pos d ≡ joint h room *ℤ pos d = ap (λ x. x *ℤ pos d) e in
    let same =
    sum_tight (λ i. own_gain h other d ps i) (λ i. own_gain h room d ps i) h.n (λ i l. s.content i (room_of other i) l (o.each i l)) (omega (arith, ints)) in
    (record { scale = s.scale; housed = o; priced = s.priced; sums = s.sums; content = λ i r l m. rw (same i l) (s.content i r l m) }, same)

-- Any sharing is worth at most the sum of all numbers, and the certified one is worth just that.
pub certified_best : CertifiedBest
certified_best h room u v c other o =
    let a = sum_le (λ i. value h i (room_of other i)) (λ i. number u i +ℤ number v (room_of other i)) h.n (λ i l. c.cover i (room_of other i) l (o.each i l)) in
    let b = sum_same (λ i. number u i +ℤ number v (room_of room i)) (λ i. value h i (room_of room i)) h.n c.tight in
    let p = sum_add (λ i. number u i) (λ i. number v (room_of other i)) h.n in
    let q = sum_add (λ i. number u i) (λ i. number v (room_of room i)) h.n in
    let x = same_sum h other o (λ r. number v r) in
    let y = same_sum h room c.housed (λ r. number v r) in
    omega (arith, ints)

-- Of n numbers, with n above 0, one is least: the least of all but the last, or the last.
pub least_of : (f : ℕ → ℤ) (n : ℕ) → 0 < n → (j : ℕ) × (j < n) × ((k : ℕ) → k < n → f j ≤ℤ f k)
least_of f zero l = absurd (omega arith)
least_of f (suc zero) l = (0, omega arith, λ k m. let e : k ≡ 0 = omega arith in rw e (omega (arith, ints)))
least_of f (suc (suc n)) l = last (least_of f (suc n) (omega arith))
  where
    last : (j : ℕ) × (j < suc n) × ((k : ℕ) → k < suc n → f j ≤ℤ f k) → (j : ℕ) × (j < suc (suc n)) × ((k : ℕ) → k < suc (suc n) → f j ≤ℤ f k)
    last b =
        by_lt_z (f (suc n)) (f b.0)
        (λ less. (suc n, omega arith, λ k m. at k m (f (suc n)) (λ q. le_trans (f (suc n)) (f b.0) (f k) (omega (arith, ints)) (b.2 k q)) (le_same (f (suc n)))))
        (λ more. (b.0, omega (arith, b.1), λ k m. at k m (f b.0) (b.2 k) more))
      where
        le_same : (x : ℤ) → x ≤ℤ x
        le_same x = omega (arith, ints)

        le_trans : (x y z : ℤ) → x ≤ℤ y → y ≤ℤ z → x ≤ℤ z
        le_trans x y z p q = omega (arith, ints)

        at : (k : ℕ) → k < suc (suc n) → (x : ℤ) → (k < suc n → x ≤ℤ f k) → x ≤ℤ f (suc n) → x ≤ℤ f k
        at k m x below here = elim (cases_eq k (suc n)) [ inl e ↦ rw e here | inr e ↦ below (omega arith) ]

-- Somebody has least.
pub poorest : (h : House) (room : List ℕ) (d : ℕ) (ps : List ℤ) → 0 < h.n → (j : ℕ) × Poorest h room d ps j
poorest h room d ps l = let j = least_of (λ i. own_gain h room d ps i) h.n l in (j.0, record { one = j.1; least = j.2 })

-- Whoever has least elsewhere gains at least t there, and whoever has least here gains at most what anybody does.
pub fairest_at_least : FairestAtLeast
fairest_at_least h room d ps f = record {
  least = λ other e qs t s low i l.
      let a = poorest h other e qs (omega arith) in
      let b = poorest h room d ps (omega arith) in
      let p = times_le t (own_gain h other e qs a.0) d (low a.0 a.1.one) in
      let q = times_le (own_gain h room d ps b.0) (own_gain h room d ps i) e (b.1.least i l) in
      let r = f.least other e qs s a.0 b.0 a.1 b.1 in
      omega (arith, ints);
  only = λ other e qs s low r l.
      let a = poorest h other e qs (omega arith) in
      let b = poorest h room d ps (omega arith) in
      f.only other e qs s a.0 b.0 a.1 b.1 (low a.0 b.0 a.1.one b.1) r l;
}
