-- Bytes, the lowest first, and the numbers that they are: nothing is lost either way.
use Rattle.std.proofs.Common.{◌≡◌, ℕ, zero, suc, ◌+◌, ◌*◌, ◌/◌, ◌%◌, ◌^◌, ◌<◌, ◌≤◌, List, [], ◌∷◌, length, get_or, take, drop, refl, ap, pow-suc, arith}
use Rattle.std.proofs.lemmas.List.{get_or-drop, length-take-le, length-drop}
use Rattle.rooms.specs.Bytes.{low_bytes, from_bytes, Bytes}

pub low_length : (k x : ℕ) → length (low_bytes k x) ≡ k
unfolding low_bytes
low_length zero x = refl
low_length (suc k) x = ap suc (low_length k (x / 256))

pub low_small : (k x : ℕ) → Bytes (low_bytes k x)
unfolding low_bytes
low_small zero x i = omega arith
low_small (suc k) x zero = omega arith
low_small (suc k) x (suc i) = low_small k (x / 256) i

-- x is its lowest byte and 256 times the rest, and the rest has the other bytes.
pub from_low : (k x : ℕ) → x < 256 ^ k → from_bytes (low_bytes k x) ≡ x
unfolding low_bytes from_bytes
from_low zero x h = omega arith
from_low (suc k) x h = let e = pow-suc 256 k in let r = from_low k (x / 256) (omega arith) in omega arith

pub from_below : (k : ℕ) (s : List ℕ) → length s ≤ k → Bytes s → from_bytes s < 256 ^ k
unfolding from_bytes
from_below zero [] l h = omega arith
from_below zero (b ∷ s) l h = absurd (omega arith)
from_below (suc k) [] l h = let r = from_below k [] (omega arith) (λ i. omega arith) in omega (arith, pow-suc 256 k)
from_below (suc k) (b ∷ s) l h =
    let r = from_below k s (omega arith) (λ i. h (suc i)) in let z : b < 256 = h 0 in omega (arith, pow-suc 256 k)

-- The remainder by 256 of b + 256 · m is the byte b, and the quotient is m.
pub low_from : (s : List ℕ) → Bytes s → low_bytes (length s) (from_bytes s) ≡ s
unfolding low_bytes from_bytes
low_from [] h = refl
low_from (b ∷ s) h =
    let z : b < 256 = h 0 in
    let r : (b + 256 * from_bytes s) % 256 ≡ b = omega arith in
    let q : (b + 256 * from_bytes s) / 256 ≡ from_bytes s = omega arith in
    rw (r, q) (ap (λ (t : List ℕ). b ∷ t) (low_from s (λ i. h (suc i))))

pub front_bytes : (n : ℕ) (s : List ℕ) → Bytes s → Bytes (take n s)
front_bytes zero s h k = omega arith
front_bytes (suc n) [] h k = omega arith
front_bytes (suc n) (b ∷ s) h zero = h 0
front_bytes (suc n) (b ∷ s) h (suc k) = front_bytes n s (λ i. h (suc i)) k

pub part_bytes : (n : ℕ) (s : List ℕ) (at : ℕ) → Bytes s → Bytes (take n (drop at s))
part_bytes n s at h = front_bytes n (drop at s) (λ k. rw get_or-drop (h (at + k)))

-- The bytes of the number that n bytes at a place are, are those bytes.
pub low_part : (n : ℕ) (s : List ℕ) (at : ℕ) → at + n ≤ length s → Bytes s → low_bytes n (from_bytes (take n (drop at s))) ≡ take n (drop at s)
low_part n s at h b =
    let e : length (take n (drop at s)) ≡ n = length-take-le n (drop at s) (rw length-drop (omega arith)) in
    rw e at (low_from (take n (drop at s)) (part_bytes n s at b))

none : (k : ℕ) → from_bytes (take k []) ≡ 0
unfolding from_bytes
none zero = refl
none (suc k) = refl

-- One byte after the other, as a program reads them.
pub from_more : (k : ℕ) (s : List ℕ) (i j : ℕ) → j ≡ i + 1 → from_bytes (take (suc k) (drop i s)) ≡ get_or s i 0 + 256 * from_bytes (take k (drop j s))
unfolding from_bytes
from_more k [] zero zero e = absurd (omega arith)
from_more k [] zero (suc j) e = omega (arith, none k)
from_more k [] (suc i) zero e = absurd (omega arith)
from_more k [] (suc i) (suc j) e = omega (arith, none k)
from_more k (b ∷ s) zero j e = rw e refl
from_more k (b ∷ s) (suc i) zero e = absurd (omega arith)
from_more k (b ∷ s) (suc i) (suc j) e = from_more k s i j (omega arith)

pub from_none : (s : List ℕ) (i : ℕ) → from_bytes (take 0 (drop i s)) ≡ 0
from_none s i = none 0
