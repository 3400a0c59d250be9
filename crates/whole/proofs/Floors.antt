-- Quotient and remainder toward lower numbers: they are what their names say, and no others are.
use Rattle.std.proofs.Common.{◌≡◌, ℕ, ◌/◌, ◌<◌, ℤ, pos, negsuc, ◌+ℤ◌, ◌*ℤ◌, nat_abs, ◌≤ℤ◌, ◌<ℤ◌, sym, refl, ap, ◌∙◌, suc-mul, div-le_self, arith, SFits, to_z, of_z}
use Rattle.std.proofs.lemmas.Nat.{div-add-mod', mod_below}
use Rattle.std.proofs.lemmas.Int.{ints, by_lt_z, to_z-of_z}
use Rattle.std.specs.Int.{Width, int_div_euclid, int_rem_euclid}
use Rattle.rooms.proofs.Product.{times_add, times_le}
use Rattle.whole.specs.Bounds.{Within}
use Rattle.whole.specs.Floor.{floor, rest, FloorOf, Floors, OnlyFloor, Rests, OnlyRest, Moved}

-- Of −(a + 1): with a = (a / n) · n + (a % n), it is −(a / n + 1) · n + (n − 1 − a % n).
pub rests : Rests
unfolding floor rest
rests (pos a) n h = (mod_below a n h, omega (arith, ints, div-add-mod' a n))
rests (negsuc a) n h =
    let m = mod_below a n h in
    (omega arith, omega (arith, ints, div-add-mod' a n, suc-mul (a / n) n))

pub floors : Floors
floors a n h = let r = rests a n h in record { low = omega (arith, ints); high = omega (arith, ints) }

-- From q · n ≤ a < p · n + n: were p below q, (p + 1) · n would be at most q · n, and so at most a.
at_most : (a : ℤ) (n : ℕ) (p q : ℤ) → (q *ℤ pos n) ≤ℤ a → a <ℤ (p *ℤ pos n +ℤ pos n) → q ≤ℤ p
at_most a n p q l h =
    by_lt_z p q
    (λ k. let t = times_le (p +ℤ pos 1) q n (omega (arith, ints)) in absurd (omega (arith, ints, times_add p (pos 1) n)))
    (λ k. k)

pub only_floor : OnlyFloor
only_floor a n q f =
    let z : 0 < n = omega (arith, ints) in
    let g = floors a n z in
    let u : q ≤ℤ floor a n = at_most a n (floor a n) q f.low g.high in
    let v : floor a n ≤ℤ q = at_most a n q (floor a n) g.low f.high in
    omega (arith, ints)

pub only_rest : OnlyRest
only_rest a n q m h e =
    let f : FloorOf a n q = record { low = omega (arith, ints); high = omega (arith, ints) } in
    let p = only_floor a n q f in
    let r = rests a n (omega arith) in
    let s : q *ℤ pos n ≡ floor a n *ℤ pos n = ap (λ (x : ℤ). x *ℤ pos n) p in
    (p, omega (arith, ints))

-- a = q · n + m makes a + k · n = (q + k) · n + m, with the same m below n.
pub moved : Moved
moved a k n h =
    let r = rests a n h in
    let t = times_add (floor a n) k n in
    let o = only_rest (a +ℤ k *ℤ pos n) n (floor a n +ℤ k) (rest a n) r.0 (omega (arith, ints)) in
    (sym o.0, sym o.1)

-- The library's division with a remainder that is not below nothing is this one, where the divisor has no sign.
pub euclid_floor : (a : ℤ) (n : ℕ) → int_div_euclid a (pos n) ≡ floor a n
unfolding floor
euclid_floor (pos a) n = refl
euclid_floor (negsuc a) n = refl

pub euclid_rest : (a : ℤ) (n : ℕ) → nat_abs (int_rem_euclid a (pos n)) ≡ rest a n
unfolding rest
euclid_rest (pos a) n = refl
euclid_rest (negsuc a) n = refl

-- What it and its remainder leave as bits and back, of numbers that fit.
module _ (w : Width) (a m r : ℤ) (n : ℕ) (fa : SFits w a) (fm : SFits w m) (fr : SFits w r) (e : m ≡ pos n) where
  pub divided : r ≡ int_div_euclid (to_z w (of_z w a)) (to_z w (of_z w m)) → to_z w (of_z w r) ≡ floor a n
  divided d = to_z-of_z w r fr ∙ (rw (to_z-of_z w a fa, to_z-of_z w m fm, e) at d) ∙ euclid_floor a n

  pub remaining : r ≡ int_rem_euclid (to_z w (of_z w a)) (to_z w (of_z w m)) → nat_abs (to_z w (of_z w r)) ≡ rest a n
  remaining d = ap nat_abs (to_z-of_z w r fr ∙ (rw (to_z-of_z w a fa, to_z-of_z w m fm, e) at d)) ∙ euclid_rest a n

-- A quotient is no further from nothing.
pub floor_within : (b : ℕ) (a : ℤ) (n : ℕ) → Within b a → Within b (floor a n)
unfolding floor
floor_within b (pos a) n w = let d = div-le_self a n in record { low = omega (arith, ints); high = omega (arith, ints) }
floor_within b (negsuc a) n w = let d = div-le_self a n in record { low = omega (arith, ints); high = omega (arith, ints) }
