-- Rents and cents in one slice, and how large they are.
use Rattle.std.proofs.Common.{◌≡◌, ℕ, suc, ◌+◌, ◌*◌, ◌<◌, ◌≤◌, List, ◌++◌, map, length, get_or, take, drop, ℤ, pos, ◌+ℤ◌, sym, ap, ◌∙◌, ap₂, inl, inr, arith, w64, to_z, of_z}
use lib.Seq.{paste}
use Rattle.std.proofs.lemmas.List.FromFn.{length-map-range_with_len}
use Rattle.std.proofs.lemmas.List.{drop_at, take_all, get_or-map, get_or-take, length-append, length-map, length-take-le, take-append-le, take_at}
use Rattle.std.proofs.lemmas.Int.{ints}
use Rattle.std.proofs.lemmas.Bool.{cases_lt}
use Rattle.rooms.specs.House.{rent_of, sum}
use Rattle.rooms.specs.Format.{most_people}
use Rattle.whole.specs.Bounds.{Within}
use Rattle.whole.specs.Floor.{floor}
use Rattle.whole.proofs.Bounds.{total_within}
use Rattle.whole.proofs.Floors.{floor_within}
use Rattle.rents.specs.Answer.{Roundable, bits, held, most_due}
use Rattle.rents.proofs.Writing.{held_front}
use Rattle.cents.specs.Cents.{cents_of, extra, floor_at, missing_cents}
use Rattle.cents.proofs.Rounding.{cents_are, cents_at, extra_none, extra_one, left}

-- The number at a place of the first n.
pub held_at : (n : ℕ) (xs : List ℕ) (r : ℕ) → r < n → n ≤ length xs → rent_of (held n xs) r ≡ to_z w64 (get_or xs r 0)
held_at n xs r l e =
    let a : r < length (take n xs) = let k = length-take-le n xs e in omega arith in
    get_or-map (to_z w64) (take n xs) r 0 (pos 0) a ∙ ap (to_z w64) (get_or-take n xs r 0 l)

-- What is written after the first n keeps them.
pub front_kept : (n : ℕ) (xs s : List ℕ) (k : ℕ) → n ≤ length xs → take n (paste xs n s k) ≡ take n xs
front_kept n xs s k e =
    let a = length-take-le n xs e in
    let b : n ≤ length (take n xs ++ take k s) = let q = length-append (take n xs) (take k s) in omega arith in
    take-append-le n (take n xs ++ take k s) (drop (n + k) xs) b ∙ take_at (take n xs) (take k s) n a

-- So a room's fraction is the same as long as the first n are.
pub floor_kept : (n : ℕ) (xs ys : List ℕ) (r : ℕ) → take n ys ≡ take n xs → n ≤ length ys → r < n → floor (to_z w64 (get_or ys r 0)) n ≡ floor_at n (held n xs) r
floor_kept n xs ys r k e l =
    ap (λ (z : ℤ). floor z n) (sym (held_at n ys r l e) ∙ ap (λ (t : List ℕ). rent_of (map (to_z w64) t) r) k)

-- The first n alone, as the half of a slice that is split there.
module _ (n : ℕ) (xs front : List ℕ) (fits : n ≤ length xs) (e : front ≡ take n xs) where
  pub front_long : length front ≡ n
  front_long = ap length e ∙ length-take-le n xs fits

  pub front_held : held (length front) front ≡ held n xs
  front_held = ap (map (to_z w64)) (take_all (length front) front (omega arith) ∙ e)

  pub front_floor : (r : ℕ) → r < n → floor (to_z w64 (get_or front r 0)) n ≡ floor_at n (held n xs) r
  front_floor r l =
      ap (λ (z : ℤ). floor z n) (ap (to_z w64) (ap (λ (ys : List ℕ). get_or ys r 0) e ∙ get_or-take n xs r 0 l) ∙ sym (held_at n xs r l fits))

  pub front_missing : (rent : ℕ) → missing_cents (length front) rent (held (length front) front) ≡ missing_cents n rent (held n xs)
  front_missing rent = ap₂ (λ (m : ℕ) (ps : List ℤ). missing_cents m rent ps) front_long front_held

pub bits_long : (n rent : ℕ) (ps : List ℤ) → length (bits (cents_of n rent ps)) ≡ n
bits_long n rent ps =
    length-map (cents_of n rent ps) (of_z w64) ∙ length-map-range_with_len (λ r. floor_at n ps r +ℤ extra (missing_cents n rent ps) r) 0 n

pub bits_at : (n rent : ℕ) (ps : List ℤ) (r : ℕ) → r < n → get_or (bits (cents_of n rent ps)) r 0 ≡ of_z w64 (floor_at n ps r +ℤ extra (missing_cents n rent ps) r)
bits_at n rent ps r l =
    let k : r < length (cents_of n rent ps) = let e = length-map-range_with_len (λ r. floor_at n ps r +ℤ extra (missing_cents n rent ps) r) 0 n in omega arith in
    get_or-map (of_z w64) (cents_of n rent ps) r (pos 0) 0 k ∙ ap (of_z w64) (cents_at n rent ps r l)

module _ (n rent : ℕ) (ps : List ℤ) (ok : Roundable n rent ps) where
  pub floor_small : (r : ℕ) → r < n → Within most_due (floor_at n ps r)
  floor_small r l = floor_within most_due (rent_of ps r) n (ok.small r l)

  pub floors_small : (i : ℕ) → i ≤ n → Within (most_due * most_people) (sum (λ r. floor_at n ps r) i)
  floors_small i l =
      total_within most_due most_people (λ r. floor_at n ps r) i (let f = ok.few in omega arith) (λ r m. floor_small r (omega arith))

  cents_small : (r : ℕ) → r < n → Within (suc most_due) (rent_of (cents_of n rent ps) r)
  cents_small r l =
      let f = floor_small r l in
      let e = cents_are n rent ps ok r l in
      let m = left n rent ps ok in
      elim (cases_lt r m) [
        | inl k ↦ let x = extra_one m r k in record { low = omega (arith, ints); high = omega (arith, ints) }
        | inr k ↦ let x = extra_none m r k in record { low = omega (arith, ints); high = omega (arith, ints) }
      ]

  -- The cents are read back from their bits.
  pub cents_held : (front after : List ℕ) → length front ≡ n → held n (drop n (front ++ (bits (cents_of n rent ps) ++ after))) ≡ cents_of n rent ps
  cents_held front after e =
      ap (held n) (drop_at front (bits (cents_of n rent ps) ++ after) n e)
      ∙ held_front (suc most_due) (cents_of n rent ps) after n (omega arith)
      (length-map-range_with_len (λ r. floor_at n ps r +ℤ extra (missing_cents n rent ps) r) 0 n) cents_small
