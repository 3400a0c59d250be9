-- Rents in cents add up, are near, and leave everybody content within a cent.
use Rattle.std.proofs.Common.{◌≡◌, ℕ, zero, suc, ◌<◌, ◌≤◌, ltb, List, ℤ, pos, ◌+ℤ◌, ◌-ℤ◌, ◌*ℤ◌, ◌≤ℤ◌, ◌<ℤ◌, sym, refl, ap, ◌∙◌, subst, inl, inr, arith}
use Rattle.std.proofs.lemmas.List.FromFn.{fill_by_all, get_or-map-range_with_len}
use Rattle.std.proofs.lemmas.Int.{ints, by_lt_z}
use Rattle.std.proofs.lemmas.Bool.{cases_lt, cond-false, cond-true, le-ltb, lt-ltb}
use Rattle.rooms.specs.House.{gain, rent_of, room_of, sum, total, value}
use Rattle.rooms.proofs.Product.{times_add, times_le, times_same, times_sub}
use Rattle.rooms.proofs.Sum.{sum_add, sum_const, sum_same, sum_times}
use Rattle.whole.specs.Floor.{rest}
use Rattle.whole.proofs.Floors.{rests}
use Rattle.rents.specs.Answer.{Roundable}
use Rattle.cents.specs.Cents.{CentsRounded, LowestMore, Near, NearContent, OnlyCents, cents_of, extra, floor_at, missing_cents}

pub extra_one : (m r : ℕ) → r < m → extra (pos m) r ≡ pos 1
extra_one m r l = cond-true (ltb r m) (pos 1) (pos 0) (lt-ltb r m l)

pub extra_none : (m r : ℕ) → m ≤ r → extra (pos m) r ≡ pos 0
extra_none m r l = cond-false (ltb r m) (pos 1) (pos 0) (le-ltb r m l)

-- The extra cents of the first n rooms: n where m is above, and m from there on.
sum_all : (m n : ℕ) → n ≤ m → sum (λ r. extra (pos m) r) n ≡ pos n
unfolding sum
sum_all m zero l = refl
sum_all m (suc n) l = let a = sum_all m n (omega arith) in let e = extra_one m n (omega arith) in omega (arith, ints)

pub sum_extra : (m n : ℕ) → m ≤ n → sum (λ r. extra (pos m) r) n ≡ pos m
unfolding sum
sum_extra m zero l = let e : m ≡ 0 = omega arith in ap pos (sym e)
sum_extra m (suc n) l =
    elim (cases_lt n m) [
      | inl g ↦
          let a = sum_all m n (omega arith) in
          let e = extra_one m n g in
          let k : m ≡ suc n = omega arith in
          omega (arith, ints)
      | inr g ↦ let a = sum_extra m n g in let e = extra_none m n g in omega (arith, ints)
    ]

-- What every room pays with the first m of them a cent more: the floors and m cents together.
pub with_extra : (n m : ℕ) (ps cs : List ℤ) → m ≤ n → ((r : ℕ) → r < n → rent_of cs r ≡ floor_at n ps r +ℤ extra (pos m) r) →
    total cs n ≡ sum (λ r. floor_at n ps r) n +ℤ pos m
with_extra n m ps cs l e =
    sum_same (λ r. rent_of cs r) (λ r. floor_at n ps r +ℤ extra (pos m) r) n e ∙ sum_add (λ r. floor_at n ps r) (λ r. extra (pos m) r) n
    ∙ ap (λ (x : ℤ). sum (λ r. floor_at n ps r) n +ℤ x) (sum_extra m n l)

pub cents_at : (n rent : ℕ) (ps : List ℤ) (r : ℕ) → r < n → rent_of (cents_of n rent ps) r ≡ floor_at n ps r +ℤ extra (missing_cents n rent ps) r
cents_at n rent ps r l = get_or-map-range_with_len (λ r. floor_at n ps r +ℤ extra (missing_cents n rent ps) r) 0 n r r (pos 0) l (omega arith)

-- Gains in cents are whole numbers: n × that by another room is less than 2 n above n × that by the own, so it is at most one cent above.
pub near_content : NearContent
unfolding gain
near_content n ps cs near h room e s i r l m =
    let o = room_of room i in
    let k : o < n = subst (λ x. o < x) e (s.housed.each i (omega arith)) in
    let a = s.content i r (omega arith) (omega arith) in
    let v = value h i r in
    let w = value h i o in
    let p = near r m in
    let q = near o k in
    lemma n v w (rent_of ps r) (rent_of ps o) (rent_of cs r) (rent_of cs o) a p.low q.high
  where
    lemma : (n : ℕ) (v w p q c b : ℤ) → (v *ℤ pos n -ℤ p) ≤ℤ (w *ℤ pos n -ℤ q) → (p -ℤ pos n) <ℤ (c *ℤ pos n) → (b *ℤ pos n) <ℤ (q +ℤ pos n) →
        (v *ℤ pos 1 -ℤ c) ≤ℤ ((w *ℤ pos 1 -ℤ b) +ℤ pos 1)
    lemma n v w p q c b settled low high =
        by_lt_z (v -ℤ c) ((w -ℤ b) +ℤ pos 2) (λ x. omega (arith, ints))
        (λ x.
        let t = times_le ((w -ℤ b) +ℤ pos 2) (v -ℤ c) n x in
        let u = times_add (w -ℤ b) (pos 2) n ∙ ap (λ (x : ℤ). x +ℤ pos 2 *ℤ pos n) (times_sub w b n) in
        apart n (((w -ℤ b) +ℤ pos 2) *ℤ pos n) ((v -ℤ c) *ℤ pos n) (v *ℤ pos n) (w *ℤ pos n) p q (c *ℤ pos n) (b *ℤ pos n) t u (times_sub v c n) settled low high)
      where
        apart : (n : ℕ) (s t V W p q C B : ℤ) → s ≤ℤ t → s ≡ (W -ℤ B) +ℤ pos 2 *ℤ pos n → t ≡ V -ℤ C → (V -ℤ p) ≤ℤ (W -ℤ q) → (p -ℤ pos n) <ℤ C → B <ℤ (q +ℤ pos n) →
            (v *ℤ pos 1 -ℤ c) ≤ℤ ((w *ℤ pos 1 -ℤ b) +ℤ pos 1)
        apart n s t V W p q C B l e f settled low high = absurd (omega (arith, ints))

module _ (n rent : ℕ) (ps : List ℤ) (ok : Roundable n rent ps) where
  -- The one remainder.
  pub left : ℕ
  left = rest (rent_of ps 0) n

  pub left_below : left < n
  unfolding left
  left_below = (rests (rent_of ps 0) n ok.someone).0

  fraction : (r : ℕ) → r < n → rent_of ps r ≡ floor_at n ps r *ℤ pos n +ℤ pos left
  unfolding left
  fraction r l =
      (rests (rent_of ps r) n ok.someone).1
      ∙ ap (λ (x : ℕ). floor_at n ps r *ℤ pos n +ℤ pos x) (ok.even r 0 l ok.someone)

  -- All fractions together: n R is n times the floors and n times the remainder, so R is the floors and the remainder.
  pub missing_is : missing_cents n rent ps ≡ pos left
  unfolding missing_cents
  missing_is =
      let F = sum (λ r. floor_at n ps r) n in
      let a = sum_same (λ r. rent_of ps r) (λ r. floor_at n ps r *ℤ pos n +ℤ pos left) n fraction in
      let b = sum_add (λ r. floor_at n ps r *ℤ pos n) (λ r. pos left) n in
      let c = sum_times (λ r. floor_at n ps r) n n in
      let d = sum_const (pos left) n in
      let s = ok.sums in
      times_same (pos rent -ℤ F) (pos left) n ok.someone (omega (arith, ints, times_sub (pos rent) F n))

  pub cents_are : (r : ℕ) → r < n → rent_of (cents_of n rent ps) r ≡ floor_at n ps r +ℤ extra (pos left) r
  cents_are r l = cents_at n rent ps r l ∙ ap (λ (m : ℤ). floor_at n ps r +ℤ extra m r) missing_is

  add_up : total (cents_of n rent ps) n ≡ pos rent
  unfolding missing_cents
  add_up =
      let l : left ≤ n = omega (arith, left_below) in
      let a = with_extra n left ps (cents_of n rent ps) l cents_are in
      let m = missing_is in
      omega (arith, ints)

  -- A room that pays a cent more stands before the remainder, which is then above nothing.
  near : (r : ℕ) → r < n → Near n (rent_of ps r) (rent_of (cents_of n rent ps) r)
  near r l =
      let F = floor_at n ps r in
      let g = left_below in
      let f = fraction r l in
      let c = cents_are r l in
      elim (cases_lt r left) [
        | inl k ↦ one F (rent_of ps r) (rent_of (cents_of n rent ps) r) left f (omega arith) g (c ∙ ap (λ (x : ℤ). F +ℤ x) (extra_one left r k))
        | inr k ↦ none F (rent_of ps r) (rent_of (cents_of n rent ps) r) left f g (c ∙ ap (λ (x : ℤ). F +ℤ x) (extra_none left r k))
      ]
    where
      one : (F p c : ℤ) (m : ℕ) → p ≡ F *ℤ pos n +ℤ pos m → 0 < m → m < n → c ≡ F +ℤ pos 1 → Near n p c
      one F p c m f o g e =
          let a = ap (λ (x : ℤ). x *ℤ pos n) e ∙ times_add F (pos 1) n in
          record { low = omega (arith, ints); high = omega (arith, ints) }

      none : (F p c : ℤ) (m : ℕ) → p ≡ F *ℤ pos n +ℤ pos m → m < n → c ≡ F +ℤ pos 0 → Near n p c
      none F p c m f g e =
          let a : c ≡ F = omega (arith, ints) in
          let b : c *ℤ pos n ≡ F *ℤ pos n = ap (λ (x : ℤ). x *ℤ pos n) a in
          record { low = omega (arith, ints); high = omega (arith, ints) }

  lowest : LowestMore n ps (cents_of n rent ps)
  lowest = record {
    many = left;
    fewer = left_below;
    more = λ r l. cents_are r (omega (arith, left_below)) ∙ ap (λ (x : ℤ). floor_at n ps r +ℤ x) (extra_one left r l);
    others = λ r l m. cents_are r m ∙ ap (λ (x : ℤ). floor_at n ps r +ℤ x) (extra_none left r l) ∙ nothing (floor_at n ps r);
  }
    where
      nothing : (a : ℤ) → a +ℤ pos 0 ≡ a
      nothing a = omega (arith, ints)

pub cents_rounded : CentsRounded
cents_rounded n rent ps ok = record {
  sums = add_up n rent ps ok;
  near = near n rent ps ok;
  lowest = lowest n rent ps ok;
  content = near_content n ps (cents_of n rent ps) (near n rent ps ok);
}

-- With m rooms a cent more the rents add up to the floors and m cents, so m is what is missing.
pub only_cents : OnlyCents
unfolding missing_cents
only_cents n rent ps cs long ok =
    let m = ok.lowest.many in
    let f = ok.lowest.fewer in
    let a = with_extra n m ps cs (omega arith) each in
    let s = ok.sums in
    let e : missing_cents n rent ps ≡ pos m = omega (arith, ints) in
    fill_by_all (λ r. floor_at n ps r +ℤ extra (missing_cents n rent ps) r) cs n (pos 0) long
    (λ r l. each r l ∙ ap (λ (m : ℤ). floor_at n ps r +ℤ extra m r) (sym e))
  where
    each : (r : ℕ) → r < n → rent_of cs r ≡ floor_at n ps r +ℤ extra (pos ok.lowest.many) r
    each r l = elim (cases_lt r ok.lowest.many) [
      | inl k ↦ ok.lowest.more r k ∙ ap (λ (x : ℤ). floor_at n ps r +ℤ x) (sym (extra_one ok.lowest.many r k))
      | inr k ↦ ok.lowest.others r k l ∙ nothing (floor_at n ps r) ∙ ap (λ (x : ℤ). floor_at n ps r +ℤ x) (sym (extra_none ok.lowest.many r k))
    ]
      where
        nothing : (a : ℤ) → a ≡ a +ℤ pos 0
        nothing a = omega (arith, ints)
