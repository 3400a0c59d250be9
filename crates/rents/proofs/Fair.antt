-- The rents made from the longest rows are the fairest.
use Rattle.std.proofs.Common.{◌≡◌, ℕ, ◌*◌, ◌<◌, eqb, List, [], ◌∷◌, ℤ, pos, ◌+ℤ◌, ◌-ℤ◌, ◌*ℤ◌, ◌≤ℤ◌, sym, refl, ap, ◌∙◌, arith}
use Rattle.std.proofs.lemmas.List.FromFn.{get_or-map-range_with_len, length-map-range_with_len}
use Rattle.std.proofs.lemmas.Int.{ints}
use Rattle.std.proofs.lemmas.Bool.{eq-eqb, ne_eqb}
use Rattle.rooms.specs.House.{House, Housed, Settled, gain, joint, own_gain, rent_of, room_of, sum, total, value}
use Rattle.rooms.specs.Promise.{Poorest}
use Rattle.rooms.specs.Rows.{Row, begin, long, number, way}
use Rattle.rooms.proofs.First.{first_is}
use Rattle.rooms.proofs.Longest.{no_more}
use Rattle.rooms.proofs.Product.{times_add, times_both, times_cancel, times_le, times_none, times_sub, times_turn}
use Rattle.rooms.proofs.Row.{row_begin, row_end}
use Rattle.rooms.proofs.Sharing.{any_best, best, holder, poorest, sum_gain}
use Rattle.rooms.proofs.Sum.{sum_add, sum_const, sum_le, sum_same, sum_tight, sum_times}
use Rattle.rents.specs.Rents.{LeastSpare, Made, MadeFairest, NoneMore, Rents, RentsAddUp, RentsExist, RentsSettle, SameRents, due, spare, whose}

-- What never falls along a way is at least T and the length of a row. By induction along the row.
along : (h : House) (room : List ℕ) (m : ℕ) (T : ℤ) (G : ℕ → ℤ) → ((i : ℕ) → i < h.n → T ≤ℤ G i) →
    ((k i : ℕ) → k < h.n → i < h.n → (G k +ℤ way h room k i *ℤ pos m) ≤ℤ G i) →
    (i : ℕ) (xs : List ℕ) → Row h.n i xs → (T +ℤ long h room i xs *ℤ pos m) ≤ℤ G i
unfolding long
along h room m T G low up i [] r = let a : T ≤ℤ G i = low i r in omega (arith, ints)
along h room m T G low up i (k ∷ xs) r =
    let a : (T +ℤ long h room k xs *ℤ pos m) ≤ℤ G k = along h room m T G low up k xs r.2 in
    let b : (G k +ℤ way h room k i *ℤ pos m) ≤ℤ G i = up k i (row_end h.n k xs r.2) r.0 in
    omega (arith, ints, times_add (long h room k xs) (way h room k i) m)

-- In a settlement nobody's gain is below another's and the way from there: i is content not to have k's room.
ways : (h : House) (room : List ℕ) (e : ℕ) (qs : List ℤ) → Settled h room e qs → (k i : ℕ) → k < h.n → i < h.n →
    (own_gain h room e qs k +ℤ way h room k i *ℤ pos e) ≤ℤ own_gain h room e qs i
unfolding gain way
ways h room e qs s k i l m =
    let a = s.content i (room_of room k) m (s.housed.each k l) in
    omega (arith, ints, times_sub (value h i (room_of room k)) (value h k (room_of room k)) e)

-- The same over one more scale.
wide_ways : (h : House) (room : List ℕ) (e n : ℕ) (qs : List ℤ) → Settled h room e qs → (k i : ℕ) → k < h.n → i < h.n →
    (own_gain h room e qs k *ℤ pos n +ℤ way h room k i *ℤ pos (e * n)) ≤ℤ (own_gain h room e qs i *ℤ pos n)
wide_ways h room e n qs s k i l m =
    let a = times_le (own_gain h room e qs k +ℤ way h room k i *ℤ pos e) (own_gain h room e qs i) n (ways h room e qs s k i l m) in
    rw (times_both (way h room k i) e n) (rw times_add at a)

-- What a settlement gives to all together: the joint worth less the rent, which is what is spare and all the lengths.
all_given : (h : House) (room : List ℕ) (d : List ℤ) (e : ℕ) (qs : List ℤ) → Settled h room e qs →
    sum (λ i. own_gain h room e qs i *ℤ pos h.n) h.n ≡
    (spare h room d *ℤ pos e) *ℤ pos h.n +ℤ (sum (λ i. number d i) h.n *ℤ pos e) *ℤ pos h.n
unfolding spare
all_given h room d e qs s =
    let J = joint h room in
    let R = pos h.rent in
    let D = sum (λ i. number d i) h.n in
    let a = sum_times (λ i. own_gain h room e qs i) h.n h.n in
    let b = sum_gain h room e qs s.housed in
    let c = s.sums in
    let f : J *ℤ pos e -ℤ total qs h.n ≡ ((J -ℤ R) -ℤ D) *ℤ pos e +ℤ D *ℤ pos e = omega (arith, ints, times_sub (J -ℤ R) D e, times_sub J R e) in
    a ∙ ap (λ x. x *ℤ pos h.n) (b ∙ f) ∙ times_add (((J -ℤ R) -ℤ D) *ℤ pos e) (D *ℤ pos e) h.n

module _ (h : House) (room : List ℕ) (d ps : List ℤ) (housed : Housed h room) (rents : Rents h room d ps) where
  -- What i gains by k's room: k's d and the way from k to i, and a part of what is spare.
  gain_is : (i k : ℕ) → i < h.n → k < h.n → gain h h.n ps i (room_of room k) ≡ (number d k +ℤ way h room k i) *ℤ pos h.n +ℤ spare h room d
  unfolding gain way
  gain_is i k l m =
      let v = value h i (room_of room k) in
      let w = value h k (room_of room k) in
      let D = number d k in
      let a = rents.each k m in
      omega (arith, ints, times_add D (v -ℤ w) h.n, times_sub v w h.n, times_sub w D h.n)

  own_gain_is : (i : ℕ) → i < h.n → own_gain h room h.n ps i ≡ number d i *ℤ pos h.n +ℤ spare h room d
  unfolding way
  own_gain_is i l =
      let v = value h i (room_of room i) in
      let D = number d i in
      let e : D +ℤ (v -ℤ v) ≡ D = omega (arith, ints) in
      gain_is i i l l ∙ ap (λ x. x *ℤ pos h.n +ℤ spare h room d) e

  -- All gains together are n D + n spare = n (J − R), and they are n J less the rents: the rents are n R.
  adds_up : total ps h.n ≡ pos h.rent *ℤ pos h.n
  unfolding spare
  adds_up =
      let n = h.n in
      let J = joint h room in
      let R = pos h.rent in
      let D = sum (λ i. number d i) n in
      let C = spare h room d in
      let a = sum_gain h room n ps housed in
      let b = sum_same (λ i. own_gain h room n ps i) (λ i. number d i *ℤ pos n +ℤ C) n own_gain_is in
      let c = sum_add (λ i. number d i *ℤ pos n) (λ i. C) n in
      let f = sum_times (λ i. number d i) n n in
      let g = sum_const C n in
      omega (arith, ints, times_sub (J -ℤ R) D n, times_sub J R n)

  -- A room r is some k's, so i gains by it d(k) and the way from k, at most d(i), and the same part of what is spare.
  content : ((k i : ℕ) → k < h.n → i < h.n → (number d k +ℤ way h room k i) ≤ℤ number d i) →
      (i r : ℕ) → i < h.n → r < h.n → gain h h.n ps i r ≤ℤ own_gain h room h.n ps i
  content most i r l m =
      let k = holder h room housed r m in
      let p : k.0 < h.n = k.1 in
      let a = times_le (number d k.0 +ℤ way h room k.0 i) (number d i) h.n (most k.0 i p l) in
      rw (← k.2) (rw (gain_is i k.0 l p, own_gain_is i l) (omega (arith, ints)))

pub rents_add_up : RentsAddUp
rents_add_up h room d ps s rents = (adds_up h room d ps s rents, own_gain_is h room d ps s rents)

pub rents_settle : RentsSettle
rents_settle h room d ps o s rents most = record {
  scale = o;
  housed = s;
  priced = rents.priced;
  sums = adds_up h room d ps s rents;
  content = content h room d ps s rents most;
}

linear : (q p c v d : ℤ) → p ≡ (v -ℤ d) -ℤ c → c +ℤ d ≡ v -ℤ q → q ≡ p
linear q p c v d a b = omega (arith, ints)

more : (a b : ℤ) → pos 0 ≤ℤ a → b ≤ℤ (a +ℤ b)
more a b h = omega (arith, ints)

module _ (h : House) (room : List ℕ) (d ps : List ℤ) (made : Made h room d ps) where
  most : (k i : ℕ) → k < h.n → i < h.n → (number d k +ℤ way h room k i) ≤ℤ number d i
  most = no_more h room d made.housed made.best made.longest

  -- A person alone is a row.
  some : (i : ℕ) → i < h.n → pos 0 ≤ℤ number d i
  unfolding long
  some i l = made.longest.most i [] l l

  own : (i : ℕ) → i < h.n → own_gain h room h.n ps i ≡ number d i *ℤ pos h.n +ℤ spare h room d
  own = own_gain_is h room d ps made.housed made.rents

  settled : Settled h room h.n ps
  settled = rents_settle h room d ps made.someone made.housed made.rents most

  -- Any settlement gives the same with this sharing, since both are best.
  brought : (other : List ℕ) (e : ℕ) (qs : List ℤ) → Settled h other e qs →
      Settled h room e qs × ((i : ℕ) → i < h.n → own_gain h room e qs i ≡ own_gain h other e qs i)
  brought other e qs s =
      let a = made.best other s.housed in
      let b = best h other e qs s room made.housed in
      any_best h other room e qs s made.housed (omega (arith, ints))

  -- Along i's longest row gains rise by its length.
  lower : (e : ℕ) (qs : List ℤ) (T : ℤ) → Settled h room e qs → ((i : ℕ) → i < h.n → T ≤ℤ (own_gain h room e qs i *ℤ pos h.n)) →
      (i : ℕ) → i < h.n → (T +ℤ number d i *ℤ pos (e * h.n)) ≤ℤ (own_gain h room e qs i *ℤ pos h.n)
  lower e qs T s low i l =
      let r = made.longest.reached i l in
      let a = along h room (e * h.n) T (λ i. own_gain h room e qs i *ℤ pos h.n) low (wide_ways h room e h.n qs s) i r.0 r.1 in
      rw (← r.2) a

  sum_lower : (e : ℕ) (T : ℤ) →
      sum (λ i. T +ℤ number d i *ℤ pos (e * h.n)) h.n ≡ T *ℤ pos h.n +ℤ (sum (λ i. number d i) h.n *ℤ pos e) *ℤ pos h.n
  sum_lower e T =
      let a = sum_add (λ i. T) (λ i. number d i *ℤ pos (e * h.n)) h.n in
      let b = sum_times (λ i. number d i) (e * h.n) h.n in
      let c = sum_const T h.n in
      let f = times_both (sum (λ i. number d i) h.n) e h.n in
      cc

  -- Everybody gains at least t and the length of their longest row. Together that is n t + D, at most J − R: so n t is at most what is spare.
  none_more_of : (other : List ℕ) (e : ℕ) (qs : List ℤ) (t : ℤ) → Settled h other e qs → ((i : ℕ) → i < h.n → t ≤ℤ own_gain h other e qs i) →
      (t *ℤ pos h.n) ≤ℤ (spare h room d *ℤ pos e)
  none_more_of other e qs t s low =
      let n = h.n in
      let T = t *ℤ pos n in
      let b = brought other e qs s in
      let g = λ (i : ℕ). own_gain h room e qs i in
      let under : (i : ℕ) → i < n → T ≤ℤ (g i *ℤ pos n) = λ i l. times_le t (g i) n (rw (b.1 i l) (low i l)) in
      let c = sum_le (λ i. T +ℤ number d i *ℤ pos (e * n)) (λ i. g i *ℤ pos n) n (lower e qs T b.0 under) in
      let f = sum_lower e T in
      let k = all_given h room d e qs b.0 in
      times_cancel T (spare h room d *ℤ pos e) n made.someone (omega (arith, ints))

  -- What somebody gains decides the rent of their room.
  at_own : (e : ℕ) (qs : List ℤ) (i : ℕ) → i < h.n →
      spare h room d *ℤ pos e +ℤ number d i *ℤ pos (e * h.n) ≡ own_gain h room e qs i *ℤ pos h.n →
      rent_of qs (room_of room i) *ℤ pos h.n ≡ rent_of ps (room_of room i) *ℤ pos e
  unfolding gain
  at_own e qs i l t =
      let n = h.n in
      let C = spare h room d in
      let v = value h i (room_of room i) in
      let D = number d i in
      let q = rent_of qs (room_of room i) in
      let p = rent_of ps (room_of room i) in
      let E = pos e in
      let N = pos n in
      let a : p *ℤ E ≡ ((v *ℤ N) *ℤ E -ℤ (D *ℤ N) *ℤ E) -ℤ C *ℤ E =
      ap (λ x. x *ℤ E) (made.rents.each i l) ∙ times_sub ((v -ℤ D) *ℤ N) C e ∙ ap (λ x. x -ℤ C *ℤ E) (ap (λ x. x *ℤ E) (times_sub v D n) ∙ times_sub (v *ℤ N) (D *ℤ N) e) in
      let b : C *ℤ E +ℤ (D *ℤ N) *ℤ E ≡ (v *ℤ N) *ℤ E -ℤ q *ℤ N =
      ap (λ x. C *ℤ E +ℤ x) (times_turn D n e ∙ sym (times_both D e n)) ∙ t ∙ times_sub (v *ℤ E) q n ∙ ap (λ x. x -ℤ q *ℤ N) (times_turn v e n) in
      linear (q *ℤ N) (p *ℤ E) (C *ℤ E) ((v *ℤ N) *ℤ E) ((D *ℤ N) *ℤ E) a b

  -- With t an even part of what is spare the two sums are equal, so each gain is: each room's rent is the same.
  same_rents_of : (other : List ℕ) (e : ℕ) (qs : List ℤ) → Settled h other e qs →
      ((i : ℕ) → i < h.n → (spare h room d *ℤ pos e) ≤ℤ (own_gain h other e qs i *ℤ pos h.n)) →
      (r : ℕ) → r < h.n → rent_of qs r *ℤ pos h.n ≡ rent_of ps r *ℤ pos e
  same_rents_of other e qs s low r l =
      let n = h.n in
      let T = spare h room d *ℤ pos e in
      let b = brought other e qs s in
      let g = λ (i : ℕ). own_gain h room e qs i in
      let under : (i : ℕ) → i < n → T ≤ℤ (g i *ℤ pos n) = λ i m. rw (b.1 i m) (low i m) in
      let f = sum_lower e T in
      let k = all_given h room d e qs b.0 in
      let tight = sum_tight (λ i. T +ℤ number d i *ℤ pos (e * n)) (λ i. g i *ℤ pos n) n (lower e qs T b.0 under) (omega (arith, ints)) in
      let i = holder h room made.housed r l in
      rw (← i.2) (at_own e qs i.0 i.1 (tight i.0 i.1))

  -- Whoever begins a longest row to somebody has d = 0: their d and the length of the row are at most the length of the row.
  begins : (i : ℕ) (xs : List ℕ) → Row h.n i xs → (number d (begin i xs) +ℤ long h room i xs) ≤ℤ number d i
  unfolding long
  begins i [] r = omega (arith, ints)
  begins i (k ∷ xs) r =
      let a = begins k xs r.2 in
      let b = most k i (row_end h.n k xs r.2) r.0 in
      omega (arith, ints)

  nothing_long : (j : ℕ) × (j < h.n) × (number d j ≡ pos 0)
  nothing_long =
      let r = made.longest.reached 0 made.someone in
      let a = begins 0 r.0 r.1 in
      let l = row_begin h.n 0 r.0 r.1 in
      let s = some (begin 0 r.0) l in
      let e = r.2 in
      (begin 0 r.0, l, omega (arith, ints))

  gains_spare : (j : ℕ) → j < h.n → number d j ≡ pos 0 → own_gain h room h.n ps j ≡ spare h room d
  gains_spare j l e = own j l ∙ ap (λ x. x *ℤ pos h.n +ℤ spare h room d) e ∙ none (spare h room d) h.n
    where
      none : (C : ℤ) (n : ℕ) → pos 0 *ℤ pos n +ℤ C ≡ C
      none C n = omega (arith, ints)

  least_there : (j : ℕ) → j < h.n → number d j ≡ pos 0 → Poorest h room h.n ps j
  least_there j l e = record {
    one = l;
    least = λ k m. rw (gains_spare j l e, own k m) (more (number d k *ℤ pos h.n) (spare h room d) (times_none (number d k) h.n (some k m)));
  }

  -- Whoever has least gains no more than one whose d is 0, so n d(j) is at most 0.
  least_is : (j : ℕ) → Poorest h room h.n ps j → (number d j ≡ pos 0) × (own_gain h room h.n ps j ≡ spare h room d)
  least_is j p =
      let z = nothing_long in
      let a = p.least z.0 z.1 in
      let b = gains_spare z.0 z.1 z.2 in
      let c = own j p.one in
      let s = some j p.one in
      let u : number d j ≤ℤ pos 0 = times_cancel (number d j) (pos 0) h.n made.someone (omega (arith, ints)) in
      let e : number d j ≡ pos 0 = omega (arith, ints) in
      (e, gains_spare j p.one e)

pub least_spare : LeastSpare
least_spare h room d ps made = (poorest h room h.n ps made.someone, least_is h room d ps made, least_there h room d ps made)

pub none_more : NoneMore
none_more h room d ps made = none_more_of h room d ps made

pub same_rents : SameRents
same_rents h room d ps made = same_rents_of h room d ps made

pub made_fairest : MadeFairest
made_fairest h room d ps made = record {
  settled = settled h room d ps made;
  least = λ other e qs s i j p q. rw (least_is h room d ps made j q).1 (none_more_of h room d ps made other e qs (own_gain h other e qs i) s p.least);
  only = λ other e qs s i j p q low r l.
      let T = spare h room d *ℤ pos e in
      let G = own_gain h other e qs i in
      let a : T ≤ℤ (G *ℤ pos h.n) = rw (least_is h room d ps made j q).1 at low in
      same_rents_of h room d ps made other e qs s
      (λ k m. le_trans T (G *ℤ pos h.n) (own_gain h other e qs k *ℤ pos h.n) a (times_le G (own_gain h other e qs k) h.n (p.least k m))) r l;
}
  where
    le_trans : (x y z : ℤ) → x ≤ℤ y → y ≤ℤ z → x ≤ℤ z
    le_trans x y z p q = omega (arith, ints)

-- The first person who has i's room has i's room, and nobody else does.
pub whose_own : (h : House) (room : List ℕ) → Housed h room → (i : ℕ) → i < h.n → whose h room (room_of room i) ≡ i
whose_own h room s i l =
    first_is (λ k. eqb (room_of room k) (room_of room i)) h.n i l (eq-eqb _ _ refl) (λ k m. ne_eqb _ _ (λ e. omega (arith, s.own k i (omega arith) l e)))

pub rents_exist : RentsExist
rents_exist h room d s = record {
  priced = let a = length-map-range_with_len at 0 h.n in omega arith;
  each = λ i l. get_or-map-range_with_len at 0 h.n (room_of room i) (room_of room i) (pos 0) (s.each i l) (omega arith) ∙ ap (due h room d) (whose_own h room s i l);
}
  where
    at : ℕ → ℤ
    at r = due h room d (whose h room r)
