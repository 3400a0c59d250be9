-- The tests decide whether a claim is shown: each condition holds just where its test is false everywhere.
use Rattle.std.proofs.Common.{◌≡◌, ℕ, ◌<◌, Bool, true, false, cond, not, ◌&&◌, ◌||◌, eqb, ltb, ◌⊎◌, ℤ, pos, ◌+ℤ◌, ◌≤ℤ◌, sym, refl, ap, ◌∙◌, inl, inr, arith}
use lib.Signed.{lt_z}
use Rattle.std.proofs.lemmas.Int.{ints}
use Rattle.std.proofs.lemmas.Bool.{and_cases, and_from, and_left, and_parts, and_right, both_ways, cases_eq, cases_order, eq-eqb, eqb-false, eqb-true, le-leb, leb-true, lt-ltb, ltb-true, ne_eqb, not-false, not_from_false, not_from_true, not-true, or_from, or_parts}
use Rattle.rooms.specs.House.{House, Housed, room_of, rent_of, value}
use Rattle.rooms.specs.Rows.{Certified, number, way}
use Rattle.rooms.specs.Before.{Comes, Ends, nobody, on_circle, prior}
use Rattle.rooms.specs.First.{some}
use Rattle.rooms.proofs.Before.{ends_or_circle}
use Rattle.rooms.proofs.First.{false_some, some_false}
use Rattle.rooms.proofs.Sharing.{holder}
use Rattle.rents.specs.Rents.{Rents, due, whose}
use Rattle.rents.specs.Shown.{Claim, Shown, Whole}
use Rattle.rents.specs.Faults.{ShowsDecides, differs, length_fault, number_fault, rent_fault, room_fault, shows, way_fault, whole}
use Rattle.rents.proofs.Fair.{whose_own}

-- What the tests of order tell.
pub less_false : (a b : ℤ) → lt_z a b ≡ false → b ≤ℤ a
less_false a b e = grind (arith, ints)

pub false_less : (a b : ℤ) → b ≤ℤ a → lt_z a b ≡ false
false_less a b l = grind (arith, ints)

pub differs_false : (a b : ℤ) → differs a b ≡ false → a ≡ b
differs_false a b e =
    let p = or_parts (lt_z a b) (lt_z b a) e in
    let l : b ≤ℤ a = less_false a b p.0 in
    let m : a ≤ℤ b = less_false b a p.1 in
    omega (arith, ints)

pub false_differs : (a b : ℤ) → a ≡ b → differs a b ≡ false
false_differs a b e = or_from _ _ (false_less a b (omega (arith, ints))) (false_less b a (omega (arith, ints)))

same : (a b : ℤ) → a ≤ℤ b → b ≤ℤ a → a ≡ b
same a b l m = omega (arith, ints)

as_le : (a b : ℤ) → a ≡ b → a ≤ℤ b
as_le a b e = omega (arith, ints)

right_false : (x y : Bool) → x ≡ true → (x && y) ≡ false → y ≡ false
right_false x y e f = elim (and_cases x y f) [ inl g ↦ absurd (both_ways x g e) | inr g ↦ g ]

six_parts : (a b c d e f : Bool) → (a && b && c && d && e && f) ≡ true → (a ≡ true) × (b ≡ true) × (c ≡ true) × (d ≡ true) × (e ≡ true) × (f ≡ true)
six_parts a b c d e f t =
    let p = and_parts (a && b && c && d && e) f t in
    let q = and_parts (a && b && c && d) e p.0 in
    let r = and_parts (a && b && c) d q.0 in
    let s = and_parts (a && b) c r.0 in
    let u = and_parts a b s.0 in
    (u.0, u.1, s.1, r.1, q.1, p.1)

six_from : (a b c d e f : Bool) → a ≡ true → b ≡ true → c ≡ true → d ≡ true → e ≡ true → f ≡ true → (a && b && c && d && e && f) ≡ true
six_from a b c d e f p q r s t u =
    and_from (a && b && c && d && e) f (and_from (a && b && c && d) e (and_from (a && b && c) d (and_from (a && b) c (and_from a b p q) r) s) t) u

module _ (h : House) (c : Claim) where
  -- No two have the same room: the later one of them would have an earlier person's.
  pub rooms_shared : Whole h c → ((i : ℕ) → i < h.n → room_fault h c i ≡ false) → Housed h c.room
  rooms_shared w f = record {
    all = w.room;
    each = λ i l. ltb-true _ _ (not-false _ (or_parts _ _ (f i l)).0);
    own = λ i j l m e. elim (cases_order i j) [ inl q ↦ q | inr q ↦ elim q [ inl q ↦ absurd (earlier i j m q e) | inr q ↦ absurd (earlier j i l q (sym e)) ] ];
  }
    where
      earlier : (i j : ℕ) → j < h.n → i < j → room_of c.room i ≡ room_of c.room j → ⊥
      earlier i j m l e = eqb-false (room_of c.room i) (room_of c.room j) (some_false (λ k. eqb (room_of c.room k) (room_of c.room j)) j (or_parts (not (ltb (room_of c.room j) h.n)) (some (λ k. eqb (room_of c.room k) (room_of c.room j)) j) (f j m)).1 i l) e

  pub no_room_fault : Housed h c.room → (i : ℕ) → i < h.n → room_fault h c i ≡ false
  no_room_fault s i l =
      or_from _ _ (not_from_true _ (lt-ltb _ _ (s.each i l)))
      (false_some (λ k. eqb (room_of c.room k) (room_of c.room i)) i (λ k m. ne_eqb (room_of c.room k) (room_of c.room i) (λ e. omega (arith, s.own k i (omega arith) l e))))

  pub numbers_show : Housed h c.room → ((i r : ℕ) → i < h.n → r < h.n → number_fault h c i r ≡ false) → Certified h c.room c.persons c.rooms
  numbers_show s f = record {
    housed = s;
    cover = λ i r l m. less_false _ _ (or_parts _ _ (f i r l m)).0;
    tight = λ i l.
        let r = room_of c.room i in
        let u = number c.persons i +ℤ number c.rooms r in
        let p = or_parts (lt_z u (value h i r)) (eqb r r && lt_z (value h i r) u) (f i r l (s.each i l)) in
        let a : value h i r ≤ℤ u = less_false u (value h i r) p.0 in
        let b : u ≤ℤ value h i r = less_false (value h i r) u (right_false (eqb r r) (lt_z (value h i r) u) (eq-eqb r r refl) p.1) in
        same u (value h i r) b a;
  }

  pub no_number_fault : Certified h c.room c.persons c.rooms → (i r : ℕ) → i < h.n → r < h.n → number_fault h c i r ≡ false
  no_number_fault s i r l m = or_from _ _ (false_less _ _ (s.cover i r l m)) (own (cases_eq (room_of c.room i) r))
    where
      own : (room_of c.room i ≡ r) ⊎ (room_of c.room i ≡ r → ⊥) →
          (eqb (room_of c.room i) r && lt_z (value h i r) (number c.persons i +ℤ number c.rooms r)) ≡ false
      own (inl e) = and_right (eqb (room_of c.room i) r) (lt_z (value h i r) (number c.persons i +ℤ number c.rooms r)) (false_less (value h i r) (number c.persons i +ℤ number c.rooms r) (above e))
        where
          above : room_of c.room i ≡ r → (number c.persons i +ℤ number c.rooms r) ≤ℤ value h i r
          above e = rw (← e) (as_le (number c.persons i +ℤ number c.rooms (room_of c.room i)) (value h i (room_of c.room i)) (s.tight i l))
      own (inr e) = and_left (eqb (room_of c.room i) r) (lt_z (value h i r) (number c.persons i +ℤ number c.rooms r)) (ne_eqb (room_of c.room i) r e)

  pub low_from : (i : ℕ) → length_fault h c i ≡ false → pos 0 ≤ℤ number c.d i
  low_from i f = less_false _ _ (or_parts _ _ f).0

  pub comes_from : (i : ℕ) → length_fault h c i ≡ false → Comes h c.room c.d c.before i
  comes_from i f = by (eqb (prior c.before i) nobody) refl (or_parts _ _ f).1
    where
      by : (t : Bool) → eqb (prior c.before i) nobody ≡ t →
          cond t (differs (number c.d i) (pos 0)) (not (ltb (prior c.before i) h.n) || differs (number c.d i) (number c.d (prior c.before i) +ℤ way h c.room (prior c.before i) i)) ≡ false →
          Comes h c.room c.d c.before i
      by true e g = inl (eqb-true _ _ e, differs_false _ _ g)
      by false e g =
          let p = or_parts _ _ g in
          inr (ltb-true _ _ (not-false _ p.0), differs_false _ _ p.1, eqb-false _ _ e)

  pub no_length_fault : (i : ℕ) → pos 0 ≤ℤ number c.d i → Comes h c.room c.d c.before i → length_fault h c i ≡ false
  no_length_fault i l (inl a) = or_from _ _ (false_less _ _ l) (rw (eq-eqb _ _ a.0) (false_differs _ _ a.1))
  no_length_fault i l (inr a) = or_from _ _ (false_less _ _ l) (rw (ne_eqb _ _ a.2) (or_from _ _ (not_from_true _ (lt-ltb _ _ a.0)) (false_differs _ _ a.1)))

  pub ends_from : ((i : ℕ) → i < h.n → Comes h c.room c.d c.before i) →
      (((i : ℕ) → i < h.n → on_circle c.before h.n i ≡ false) → (i : ℕ) → i < h.n → Ends c.before h.n i)
      × (((i : ℕ) → i < h.n → Ends c.before h.n i) → (i : ℕ) → i < h.n → on_circle c.before h.n i ≡ false)
  ends_from comes = ends_or_circle c.before h.n (λ i l. elim (comes i l) [ inl a ↦ inl a.0 | inr a ↦ inr a.0 ])

  -- Every room is somebody's, and the first who has it is the only one.
  pub rents_from : Whole h c → Housed h c.room → ((r : ℕ) → r < h.n → rent_fault h c r ≡ false) → Rents h c.room c.d c.rents
  rents_from w s f = record {
    priced = w.rents;
    each = λ i l.
        differs_false (rent_of c.rents (room_of c.room i)) (due h c.room c.d (whose h c.room (room_of c.room i))) (f (room_of c.room i) (s.each i l))
        ∙ ap (due h c.room c.d) (whose_own h c.room s i l);
  }

  pub no_rent_fault : Housed h c.room → Rents h c.room c.d c.rents → (r : ℕ) → r < h.n → rent_fault h c r ≡ false
  no_rent_fault s p r l =
      let k = holder h c.room s r l in
      rw (← k.2) (false_differs (rent_of c.rents (room_of c.room k.0)) (due h c.room c.d (whose h c.room (room_of c.room k.0)))
      (p.each k.0 k.1 ∙ ap (due h c.room c.d) (sym (whose_own h c.room s k.0 k.1))))

  whole_from : whole h c ≡ true → Whole h c
  whole_from t =
      let p = six_parts _ _ _ _ _ _ t in
      record {
        room = leb-true _ _ p.0;
        before = leb-true _ _ p.1;
        d = leb-true _ _ p.2;
        rents = leb-true _ _ p.3;
        persons = leb-true _ _ p.4;
        rooms = leb-true _ _ p.5;
      }

  from_whole : Whole h c → whole h c ≡ true
  from_whole w =
      six_from _ _ _ _ _ _ (le-leb _ _ w.room) (le-leb _ _ w.before) (le-leb _ _ w.d) (le-leb _ _ w.rents) (le-leb _ _ w.persons)
      (le-leb _ _ w.rooms)

  shown_from : shows h c ≡ true → Shown h c
  shown_from t =
      let n = h.n in
      let p = and_parts _ _ t in
      let q = six_parts (whole h c) (not (some (room_fault h c) n)) (not (some (λ i. some (number_fault h c i) n) n)) (not (some (length_fault h c) n))
      (not (some (on_circle c.before n) n)) (not (some (λ k. some (way_fault h c k) n) n)) p.0 in
      let w = whole_from q.0 in
      let s = rooms_shared w (some_false (room_fault h c) n (not-true _ q.1)) in
      let f = some_false (length_fault h c) n (not-true _ q.3) in
      let comes = λ (i : ℕ) (l : i < n). comes_from i (f i l) in
      record {
        whole = w;
        housed = s;
        certified = numbers_show s (λ i r l m. some_false (number_fault h c i) n (some_false (λ i. some (number_fault h c i) n) n (not-true _ q.2) i l) r m);
        rows = record {
          low = λ i l. low_from i (f i l);
          comes = comes;
          most = λ k i l m.
              less_false (number c.d i) (number c.d k +ℤ way h c.room k i)
              (some_false (way_fault h c k) n (some_false (λ k. some (way_fault h c k) n) n (not-true _ q.5) k l) i m);
          ends = (ends_from comes).0 (some_false (on_circle c.before n) n (not-true _ q.4));
        };
        rents = rents_from w s (some_false (rent_fault h c) n (not-true _ p.1));
      }

  from_shown : Shown h c → shows h c ≡ true
  from_shown s =
      let n = h.n in
      and_from _ _ (
      six_from _ _ _ _ _ _ (from_whole s.whole)
      (not_from_false _ (false_some (room_fault h c) n (no_room_fault s.housed)))
      (not_from_false _ (false_some (λ i. some (number_fault h c i) n) n (λ i l. false_some (number_fault h c i) n (λ r m. no_number_fault s.certified i r l m))))
      (not_from_false _ (false_some (length_fault h c) n (λ i l. no_length_fault i (s.rows.low i l) (s.rows.comes i l))))
      (not_from_false _ (false_some (on_circle c.before n) n ((ends_from s.rows.comes).1 s.rows.ends)))
      (not_from_false _ (false_some (λ k. some (way_fault h c k) n) n (λ k l. false_some (way_fault h c k) n (λ i m. false_less (number c.d i) (number c.d k +ℤ way h c.room k i) (s.rows.most k i l m)))))
      )
      (not_from_false _ (false_some (rent_fault h c) n (no_rent_fault s.housed s.rents)))

pub shows_decides : ShowsDecides
shows_decides h c = (shown_from h c, from_shown h c)
