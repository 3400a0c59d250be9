-- Going back along the persons before: it gives a row whose length is the person's number, and it ends just where nobody stands on a circle.
use Rattle.std.proofs.Common.{◌≡◌, ℕ, zero, suc, ◌+◌, ◌-◌, ◌<◌, ◌≤◌, true, false, not, ◌⊎◌, List, [], ◌∷◌, ℤ, ◌+ℤ◌, sym, refl, ap, ◌∙◌, subst, inl, inr, arith}
use Rattle.std.proofs.lemmas.Bool.{and_from, and_parts, both_ways, cases_Bool, cases_eq, eq-eqb, eqb-true, ne_eqb, not_from_false, or_cases, or_left, or_right}
use Rattle.rooms.specs.House.{House}
use Rattle.rooms.specs.Rows.{Apart, Row, long, number, way}
use Rattle.rooms.specs.Before.{Ends, EndsOrCircle, RowsShown, ShownLongest, leads_back, nobody, on_circle, prior}
use Rattle.rooms.proofs.Find.{pigeonhole}
use Rattle.rooms.proofs.Longest.{none_longer}

module _ (before : List ℕ) where
  -- Just j people stand before i.
  Deep : ℕ → ℕ → Type 0
  Deep zero i = prior before i ≡ nobody
  Deep (suc j) i = (prior before i ≡ nobody → ⊥) × Deep j (prior before i)

  -- Fewer than j people stand before each of xs.
  Shallow : ℕ → List ℕ → Type 0
  Shallow j [] = Unit {0}
  Shallow j (x ∷ xs) = ((a : ℕ) × (a < j) × Deep a x) × Shallow j xs

  deep : (m i : ℕ) → Ends before m i → (j : ℕ) × Deep j i
  unfolding Ends Deep
  deep zero i e = absurd e
  deep (suc m) i (inl e) = (0, e)
  deep (suc m) i (inr e) = elim (cases_eq (prior before i) nobody) [ inl p ↦ (0, p) | inr p ↦ let q = deep m (prior before i) e in (suc q.0, (p, q.1)) ]

  once : (a b i : ℕ) → Deep a i → Deep b i → a ≡ b
  unfolding Deep
  once zero zero i p q = refl
  once zero (suc b) i p q = absurd (q.0 p)
  once (suc a) zero i p q = absurd (p.0 q)
  once (suc a) (suc b) i p q = ap suc (once a b (prior before i) p.1 q.1)

  shallow_more : (j : ℕ) (xs : List ℕ) → Shallow j xs → Shallow (suc j) xs
  unfolding Shallow
  shallow_more j [] s = tt
  shallow_more j (x ∷ xs) s = ((s.0.0, omega (arith, s.0.1), s.0.2), shallow_more j xs s.1)

  -- Nobody has j people before them and fewer too.
  shallow_apart : (j i : ℕ) (xs : List ℕ) → Deep j i → Shallow j xs → Apart i xs
  unfolding Shallow
  shallow_apart j i [] p s = tt
  shallow_apart j i (x ∷ xs) p s = (
    (λ e. omega (arith, s.0.1, once j s.0.0 i p (subst (λ y. Deep s.0.0 y) (sym e) s.0.2))),
    shallow_apart j i xs p s.1,
  )

  -- Who is come to by going back has fewer people before them.
  shallower : (m i j a : ℕ) → leads_back before m i j ≡ true → Deep a j → (b : ℕ) × (b < a) × Deep b i
  unfolding Deep
  shallower zero i j a t p = absurd (both_ways false refl t)
  shallower (suc m) i j zero t p = absurd (both_ways _ (ap not (eq-eqb _ _ p)) (and_parts _ _ t).0)
  shallower (suc m) i j (suc a) t p =
      elim (or_cases _ _ (and_parts _ _ t).1) [
        | inl e ↦ (a, omega arith, subst (Deep a) (eqb-true _ _ e) p.1)
        | inr e ↦ let b = shallower m i (prior before j) a e p.1 in (b.0, omega (arith, b.1), b.2)
      ]

  off_circle : (n i : ℕ) → Ends before n i → on_circle before n i ≡ false
  off_circle n i e = elim (cases_Bool (on_circle before n i)) [
    | inr f ↦ f
    | inl t ↦
        let a = deep n i e in
        let b = shallower n i i a.0 t a.1 in
        absurd (omega (arith, b.1, once a.0 b.0 i a.1 b.2))
  ]

  -- k steps back from i.
  back : ℕ → ℕ → ℕ
  back zero i = i
  back (suc k) i = back k (prior before i)

  back_more : (a c i : ℕ) → back (c + a) i ≡ back c (back a i)
  unfolding back
  back_more zero c i = let e : c + 0 ≡ c = omega arith in ap (λ z. back z i) e
  back_more (suc a) c i = let e : c + suc a ≡ suc (c + a) = omega arith in ap (λ z. back z i) e ∙ back_more a c (prior before i)

  -- Going back from i ends within m, or goes on for m steps.
  goes : (m i : ℕ) → Ends before m i ⊎ ((k : ℕ) → k < m → prior before (back k i) ≡ nobody → ⊥)
  unfolding Ends back
  goes zero i = inr (λ k l. absurd (omega arith))
  goes (suc m) i = go (cases_eq (prior before i) nobody) (goes m (prior before i))
    where
      go : (prior before i ≡ nobody) ⊎ (prior before i ≡ nobody → ⊥) → Ends before m (prior before i) ⊎ ((k : ℕ) → k < m → prior before (back k (prior before i)) ≡ nobody → ⊥) →
          Ends before (suc m) i ⊎ ((k : ℕ) → k < suc m → prior before (back k i) ≡ nobody → ⊥)
      go (inl e) f = inl (inl e)
      go (inr e) (inl f) = inl (inr f)
      go (inr e) (inr f) = inr on
        where
          on : (k : ℕ) → k < suc m → prior before (back k i) ≡ nobody → ⊥
          on zero l = e
          on (suc k) l = f k (omega arith)

  back_one : (k i : ℕ) → back (suc k) i ≡ prior before (back k i)
  unfolding back
  back_one zero i = refl
  back_one (suc k) i = back_one k (prior before i)

  -- A person to whom going back from j comes in c + 1 steps.
  leads : (c m i j : ℕ) → c < m → ((k : ℕ) → k ≤ c → prior before (back k j) ≡ nobody → ⊥) → back (suc c) j ≡ i → leads_back before m i j ≡ true
  unfolding back
  leads c zero i j l on e = absurd (omega arith)
  leads zero (suc m) i j l on e = and_from _ _ (not_from_false _ (ne_eqb _ _ (on 0 (omega arith)))) (or_left _ _ (eq-eqb _ _ e))
  leads (suc c) (suc m) i j l on e =
      and_from _ _ (not_from_false _ (ne_eqb _ _ (on 0 (omega arith)))) (or_right _ _ (leads c m i (prior before j) (omega arith) (λ k q. on (suc k) (omega arith)) e))

  module _ (n : ℕ) (persons : (i : ℕ) → i < n → (prior before i ≡ nobody) ⊎ (prior before i < n)) where
    back_low : (i : ℕ) → i < n → ((k : ℕ) → k < n → prior before (back k i) ≡ nobody → ⊥) → (k : ℕ) → k ≤ n → back k i < n
    unfolding back
    back_low i l on zero m = l
    back_low i l on (suc k) m =
        elim (persons (back k i) (back_low i l on k (omega arith))) [ inl e ↦ absurd (on k (omega arith) e) | inr e ↦ rw (back_one k i) e ]

    -- Going back n steps from i meets n + 1 people, so one of them twice: that one stands on a circle.
    meets : (i : ℕ) → i < n → ((k : ℕ) → k < n → prior before (back k i) ≡ nobody → ⊥) → (p : ℕ) × (p < n) × (on_circle before n p ≡ true)
    meets i l on =
        let t = pigeonhole (λ k. back k i) n (back_low i l on) in
        let c = span t.a t.b t.order in
        let p = back t.a i in
        let e : back (suc c.0) p ≡ p = sym (back_more t.a (suc c.0) i) ∙ ap (λ z. back z i) (sym c.1) ∙ sym t.same in
        (p, back_low i l on t.a (omega (arith, t.order, t.within)), leads c.0 n p p (omega (arith, c.1, t.within)) (λ k q r. on (k + t.a) (omega (arith, c.1, t.within)) (ap (prior before) (back_more t.a k i) ∙ r)) e)
      where
        span : (a b : ℕ) → a < b → (c : ℕ) × (b ≡ suc c + a)
        span a b l = (b - suc a, omega arith)

    ends : ((i : ℕ) → i < n → on_circle before n i ≡ false) → (i : ℕ) → i < n → Ends before n i
    ends none i l = elim (goes n i) [ inl e ↦ e | inr on ↦ let m = meets i l on in absurd (both_ways _ (none m.0 m.1) m.2) ]

pub ends_or_circle : EndsOrCircle
ends_or_circle before n persons = (ends before n persons, λ e i l. off_circle before n i (e i l))

module _ (h : House) (room before : List ℕ) (d : List ℤ) (f : RowsShown h room d before) where
  -- The row back from somebody with j people before them: whoever stands nearer to its end has more people before them, so nobody stands in it twice.
  -- Each way adds what the numbers differ by.
  row_back : (j i : ℕ) → i < h.n → Deep before j i → (xs : List ℕ) × Row h.n i xs × (long h room i xs ≡ number d i) × Shallow before j xs
  unfolding Deep long Shallow
  row_back zero i l p = elim (f.comes i l) [ inl c ↦ ([], l, sym c.1, tt) | inr c ↦ absurd (c.2 p) ]
  row_back (suc j) i l p = elim (f.comes i l) [
    | inl c ↦ absurd (p.0 c.0)
    | inr c ↦
        let k = prior before i in
        let b = row_back j k c.0 p.1 in
        let s : Shallow before (suc j) (k ∷ b.0) = ((j, omega arith, p.1), shallow_more before j b.0 b.3) in (
          k ∷ b.0,
          (l, shallow_apart before (suc j) i (k ∷ b.0) p s, b.1),
          ap (λ z. z +ℤ way h room k i) b.2 ∙ sym c.1,
          s,
        )
  ]

pub shown_longest : ShownLongest
shown_longest h room before d all f = record {
  all = all;
  reached = λ i l.
      let j = deep before h.n i (f.ends i l) in
      let b = row_back h room before d f j.0 i l j.1 in
      (b.0, b.1, b.2);
  most = λ i xs l r. none_longer h room (number d) f.low f.most i xs r;
}
