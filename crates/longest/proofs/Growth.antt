-- Rows grow one at a time, and nobody's grows twice: what stays true from round to round.
use Rattle.std.proofs.Common.{◌≡◌, ℕ, zero, suc, ◌+◌, ◌<◌, ◌≤◌, cond, eqb, ltb, ◌≢◌, ◌⊎◌, List, length, get_or, set, count_by, sym, refl, ap, ◌∙◌, subst, inl, inr, arith, get_or-set_other, get_or-set_same}
use Rattle.std.proofs.lemmas.List.{get_or_past, length-set}
use Rattle.std.proofs.lemmas.Bool.{cases_eq, cases_lt, eq-eqb, ne_eqb}
use Rattle.std.proofs.lemmas.List.Sums.{sum_by-set, get_or-le-sum_by}
use Rattle.std.proofs.lemmas.List.FromFn.{get_or-map-range_with_len, length-map-range_with_len}
use Rattle.std.proofs.lemmas.Bool.Decides.{nat_tests}
use Rattle.rooms.specs.Before.{nobody, prior, Ends}
use Rattle.assignment.specs.Search.{at}
use Rattle.longest.specs.Run.{offers, through}
use Rattle.longest.proofs.Nearest.{Next}

-- What the offers are worth: none is above what a row through anybody below m leaves, and one below what is left comes from a person it is made by.
pub record Offered (n : ℕ) (s : ℕ → ℕ → ℕ) (m : ℕ) (l o f : List ℕ) : Type 0 where
  pub wide : length o ≡ n
  pub whence : length f ≡ n
  pub least : (k i : ℕ) → k < m → i < n → at o i ≤ at l k + s k i
  pub made : (i : ℕ) → i < n → at o i < at l i → (at f i < n) × (at o i ≡ at l (at f i) + s (at f i) i)

module _ (n : ℕ) (s : ℕ → ℕ → ℕ) (k rest : ℕ) (o f : List ℕ) where
  -- the offers of one person, at one place: taken where they are lower
  pub lower : (i : ℕ) → i < n →
      ((at (through s n k rest (offers o f)).offer i ≡ rest + s k i) × (at (through s n k rest (offers o f)).from i ≡ k) × (rest + s k i < at o i))
      ⊎ ((at (through s n k rest (offers o f)).offer i ≡ at o i) × (at (through s n k rest (offers o f)).from i ≡ at f i) × (at o i ≤ rest + s k i))
  unfolding through
  lower i h =
      let p = get_or-map-range_with_len {X = ℕ} (λ i. cond (ltb (rest + s k i) (at o i)) (rest + s k i) (at o i)) 0 n i i 0 h (omega arith) in
      let q = get_or-map-range_with_len {X = ℕ} (λ i. cond (ltb (rest + s k i) (at o i)) k (at f i)) 0 n i i 0 h (omega arith) in
      rw (p, q) (elim (cases_lt (rest + s k i) (at o i)) [
        | inl l ↦ inl (grind (arith, nat_tests), grind (arith, nat_tests), l)
        | inr l ↦ inr (grind (arith, nat_tests), grind (arith, nat_tests), l)
      ])

  pub through_wide : length (through s n k rest (offers o f)).offer ≡ n
  unfolding through
  through_wide = length-map-range_with_len _ 0 n

  pub through_whence : length (through s n k rest (offers o f)).from ≡ n
  unfolding through
  through_whence = length-map-range_with_len _ 0 n

-- Whoever has grown stands behind one of the n, and has no more left than t; the others have all their number left.
abbrev pub Since : ℕ → (ℕ → ℕ → ℕ) → (u l b : List ℕ) → ℕ → ℕ → Type 0
Since n s u l b t i =
    ((prior b i ≡ nobody) × (at l i ≡ at u i))
    ⊎ ((prior b i < n) × (at l i ≡ at l (prior b i) + s (prior b i) i) × (at l i ≤ t))

abbrev pub alone : List ℕ → ℕ
alone b = count_by (λ k. eqb k nobody) b

-- After m rounds, the last of which left t to the one who grew.
pub record Grown (n : ℕ) (s : ℕ → ℕ → ℕ) (u l b o f : List ℕ) (m t : ℕ) : Type 0 where
  pub size : length l ≡ n
  pub sizes : length b ≡ n
  pub low : (i : ℕ) → i < n → at l i ≤ at u i
  pub since : (i : ℕ) → i < n → Since n s u l b t i
  pub offered : Offered n s n l o f
  pub late : (i : ℕ) → i < n → at o i < at l i → t ≤ at o i
  pub ends : (i : ℕ) → i < n → Ends b (suc m) i
  pub few : alone b + m ≤ n

-- One person more changes nothing once going back has ended.
ends_more : (b : List ℕ) (m i : ℕ) → Ends b m i → Ends b (suc m) i
unfolding Ends
ends_more b zero i e = absurd e
ends_more b (suc m) i (inl p) = inl p
ends_more b (suc m) i (inr e) = inr (ends_more b m (prior b i) e)

pub ends_up : (b : List ℕ) (m j i : ℕ) → Ends b m i → Ends b (j + m) i
ends_up b m zero i e = subst (λ x. Ends b x i) (omega arith) e
ends_up b m (suc j) i e = subst (λ x. Ends b x i) (omega arith) (ends_more b (j + m) i (ends_up b m j i e))

-- Where nobody goes back to i, a change at i changes no other way back.
ends_apart : (b : List ℕ) (i k : ℕ) → ((y : ℕ) → prior b y ≢ i) → (m x : ℕ) → x ≢ i → Ends b m x → Ends (set b i k) m x
unfolding Ends
ends_apart b i k none zero x h e = absurd e
ends_apart b i k none (suc m) x h (inl p) = inl (get_or-set_other b i x k nobody h ∙ p)
ends_apart b i k none (suc m) x h (inr e) =
    inr (subst (λ y. Ends (set b i k) m y) (sym (get_or-set_other b i x k nobody h)) (ends_apart b i k none m (prior b x) (none x) e))

alone_less : (b : List ℕ) (i k : ℕ) → i < length b → prior b i ≡ nobody → k < nobody → alone (set b i k) + 1 ≡ alone b
alone_less b i k h e lt =
    let z = sum_by-set (λ x. cond (eqb x nobody) 1 0) b i k nobody h in
    let p : ◌≡◌ {A = ℕ} (cond (eqb (get_or b i nobody) nobody) 1 0) 1 = rw (eq-eqb (get_or b i nobody) nobody e) refl in
    let q : ◌≡◌ {A = ℕ} (cond (eqb k nobody) 1 0) 0 = rw (ne_eqb k nobody (λ x. omega arith)) refl in
    omega arith

alone_some : (b : List ℕ) (i : ℕ) → i < length b → prior b i ≡ nobody → 1 ≤ alone b
alone_some b i h e =
    let z = get_or-le-sum_by (λ x. cond (eqb x nobody) 1 0) b i nobody h in
    let p : ◌≡◌ {A = ℕ} (cond (eqb (get_or b i nobody) nobody) 1 0) 1 = rw (eq-eqb (get_or b i nobody) nobody e) refl in
    omega arith

module _ (n : ℕ) (few : n ≤ nobody) (s : ℕ → ℕ → ℕ) (u l b o f : List ℕ) (m t : ℕ) (g : Grown n s u l b o f m t) where
  -- Going back from anybody comes to somebody alone.
  first : (j i : ℕ) → i < n → Ends b j i → 1 ≤ alone b
  unfolding Ends
  first zero i h e = absurd e
  first (suc j) i h (inl p) = alone_some b i (omega (arith, g.sizes)) p
  first (suc j) i h (inr e) =
      elim (g.since i h) [
        | inl p ↦ alone_some b i (omega (arith, g.sizes)) p.0
        | inr p ↦ first j (prior b i) p.0 e
      ]

  -- There are never as many rounds as people: each makes one person fewer stand alone, and one always does.
  pub fewer : 0 < n → m < n
  fewer h = omega (arith, first (suc m) 0 h (g.ends 0 h), g.few)

  -- Person k takes the offer made, the least of those that make a row longer. Nobody grows twice: whoever grew has at most t left, and no offer that
  -- makes a row longer is below t, so k has not grown yet; nor does anybody stand behind k, who would have grown and have at least as much left as k.
  -- So nothing that was settled changes: rows back are as they were, and that of k is one person longer than that of the one who made the offer.
  -- What k offers now is at least the offer taken, since slacks are not below nothing, and so no offer is below it.
  module _ (k : ℕ) (x : Next n l o k) where
    later : t ≤ at o k
    later = g.late k x.here x.longer

    fresh : prior b k ≡ nobody
    fresh = elim (g.since k x.here) [ inl p ↦ p.0 | inr p ↦ absurd (omega (arith, p.2, later, x.longer)) ]

    childless : (y : ℕ) → prior b y ≢ k
    childless y e =
        elim (cases_lt y n) [
          | inl h ↦ elim (g.since y h) [
            | inl p ↦ omega (arith, p.0, x.here)
            | inr p ↦
                let q : at l y ≡ at l k + s k y = subst (λ j. at l y ≡ at l j + s j y) e p.1 in
                omega (arith, p.2, later, x.longer)
          ]
          | inr h ↦ omega (arith, get_or_past b y nobody (omega (arith, g.sizes)), x.here)
        ]

    made_by : at f k < n
    made_by = (g.offered.made k x.here x.longer).0

    made_of : at o k ≡ at l (at f k) + s (at f k) k
    made_of = (g.offered.made k x.here x.longer).1

    other : at f k ≢ k
    other e =
        let q : at o k ≡ at l k + s k k = subst (λ j. at o k ≡ at l j + s j k) e made_of in
        omega (arith, x.longer)

    l' : List ℕ
    l' = set l k (at o k)

    b' : List ℕ
    b' = set b k (at f k)

    o' : List ℕ
    o' = (through s n k (at o k) (offers o f)).offer

    f' : List ℕ
    f' = (through s n k (at o k) (offers o f)).from

    at_k : at l' k ≡ at o k
    unfolding l'
    at_k = get_or-set_same l k (at o k) 0 (omega (arith, g.size, x.here))

    at_j : (j : ℕ) → j ≢ k → at l' j ≡ at l j
    unfolding l'
    at_j j h = get_or-set_other l k j (at o k) 0 h

    prior_k : prior b' k ≡ at f k
    unfolding b'
    prior_k = get_or-set_same b k (at f k) nobody (omega (arith, g.sizes, x.here))

    prior_j : (j : ℕ) → j ≢ k → prior b' j ≡ prior b j
    unfolding b'
    prior_j j h = get_or-set_other b k j (at f k) nobody h

    grown_low : (i : ℕ) → i < n → at l' i ≤ at u i
    grown_low i h = elim (cases_eq i k) [
      | inl e ↦ subst (λ y. at l' y ≤ at u y) (sym e) (omega (arith, at_k, x.longer, g.low k x.here))
      | inr d ↦ omega (arith, at_j i d, g.low i h)
    ]

    since_k : Since n s u l' b' (at o k) k
    since_k = inr (
      omega (arith, prior_k, made_by),
      at_k ∙ made_of ∙ ap (λ z. z + s (at f k) k) (sym (at_j (at f k) other)) ∙ ap (λ y. at l' y + s y k) (sym prior_k),
      omega (arith, at_k),
    )

    since_j : (j : ℕ) → j < n → j ≢ k → Since n s u l' b' (at o k) j
    since_j j h d = elim (g.since j h) [
      | inl p ↦ inl (prior_j j d ∙ p.0, at_j j d ∙ p.1)
      | inr p ↦ inr (
        omega (arith, prior_j j d, p.0),
        at_j j d ∙ p.1 ∙ ap (λ z. z + s (prior b j) j) (sym (at_j (prior b j) (childless j))) ∙ ap (λ y. at l' y + s y j) (sym (prior_j j d)),
        omega (arith, at_j j d, p.2, later),
      )
    ]

    grown_since : (j : ℕ) → j < n → Since n s u l' b' (at o k) j
    grown_since j h = elim (cases_eq j k) [
      | inl e ↦ subst (λ y. Since n s u l' b' (at o k) y) (sym e) since_k
      | inr d ↦ since_j j h d
    ]

    falls : (i : ℕ) → i < n → at o' i ≤ at o i
    unfolding o'
    falls i h = elim (lower n s k (at o k) o f i h) [ inl p ↦ omega (arith, p.0, p.2) | inr p ↦ omega (arith, p.0) ]

    meets : (i : ℕ) → i < n → at o' i ≤ at o k + s k i
    unfolding o'
    meets i h = elim (lower n s k (at o k) o f i h) [ inl p ↦ omega (arith, p.0) | inr p ↦ omega (arith, p.0, p.2) ]

    grown_least : (j i : ℕ) → j < n → i < n → at o' i ≤ at l' j + s j i
    grown_least j i hj hi = elim (cases_eq j k) [
      | inl e ↦ subst (λ y. at o' i ≤ at l' y + s y i) (sym e) (omega (arith, at_k, meets i hi))
      | inr d ↦ omega (arith, at_j j d, falls i hi, g.offered.least j i hj hi)
    ]

    -- an offer that stays was not made through k, which now leaves less
    stays : (i : ℕ) → i < n → at o i < at l' i → at o i ≤ at o k + s k i → (at f i < n) × (at o i ≡ at l' (at f i) + s (at f i) i)
    stays i h lt above =
        elim (cases_eq i k) [
          | inl e ↦ let q : at o k < at l' k = subst (λ y. at o y < at l' y) e lt in absurd (omega (arith, at_k))
          | inr d ↦
              let p = g.offered.made i h (omega (arith, at_j i d)) in
              let a : at f i ≢ k = λ e. let q : at o i ≡ at l k + s k i = subst (λ y. at o i ≡ at l y + s y i) e p.1 in omega (arith, x.longer) in
              (p.0, p.1 ∙ ap (λ z. z + s (at f i) i) (sym (at_j (at f i) a)))
        ]

    grown_made : (i : ℕ) → i < n → at o' i < at l' i → (at f' i < n) × (at o' i ≡ at l' (at f' i) + s (at f' i) i)
    unfolding o' f'
    grown_made i h lt = elim (lower n s k (at o k) o f i h) [
      | inl p ↦ (omega (arith, p.1, x.here), p.0 ∙ ap (λ z. z + s k i) (sym at_k) ∙ ap (λ y. at l' y + s y i) (sym p.1))
      | inr p ↦
          let q = stays i h (omega (arith, p.0)) p.2 in
          (omega (arith, p.1, q.0), p.0 ∙ q.1 ∙ ap (λ y. at l' y + s y i) (sym p.1))
    ]

    grown_late : (i : ℕ) → i < n → at o' i < at l' i → at o k ≤ at o' i
    unfolding o'
    grown_late i h lt = elim (lower n s k (at o k) o f i h) [
      | inl p ↦ omega (arith, p.0)
      | inr p ↦ elim (cases_eq i k) [
        | inl e ↦ let q = subst (λ y. at (through s n k (at o k) (offers o f)).offer i ≡ at o y) e p.0 in omega arith
        | inr d ↦ omega (arith, p.0, x.least i h (omega (arith, p.0, at_j i d)))
      ]
    ]

    ends_k : Ends b' (suc (suc m)) k
    unfolding Ends b'
    ends_k = inr (subst (λ y. Ends b' (suc m) y) (sym prior_k) (ends_apart b k (at f k) childless (suc m) (at f k) other (g.ends (at f k) made_by)))

    grown_ends : (j : ℕ) → j < n → Ends b' (suc (m + 1)) j
    unfolding b'
    grown_ends j h = subst (λ y. Ends b' y j) (omega arith) (elim (cases_eq j k) [
      | inl e ↦ subst (λ y. Ends b' (suc (suc m)) y) (sym e) ends_k
      | inr d ↦ ends_apart b k (at f k) childless (suc (suc m)) j d (ends_more b (suc m) j (g.ends j h))
    ])

    pub grows : Grown n s u (set l k (at o k)) (set b k (at f k)) (through s n k (at o k) (offers o f)).offer (through s n k (at o k) (offers o f)).from (m + 1) (at o k)
    unfolding l' b' o' f'
    grows = record {
      size = length-set l k (at o k) ∙ g.size;
      sizes = length-set b k (at f k) ∙ g.sizes;
      low = grown_low;
      since = grown_since;
      offered = record {
        wide = through_wide n s k (at o k) o f;
        whence = through_whence n s k (at o k) o f;
        least = grown_least;
        made = grown_made;
      };
      late = grown_late;
      ends = grown_ends;
      few = omega (arith, alone_less b k (at f k) (omega (arith, g.sizes, x.here)) fresh (omega (arith, made_by)), g.few);
    }
