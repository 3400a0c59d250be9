-- The search from its start to its end.
use Rattle.std.proofs.Common.{◌≡◌, ℕ, zero, suc, ◌+◌, ◌-◌, ◌<◌, ◌≤◌, cond, eqb, ltb, List, map, length, get_or, take, set, replicate, sym, refl, ap, ◌∙◌, subst, inl, inr, arith, get_or-set_other, get_or-set_same}
use Rattle.std.specs.List.{range_with_len}
use Rattle.std.proofs.lemmas.List.{length-take-le, take-take, get_or-take, get_or-replicate, length-replicate}
use Rattle.std.proofs.lemmas.Bool.{cases_eq, eq-eqb, ne_eqb, cond-true, cond-false}
use Rattle.std.proofs.lemmas.List.Sums.{count_by-le-length}
use Rattle.std.proofs.lemmas.List.FromFn.{get_or-map-range_with_len, length-map-range_with_len, fill_by_all}
use Rattle.rooms.specs.Before.{nobody, Ends}
use Rattle.assignment.specs.Search.{at}
use Rattle.longest.specs.Run.{Offers, offers, through, first_offers, State, state, lengthened, run, start, nearest}
use Rattle.longest.specs.View.{lefts, befores, offered, standing}
use Rattle.longest.specs.declared.Row.{Row}
use Rattle.longest.proofs.Nearest.{Next, next, nothing_longer, Taken}
use Rattle.longest.proofs.Views.{nothing, left_at, lefts_long, before_at, lefts_set, befores_set}
use Rattle.longest.proofs.Growth.{Offered, Grown, lower, through_wide, through_whence, fewer, grows}

module _ (n : ℕ) (s : ℕ → ℕ → ℕ) (u : List ℕ) (fits : n ≤ length u) where
  -- The first offers, after the ways from the persons below k.
  first_offered : (k : ℕ) → k ≤ n → Offered n s k (take n u) (first_offers s n u k).offer (first_offers s n u k).from
  unfolding first_offers
  first_offered zero h = record {
    wide = length-take-le n u fits;
    whence = length-replicate n nobody;
    least = λ k i hk hi. absurd (omega arith);
    made = λ i hi lt. absurd (omega arith);
  }
  first_offered (suc k) h =
      let p = first_offered k (omega arith) in
      let o = (first_offers s n u k).offer in
      let f = (first_offers s n u k).from in
      let e : at (take n u) k ≡ at u k = get_or-take n u k 0 (omega arith) in
      record {
        wide = through_wide n s k (at u k) o f;
        whence = through_whence n s k (at u k) o f;
        least = λ j i hj hi. elim (cases_eq j k) [
          | inl q ↦ subst (λ y. at (through s n k (at u k) (offers o f)).offer i ≤ at (take n u) y + s y i) (sym q)
              (elim (lower n s k (at u k) o f i hi) [ inl z ↦ omega (arith, z.0) | inr z ↦ omega (arith, z.0, z.2) ])
          | inr d ↦
              let a : j < k = omega arith in
              elim (lower n s k (at u k) o f i hi) [
                | inl z ↦ omega (arith, z.0, z.2, p.least j i a hi)
                | inr z ↦ omega (arith, z.0, p.least j i a hi)
              ]
        ];
        made = λ i hi lt. elim (lower n s k (at u k) o f i hi) [
          | inl z ↦ (omega (arith, z.1), z.0 ∙ ap (λ y. y + s k i) (sym e) ∙ ap (λ y. at (take n u) y + s y i) (sym z.1))
          | inr z ↦
              let q = p.made i hi (omega (arith, z.0)) in
              (omega (arith, z.1, q.0), z.0 ∙ q.1 ∙ ap (λ y. at (take n u) y + s y i) (sym z.1))
        ];
      }

  pub started : Grown n s u (start s n u).left (start s n u).before (start s n u).offered.offer (start s n u).offered.from 0 0
  unfolding start Ends
  started = record {
    size = length-take-le n u fits;
    sizes = length-replicate n nobody;
    low = λ i h. omega (arith, get_or-take n u i 0 h);
    since = λ i h. inl (get_or-replicate n i nobody nobody h, get_or-take n u i 0 h);
    offered = first_offered n (omega arith);
    late = λ i h lt. omega arith;
    ends = λ i h. inl (get_or-replicate n i nobody nobody h);
    few = omega (arith, count_by-le-length (λ k. eqb k nobody) (replicate n nobody), length-replicate n nobody);
  }

pub run_stops : (s : ℕ → ℕ → ℕ) (n t : ℕ) (x : State) → nearest n x.left x.offered.offer n ≡ n → run s n (suc t) x ≡ x
unfolding run
run_stops s n t x e = cond-true _ _ _ (eq-eqb _ _ e)

pub run_goes : (s : ℕ → ℕ → ℕ) (n t : ℕ) (x : State) → (nearest n x.left x.offered.offer n ≡ n → ⊥) →
    run s n (suc t) x ≡ run s n t (lengthened s n (nearest n x.left x.offered.offer n) x)
unfolding run
run_goes s n t x d = cond-false _ _ _ (ne_eqb _ _ d)

pub run_none : (s : ℕ → ℕ → ℕ) (n : ℕ) (x : State) → run s n (n - 0) x ≡ run s n n x
run_none s n x = ap (λ t. run s n t x) (omega arith)

-- What is left of the rounds, from round r on.
module _ (s : ℕ → ℕ → ℕ) (n r : ℕ) (x y : State) (e : run s n (n - r) x ≡ y) where
  pub run_break : r < n → n ≡ nearest n x.left x.offered.offer n → x ≡ y
  run_break h q =
      let d : n - r ≡ suc (n - (r + 1)) = omega arith in
      sym (run_stops s n (n - (r + 1)) x (sym q)) ∙ ap (λ t. run s n t x) (sym d) ∙ e

  pub run_more : (k : ℕ) → r < n → k ≡ nearest n x.left x.offered.offer n → (k ≡ n → ⊥) → run s n (n - (r + 1)) (lengthened s n k x) ≡ y
  run_more k h q ne =
      let d : n - r ≡ suc (n - (r + 1)) = omega arith in
      ap (λ j. run s n (n - (r + 1)) (lengthened s n j x)) q
      ∙ sym (run_goes s n (n - (r + 1)) x (λ z. ne (q ∙ z))) ∙ ap (λ t. run s n t x) (sym d) ∙ e

  pub run_all : n ≤ r → x ≡ y
  unfolding run
  run_all h = let d : n - r ≡ 0 = omega arith in ap (λ t. run s n t x) (sym d) ∙ e

-- A round on rows: the person `to` takes the offer made, which leaves the least, `rest`.
module _ (n : ℕ) (rows others : List Row) (to rest : ℕ) (t : Taken n rows others to rest) where
  next_is : Next n (lefts rows) (lefts others) to
  next_is = subst (λ j. Next n (lefts rows) (lefts others) j) t.1 (next n (lefts rows) (lefts others) (λ z. omega (arith, t.0, t.1)))

  rest_is : rest ≡ at (lefts others) to
  rest_is = t.2 ∙ left_at others to

  pub rest_small : (c : ℕ) → ((i : ℕ) → i < n → at (lefts rows) i ≤ c) → rest ≤ c
  rest_small c all = omega (arith, rest_is, all to t.0, next_is.longer)

  pub left_small : (c : ℕ) → length rows ≡ n → ((i : ℕ) → i < n → at (lefts rows) i ≤ c) → (i : ℕ) → i < n → at (lefts (set rows to (get_or others to nothing))) i ≤ c
  left_small c e all i h =
      let offer = (get_or others to nothing).left in
      rw lefts_set (elim (cases_eq i to) [
        | inl z ↦ subst (λ j. at (set (lefts rows) to offer) j ≤ c) (sym z)
            (omega (arith, get_or-set_same (lefts rows) to offer 0 (omega (arith, t.0, lefts_long rows)), rest_small c all, t.2))
        | inr z ↦ omega (arith, get_or-set_other (lefts rows) to i offer 0 z, all i h)
      ])

  pub round_more : (s : ℕ → ℕ → ℕ) (r m : ℕ) (y : State) (after : List Row) → length others ≡ n → run s n (n - r) (standing rows others m) ≡ y → m ≡ r → r < n →
      offered after ≡ through s n to rest (offered others) → run s n (n - (r + 1)) (standing (set rows to (get_or others to nothing)) after (r + 1)) ≡ y
  unfolding lengthened
  round_more s r m y after lo e em h eo =
      let go = λ (x : State). run s n (n - (r + 1)) x in
      let offer = get_or others to nothing in
      let l = lefts_set rows to offer ∙ ap (set (lefts rows) to) (left_at others to) in
      let b = befores_set rows to offer ∙ ap (set (befores rows) to) (before_at others to (omega (arith, t.0))) in
      ap (λ x. go (state (lefts (set rows to offer)) (befores (set rows to offer)) x (r + 1))) (eo ∙ ap (λ x. through s n to x (offered others)) rest_is)
      ∙ ap (λ x. go (state x (befores (set rows to offer)) (through s n to (at (lefts others) to) (offered others)) (r + 1))) l
      ∙ ap (λ x. go (state (set (lefts rows) to (at (lefts others) to)) x (through s n to (at (lefts others) to) (offered others)) (r + 1))) b
      ∙ ap (λ j. go (state (set (lefts rows) to (at (lefts others) to)) (set (befores rows) to (at (befores others) to)) (through s n to (at (lefts others) to) (offered others)) (j + 1))) (sym em)
      ∙ run_more s n r (standing rows others m) y e to h (sym t.1) (λ z. omega (arith, t.0))

-- Where the search ends: no offer makes a row longer, and there were fewer rounds than people.
pub record Ended (n : ℕ) (s : ℕ → ℕ → ℕ) (u : List ℕ) (x : State) : Type 0 where
  pub last : ℕ
  pub grown : Grown n s u x.left x.before x.offered.offer x.offered.from x.rounds last
  pub over : (i : ℕ) → i < n → at x.left i ≤ at x.offered.offer i

-- n rounds are enough, since each makes another person's row longer, and that of somebody never.
module _ (n : ℕ) (some : 0 < n) (few : n ≤ nobody) (s : ℕ → ℕ → ℕ) (u : List ℕ) where
  pub runs : (t : ℕ) (x : State) (z : ℕ) → Grown n s u x.left x.before x.offered.offer x.offered.from x.rounds z → n ≤ t + x.rounds →
      Ended n s u (run s n t x)
  unfolding run lengthened
  runs zero x z g h = absurd (omega (arith, fewer n few s u _ _ _ _ _ _ g some))
  runs (suc t) x z g h = elim (cases_eq (nearest n x.left x.offered.offer n) n) [
    | inl e ↦ subst (λ y. Ended n s u y) (sym (run_stops s n t x e)) (record { last = z; grown = g; over = nothing_longer n _ _ e })
    | inr d ↦ subst (λ y. Ended n s u y) (sym (run_goes s n t x d))
        (runs t _ _ (grows n few s u _ _ _ _ _ _ g _ (next n _ _ d)) (omega arith))
  ]

  pub ended : n ≤ length u → Ended n s u (run s n n (start s n u))
  unfolding start
  ended fits = runs n (start s n u) 0 (started n s u fits) (omega arith)

pub start_is : (s : ℕ → ℕ → ℕ) (n : ℕ) (u l b o f : List ℕ) → l ≡ take n u → b ≡ replicate n nobody → offers o f ≡ first_offers s n u n → state l b (offers o f) 0 ≡ start s n u
unfolding start
start_is s n u l b o f el eb eo =
    ap (λ x. state x b (offers o f) 0) el ∙ ap (λ x. state (take n u) x (offers o f) 0) eb ∙ ap (λ x. state (take n u) (replicate n nobody) x 0) eo

-- Only the numbers of the n people count.
first_take : (s : ℕ → ℕ → ℕ) (n : ℕ) (u : List ℕ) (k : ℕ) → k ≤ n → first_offers s n (take n u) k ≡ first_offers s n u k
unfolding first_offers
first_take s n u zero h = ap (λ x. offers x (replicate n nobody)) (take-take n n u (omega arith))
first_take s n u (suc k) h =
    ap (λ x. through s n k x (first_offers s n (take n u) k)) (get_or-take n u k 0 (omega arith)) ∙ ap (through s n k (at u k)) (first_take s n u k (omega arith))

pub start_take : (s : ℕ → ℕ → ℕ) (n : ℕ) (u : List ℕ) → start s n (take n u) ≡ start s n u
unfolding start
start_take s n u =
    ap (λ x. state x (replicate n nobody) (first_offers s n (take n u) n) 0) (take-take n n u (omega arith))
    ∙ ap (λ x. state (take n u) (replicate n nobody) x 0) (first_take s n u n (omega arith))

-- The search looks only at the slacks among the n.
pub map_same : (f g : ℕ → ℕ) (n : ℕ) → ((i : ℕ) → i < n → f i ≡ g i) → map f (range_with_len 0 n) ≡ map g (range_with_len 0 n)
map_same f g n e =
    fill_by_all g (map f (range_with_len 0 n)) n 0 (length-map-range_with_len f 0 n) (λ i h. get_or-map-range_with_len f 0 n i i 0 h (omega arith) ∙ e i h)

module _ (n : ℕ) (s r : ℕ → ℕ → ℕ) (same : (k i : ℕ) → k < n → i < n → s k i ≡ r k i) where
  through_same : (k rest : ℕ) (o : Offers) → k < n → through s n k rest o ≡ through r n k rest o
  unfolding through
  through_same k rest o h =
      ap (λ x. offers x (map (λ i. cond (ltb (rest + s k i) (at o.offer i)) k (at o.from i)) (range_with_len 0 n)))
      (map_same _ _ n (λ i l. ap (λ z. cond (ltb (rest + z) (at o.offer i)) (rest + z) (at o.offer i)) (same k i h l)))
      ∙ ap (λ x. offers (map (λ i. cond (ltb (rest + r k i) (at o.offer i)) (rest + r k i) (at o.offer i)) (range_with_len 0 n)) x)
      (map_same _ _ n (λ i l. ap (λ z. cond (ltb (rest + z) (at o.offer i)) k (at o.from i)) (same k i h l)))

  first_same : (u : List ℕ) (k : ℕ) → k ≤ n → first_offers s n u k ≡ first_offers r n u k
  unfolding first_offers
  first_same u zero h = refl
  first_same u (suc k) h =
      through_same k (at u k) (first_offers s n u k) (omega arith) ∙ ap (through r n k (at u k)) (first_same u k (omega arith))

  run_same : (t : ℕ) (x : State) → run s n t x ≡ run r n t x
  unfolding run lengthened
  run_same zero x = refl
  run_same (suc t) x = elim (cases_eq (nearest n x.left x.offered.offer n) n) [
    | inl e ↦ run_stops s n t x e ∙ sym (run_stops r n t x e)
    | inr d ↦
        let k = nearest n x.left x.offered.offer n in
        let o = at x.offered.offer k in
        run_goes s n t x d
        ∙ ap (λ y. run s n t (state (set x.left k o) (set x.before k (at x.offered.from k)) y (x.rounds + 1)))
        (through_same k o x.offered (next n _ _ d).here)
        ∙ run_same t (lengthened r n k x)
        ∙ sym (run_goes r n t x d)
  ]

  pub whole_same : (u : List ℕ) → run s n n (start s n u) ≡ run r n n (start r n u)
  unfolding start
  whole_same u = ap (λ y. run s n n (state (take n u) (replicate n nobody) y 0)) (first_same u n (omega arith)) ∙ run_same n (start r n u)
