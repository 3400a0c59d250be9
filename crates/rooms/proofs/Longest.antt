-- Longest rows: lengthen rows by ways until no way leads to more, or until a row around is longer than nothing.
use Rattle.std.proofs.Common.{◌≡◌, ℕ, zero, suc, ◌<◌, cond, eqb, ◌⊎◌, List, [], ◌∷◌, map, ℤ, pos, ◌+ℤ◌, nat_abs, ◌≤ℤ◌, ◌<ℤ◌, sym, refl, ap, inl, inr, arith, eq-eqb}
use borrow.Author.Tests.{apart_eqb}
use Rattle.std.specs.List.{range_with_len}
use Rattle.std.proofs.lemmas.List.FromFn.{get_or-map-range_with_len, length-map-range_with_len}
use Rattle.std.proofs.lemmas.Int.{ints, by_lt_z}
use Rattle.std.proofs.lemmas.Bool.{cases_eq}
use Rattle.rooms.specs.House.{House, joint, room_of, sum, value}
use Rattle.rooms.specs.Rows.{Apart, Longest, Row, begin, long, number, way}
use Rattle.rooms.specs.Sharing.{LongestExists, NoMore}
use Rattle.rooms.proofs.Find.{find}
use Rattle.rooms.proofs.Row.{Parted, part, row_end}
use Rattle.rooms.proofs.Sum.{sum_but, sum_le, term_le}
use Rattle.rooms.proofs.Turn.{best_around}

-- Numbers that no way leads to more than, from 0 on, are not below any row. By induction along the row.
pub none_longer : (h : House) (room : List ℕ) (d : ℕ → ℤ) → ((i : ℕ) → i < h.n → pos 0 ≤ℤ d i) →
    ((k i : ℕ) → k < h.n → i < h.n → (d k +ℤ way h room k i) ≤ℤ d i) → (i : ℕ) (xs : List ℕ) → Row h.n i xs → long h room i xs ≤ℤ d i
unfolding long
none_longer h room d some most i [] r = some i r
none_longer h room d some most i (k ∷ xs) r =
    let a = none_longer h room d some most k xs r.2 in
    let b = most k i (row_end h.n k xs r.2) r.0 in
    omega (arith, ints)

-- A row around that is longer than nothing.
pub record Circle (h : House) (room : List ℕ) : Type 0 where
  pub i : ℕ
  pub xs : List ℕ
  pub row : Row h.n i xs
  pub above : pos 0 <ℤ (long h room i xs +ℤ way h room i (begin i xs))

module _ (h : House) (room : List ℕ) where
  -- A row for each person, none shorter than nothing and none longer than what the person's own room is worth to them.
  record RowsTo (rows : ℕ → List ℕ) : Type 0 where
    row : (i : ℕ) → i < h.n → Row h.n i (rows i)
    some : (i : ℕ) → i < h.n → pos 0 ≤ℤ long h room i (rows i)
    within : (i : ℕ) → i < h.n → long h room i (rows i) ≤ℤ value h i (room_of room i)

  all_long : (ℕ → List ℕ) → ℤ
  all_long rows = sum (λ i. long h room i (rows i)) h.n

  record Longer (rows : ℕ → List ℕ) : Type 0 where
    next : ℕ → List ℕ
    rows_to : RowsTo next
    more : all_long rows <ℤ all_long next

  Stable : (ℕ → List ℕ) → Type 0
  Stable rows = (k : ℕ) → k < h.n → (i : ℕ) → i < h.n → (long h room k (rows k) +ℤ way h room k i) ≤ℤ long h room i (rows i)

  worth_some : (i r : ℕ) → pos 0 ≤ℤ value h i r
  unfolding value
  worth_some i r = omega (arith, ints)

  -- A longer row to i takes the place of i's. One that is longer than i's own worth gives a row around longer than nothing: the way back takes no
  -- more than that worth from it.
  replace : (rows : ℕ → List ℕ) → RowsTo rows → (i : ℕ) (xs : List ℕ) → Row h.n i xs → long h room i (rows i) <ℤ long h room i xs →
      value h i (room_of room i) <ℤ long h room i xs ⊎ long h room i xs ≤ℤ value h i (room_of room i) → Longer rows ⊎ Circle h room
  unfolding all_long way
  replace rows s i xs r up (inl over) = inr (record { i = i; xs = xs; row = r; above = let a = worth_some (begin i xs) (room_of room i) in omega (arith, ints) })
  replace rows s i xs r up (inr within) = inl (record {
    next = next;
    rows_to = record {
      row = λ j l. elim (cases_eq j i) [ inl e ↦ rw e (rw here r) | inr e ↦ rw (there j e) (s.row j l) ];
      some = λ j l. elim (cases_eq j i) [ inl e ↦ rw e (rw here (above (s.some i (row_end h.n i xs r)))) | inr e ↦ rw (there j e) (s.some j l) ];
      within = λ j l. elim (cases_eq j i) [ inl e ↦ rw e (rw here within) | inr e ↦ rw (there j e) (s.within j l) ];
    };
    more =
        let a = sum_but (λ j. long h room j (next j)) (λ j. long h room j (rows j)) i h.n (row_end h.n i xs r) (λ j q e. ap (long h room j) (there j e)) in
        let b : long h room i (next i) ≡ long h room i xs = ap (long h room i) here in
        omega (arith, ints);
  })
    where
      next : ℕ → List ℕ
      next j = cond (eqb j i) xs (rows j)

      here : next i ≡ xs
      here = simp (eq-eqb i i refl)

      there : (j : ℕ) → ¬ (j ≡ i) → next j ≡ rows j
      there j e = simp (apart_eqb j i e)

      above : pos 0 ≤ℤ long h room i (rows i) → pos 0 ≤ℤ long h room i xs
      above a = omega (arith, ints)

  -- A way from k to i that leads to more. If i is none of k's row, the row goes on to i. Else take it apart at i: either the row up to i is longer
  -- than i's, or the rest with the way back to i is a row around longer than nothing.
  lengthen : (rows : ℕ → List ℕ) → RowsTo rows → (k i : ℕ) → k < h.n → i < h.n → long h room i (rows i) <ℤ (long h room k (rows k) +ℤ way h room k i) →
      Longer rows ⊎ Circle h room
  unfolding long
  lengthen rows s k i l m up = go (part h room i k (rows k) (s.row k l))
    where
      put : (xs : List ℕ) → Row h.n i xs → long h room i (rows i) <ℤ long h room i xs → Longer rows ⊎ Circle h room
      put xs r more = replace rows s i xs r more (by_lt_z (value h i (room_of room i)) (long h room i xs) inl inr)

      go : Apart i (k ∷ rows k) ⊎ Parted h room i k (rows k) → Longer rows ⊎ Circle h room
      go (inl a) = put (k ∷ rows k) (m, a, s.row k l) up
      go (inr p) =
          by_lt_z (long h room i (rows i)) (long h room i p.until) (put p.until p.row_until) (λ less. inr (record {
            i = k;
            xs = p.since;
            row = p.row_since;
            above =
                let a = p.adds in
                let b : way h room k (begin k p.since) ≡ way h room k i = ap (way h room k) p.begins in
                omega (arith, ints);
          }))

  step : (rows : ℕ → List ℕ) → RowsTo rows → Stable rows ⊎ (Longer rows ⊎ Circle h room)
  unfolding Stable
  step rows s =
      last (
      find (λ k. (i : ℕ) × (i < h.n) × (to i <ℤ over k i)) (λ k. (i : ℕ) → i < h.n → over k i ≤ℤ to i) h.n
      (λ k l. find (λ i. to i <ℤ over k i) (λ i. over k i ≤ℤ to i) h.n (λ i m. by_lt_z (to i) (over k i) inl inr))
      )
    where
      to : ℕ → ℤ
      to i = long h room i (rows i)

      over : ℕ → ℕ → ℤ
      over k i = to k +ℤ way h room k i

      last : ((k : ℕ) × (k < h.n) × ((i : ℕ) × (i < h.n) × (to i <ℤ over k i))) ⊎ ((k : ℕ) → k < h.n → (i : ℕ) → i < h.n → over k i ≤ℤ to i) →
          Stable rows ⊎ (Longer rows ⊎ Circle h room)
      last (inr a) = inl a
      last (inl f) = inr (lengthen rows s f.0 f.2.0 f.1 f.2.1 f.2.2)

  record Found : Type 0 where
    rows : ℕ → List ℕ
    rows_to : RowsTo rows
    stable : Stable rows

  -- All rows together get longer at each step, and are never longer than the joint worth.
  repeat : (f : ℕ) (rows : ℕ → List ℕ) → RowsTo rows → joint h room <ℤ (pos f +ℤ all_long rows) → Found ⊎ Circle h room
  unfolding all_long
  repeat zero rows s b =
      let a = sum_le (λ i. long h room i (rows i)) (λ i. value h i (room_of room i)) h.n s.within in
      absurd (omega (arith, ints))
  repeat (suc f) rows s b = last (step rows s) (repeat f)
    where
      last : Stable rows ⊎ (Longer rows ⊎ Circle h room) →
          ((next : ℕ → List ℕ) → RowsTo next → joint h room <ℤ (pos f +ℤ all_long next) → Found ⊎ Circle h room) → Found ⊎ Circle h room
      last (inl a) again = inl (record { rows = rows; rows_to = s; stable = a })
      last (inr (inl a)) again = let m = a.more in again a.next a.rows_to (omega (arith, ints))
      last (inr (inr a)) again = inr a

  alone : RowsTo (λ i. [])
  unfolding long
  alone = record { row = λ i l. l; some = λ i l. omega (arith, ints); within = λ i l. worth_some i (room_of room i) }

  enough : joint h room <ℤ (pos (suc (nat_abs (joint h room))) +ℤ all_long (λ i. []))
  unfolding all_long
  enough = let a = (term_le (λ i. long h room i []) h.n alone.some).0 in omega (arith, ints)

  found_or_circle : Found ⊎ Circle h room
  found_or_circle = repeat (suc (nat_abs (joint h room))) (λ i. []) alone enough

  longest_of : Found → (d : List ℤ) × Longest h room d × ((k i : ℕ) → k < h.n → i < h.n → (number d k +ℤ way h room k i) ≤ℤ number d i)
  unfolding Stable
  longest_of f = (
    map to (range_with_len 0 h.n),
    record {
      all = let a = length-map-range_with_len to 0 h.n in omega arith;
      reached = λ i l. (f.rows i, f.rows_to.row i l, sym (at i l));
      most = λ i xs l r. rw (at i l) (none_longer h room to f.rows_to.some (λ k i l m. f.stable k l i m) i xs r);
    },
    λ k i l m. rw (at k l, at i m) (f.stable k l i m),
  )
    where
      to : ℕ → ℤ
      to i = long h room i (f.rows i)

      at : (i : ℕ) → i < h.n → number (map to (range_with_len 0 h.n)) i ≡ to i
      at i l = get_or-map-range_with_len to 0 h.n i i (pos 0) l (omega arith)

-- There are longest rows and no way leads to more, or a row around is longer than nothing.
pub longest_or_circle : (h : House) (room : List ℕ) →
    ((d : List ℤ) × Longest h room d × ((k i : ℕ) → k < h.n → i < h.n → (number d k +ℤ way h room k i) ≤ℤ number d i)) ⊎ Circle h room
longest_or_circle h room = elim (found_or_circle h room) [ inl f ↦ inl (longest_of h room f) | inr c ↦ inr c ]

pub longest_exists : LongestExists
longest_exists h room s b =
    elim (longest_or_circle h room) [
      | inl d ↦ (d.0, d.1)
      | inr c ↦ let a = best_around h room s b c.i c.xs c.row in let u = c.above in absurd (omega (arith, ints))
    ]

-- A longest row to k goes on to i. Or i stands in it: then up to i it is at most as long as i's, and the rest with the way back to i is at most 0.
pub no_more : NoMore
unfolding long
no_more h room d s b g k i l m = go (g.reached k l)
  where
    go : (xs : List ℕ) × Row h.n k xs × (long h room k xs ≡ number d k) → (number d k +ℤ way h room k i) ≤ℤ number d i
    go x = at (part h room i k x.0 x.1)
      where
        at : Apart i (k ∷ x.0) ⊎ Parted h room i k x.0 → (number d k +ℤ way h room k i) ≤ℤ number d i
        at (inl a) = let t = g.most i (k ∷ x.0) m (m, a, x.1) in let e = x.2 in omega (arith, ints)
        at (inr p) =
            let a = p.adds in
            let e = x.2 in
            let t = g.most i p.until m p.row_until in
            let o = best_around h room s b k p.since p.row_since in
            let w : way h room k (begin k p.since) ≡ way h room k i = ap (way h room k) p.begins in
            omega (arith, ints)
