-- The sharing turned along a row: everybody takes the room of the one before, and who begins it the room of the one at its end. It is worth just as
-- much more as the row around is long.
use Rattle.std.proofs.Common.{◌≡◌, ℕ, ◌<◌, List, [], ◌∷◌, map, ℤ, ◌+ℤ◌, ◌-ℤ◌, sym, refl, ap, ◌∙◌, arith}
use Rattle.std.specs.List.{range_with_len}
use Rattle.std.proofs.lemmas.List.FromFn.{get_or-map-range_with_len, length-map-range_with_len}
use Rattle.std.proofs.lemmas.Int.{ints}
use Rattle.rooms.specs.House.{House, Housed, joint, room_of, sum, value}
use Rattle.rooms.specs.Rows.{Apart, Row, begin, long, way}
use Rattle.rooms.specs.Sharing.{BestAround}
use Rattle.rooms.proofs.Reorder.{Permutation, swap, swap_is, swap_own}
use Rattle.rooms.proofs.Row.{apart_begin, row_begin}
use Rattle.rooms.proofs.Sharing.{permutation}
use Rattle.rooms.proofs.Sum.{sum_but_two, sum_same}

record Turned (h : House) (room : List ℕ) (i : ℕ) (xs : List ℕ) : Type 0 where
  τ : ℕ → ℕ
  permutes : Permutation τ h.n
  has : τ (begin i xs) ≡ room_of room i
  rest : (j : ℕ) → Apart j (i ∷ xs) → τ j ≡ room_of room j
  worth : sum (λ j. value h j (τ j)) h.n ≡ joint h room +ℤ (long h room i xs +ℤ way h room i (begin i xs))

turn_alone : (h : House) (room : List ℕ) → Housed h room → (i : ℕ) → Turned h room i []
unfolding long way
turn_alone h room s i = record { τ = λ j. room_of room j; permutes = permutation h room s; has = refl; rest = λ j m. refl; worth = omega (arith, ints) }

-- One more person i at the end of a row from a to k: a holds k's room, and exchanges it with i for i's.
turn_on : (h : House) (room : List ℕ) (i k : ℕ) (xs : List ℕ) → Row h.n i (k ∷ xs) → Turned h room k xs → Turned h room i (k ∷ xs)
unfolding long way
turn_on h room i k xs row t =
    let n = h.n in
    let a = begin k xs in
    let l : i < n = row.0 in
    let f : a < n = row_begin n k xs row.2 in
    let ne : ¬ (a ≡ i) = λ e. apart_begin i k xs row.1 (sym e) in
    let at_i : t.τ i ≡ room_of room i = t.rest i row.1 in
    let to_a : swap a i a ≡ i = omega (arith, swap_is a i a) in
    let to_i : swap a i i ≡ a = omega (arith, swap_is a i i) in
    record {
      τ = λ j. t.τ (swap a i j);
      permutes = record {
        each = λ j p. t.permutes.each (swap a i j) (omega (arith, swap_is a i j));
        own = λ j q p r e. swap_own a i j q (t.permutes.own (swap a i j) (swap a i q) (omega (arith, swap_is a i j)) (omega (arith, swap_is a i q)) e);
      };
      has = ap t.τ to_a ∙ at_i;
      rest = λ j q. ap t.τ (omega (arith, swap_is a i j, q.0, apart_begin j k xs q.1)) ∙ t.rest j q.1;
      worth =
          let w = value h in
          let ρ = room_of room in
          let f' = λ (j : ℕ). w j (t.τ (swap a i j)) in
          let g = λ (j : ℕ). w j (t.τ j) in
          let b = sum_but_two f' g a i n f l ne (λ j p q r. ap (λ z. w j (t.τ z)) (omega (arith, swap_is a i j))) in
          let fa : f' a ≡ w a (ρ i) = ap (λ z. w a (t.τ z)) to_a ∙ ap (w a) at_i in
          let fi : f' i ≡ w i (ρ k) = ap (λ z. w i (t.τ z)) to_i ∙ ap (w i) t.has in
          let ga : g a ≡ w a (ρ k) = ap (w a) t.has in
          let gi : g i ≡ w i (ρ i) = ap (w i) at_i in
          weigh (sum f' n) (sum g n) (joint h room) (f' a) (f' i) (g a) (g i) (w a (ρ i)) (w i (ρ k)) (w a (ρ k)) (w i (ρ i)) (w k (ρ k)) (long h room k xs) b fa fi ga gi t.worth;
    }
  where
    weigh : (F G R fa fi ga gi ai ik ak ii kk x : ℤ) → (F +ℤ ga) +ℤ gi ≡ (G +ℤ fa) +ℤ fi → fa ≡ ai → fi ≡ ik → ga ≡ ak → gi ≡ ii →
        G ≡ R +ℤ (x +ℤ (ak -ℤ kk)) → F ≡ R +ℤ (x +ℤ (ik -ℤ kk) +ℤ (ai -ℤ ii))
    weigh F G R fa fi ga gi ai ik ak ii kk x b p q r s t = omega (arith, ints)

turn : (h : House) (room : List ℕ) → Housed h room → (i : ℕ) (xs : List ℕ) → Row h.n i xs → Turned h room i xs
turn h room s i [] r = turn_alone h room s i
turn h room s i (k ∷ xs) r = turn_on h room i k xs r (turn h room s k xs r.2)

-- Who has which room, as a list.
pub listed : (h : House) (τ : ℕ → ℕ) → Permutation τ h.n →
    Housed h (map τ (range_with_len 0 h.n)) × (joint h (map τ (range_with_len 0 h.n)) ≡ sum (λ j. value h j (τ j)) h.n)
listed h τ p = (
  record {
    all = let a = length-map-range_with_len τ 0 h.n in omega arith;
    each = λ i l. rw (at i l) (p.each i l);
    own = λ i j l m e. p.own i j l m (sym (at i l) ∙ e ∙ at j m);
  },
  sum_same (λ j. value h j (room_of (map τ (range_with_len 0 h.n)) j)) (λ j. value h j (τ j)) h.n (λ j l. ap (value h j) (at j l)),
)
  where
    at : (i : ℕ) → i < h.n → room_of (map τ (range_with_len 0 h.n)) i ≡ τ i
    at i l = get_or-map-range_with_len τ 0 h.n i i 0 l (omega arith)

-- The sharing turned along a row is a sharing.
pub turned : (h : House) (room : List ℕ) → Housed h room → (i : ℕ) (xs : List ℕ) → Row h.n i xs →
    (other : List ℕ) × Housed h other × (joint h other ≡ joint h room +ℤ (long h room i xs +ℤ way h room i (begin i xs)))
turned h room s i xs r =
    let t = turn h room s i xs r in
    let o = listed h t.τ t.permutes in
    (map t.τ (range_with_len 0 h.n), o.0, o.1 ∙ t.worth)

-- In a best sharing it is not worth more, so the row around is not longer than nothing.
pub best_around : BestAround
best_around h room s b i xs r =
    let t = turned h room s i xs r in
    let a = b t.0 t.1 in
    let e = t.2 in
    omega (arith, ints)
