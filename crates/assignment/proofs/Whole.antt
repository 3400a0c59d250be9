-- A round, and all rounds, on lists.
use Rattle.std.proofs.Common.{◌≡◌, ℕ, zero, suc, ◌+◌, ◌*◌, ◌<◌, ◌≤◌, List, length, replicate, refl, ap, ◌∙◌, ⊎_elim, add-one, arith}
use Rattle.std.specs.List.{range_with_len, swap}
use Rattle.std.proofs.lemmas.Bool.{cases_eq, lt-ltb, le-ltb, eq-eqb, ne_eqb, cond-true, cond-false}
use Rattle.std.proofs.lemmas.Nat.{mul-le}
use Rattle.std.proofs.lemmas.List.FromFn.{fill_by_all, length-range_with_len, get_or-range_with_len}
use Rattle.std.proofs.lemmas.List.{map-id}
use Rattle.std.proofs.lemmas.List.Edits.{Swapped, swapped_from_swap, length-swap}
use Rattle.assignment.specs.Search.{at, Tree, tree_of}
use Rattle.assignment.specs.Run.{raised, lowered_at, lowered, Rooms, held, swapped, handed, State, state, round_tree, round_of, looks_in, beginning, after, sum_of, looks_to}
use Rattle.assignment.specs.Between.{Placed, Stands}
use Rattle.assignment.proofs.Invariant.{Moved, Handing}
use Rattle.assignment.proofs.Chain.{chain_none, chain_under, chain_more, chain_all}
use Rattle.assignment.proofs.Moved.{moved}
use Rattle.assignment.proofs.Growth.{at_list, long_list, Grew, grew}
use Rattle.assignment.proofs.Row.{filled}
use Rattle.assignment.proofs.Sums.{sum_most}

pub swapped_list : (xs : List ℕ) (a b : ℕ) → a < length xs → b < length xs → Swapped (at xs) (at (swap xs a b)) a b
swapped_list xs a b ha hb = swapped_from_swap xs (swap xs a b) a b 0 ha hb refl

-- Rooms are handed on until everybody up to p is placed: the turn of p's room falls with each step, and is never 0.
module _ (n H : ℕ) (W : ℕ → ℕ → ℕ) (p : ℕ) (u v f s : List ℕ) (base : ℕ → ℕ) (hp : p < n) where
  abbrev Done : Rooms → Type 0
  Done x = Placed n H W (p + 1) (at u) (at v) (at x.room) (at x.holder) × (length x.room ≡ n) × (length x.holder ≡ n)

  pub handed_done : (t : ℕ) (room holder : List ℕ) → length room ≡ n → length holder ≡ n →
      Handing n H W p (at u) (at v) (at f) (at s) base (at room) (at holder) → at s (at room p) ≤ t → Done (handed p f t (held room holder))
  unfolding handed
  handed_done zero room holder lr lo ch h = absurd (omega (arith, ch.hole))
  handed_done (suc t) room holder lr lo ch h =
      ⊎_elim
      (λ (e : at f (at room p) ≡ p). rw (eq-eqb _ _ e) (chain_all n W p (at u) (at v) (at f) (at s) base (at room) (at holder) hp ch e, lr, lo))
      (λ (ne : at f (at room p) ≡ p → ⊥). rw (ne_eqb _ _ ne)
      (let lt : at f (at room p) < p = chain_under n W p (at u) (at v) (at f) (at s) base (at room) (at holder) hp ch ne in
      let ri : at room p < length holder = rw lo (ch.held.into p hp) in
      let rj : at room (at f (at room p)) < length holder = rw lo (ch.held.into (at f (at room p)) (omega arith)) in
      let m = chain_more n W p (at u) (at v) (at f) (at s) base (at room) (at holder) _ _ hp ch ne
      (swapped_list room p (at f (at room p)) (omega arith) (omega arith)) (swapped_list holder (at room p) (at room (at f (at room p))) ri rj) in
      handed_done t _ _ (length-swap room _ _ ∙ lr) (length-swap holder _ _ ∙ lo) m.2 (omega (arith, m.1))))
      (cases_eq (at f (at room p)) p)

-- A round, from where its growth ended.
module _ (n H : ℕ) (W : ℕ → ℕ → ℕ) (p : ℕ) (u v room holder : List ℕ) (g : Tree) (small : (i r : ℕ) → i < n → r < n → W i r ≤ H) (hp : p < n)
    (st : Stands n H W p (state u v room holder)) (gr : Grew n W p u v room holder g) where
  abbrev d : ℕ
  d = at g.distances g.last

  moves : Moved n p d (at u) (at v) (at room) (at g.distances) (at (lowered n p d g.distances room u)) (at (raised n d g.distances v))
  moves = record {
    up = at_list _ n;
    own = at_list (lowered_at p d g.distances room u) n p hp ∙ cond-false _ _ _ (le-ltb p p (omega arith)) ∙ cond-true _ _ _ (eq-eqb p p refl);
    down = λ i l. at_list (lowered_at p d g.distances room u) n i (omega arith) ∙ cond-true _ _ _ (lt-ltb i p l);
    rest = λ i l h. at_list (lowered_at p d g.distances room u) n i l ∙ cond-false _ _ _ (le-ltb i p (omega arith)) ∙ cond-false _ _ _ (ne_eqb i p (λ (e : i ≡ p). omega arith));
  }

  pub grew_stands : Stands n H W (p + 1) (record {
    persons = lowered n p d g.distances room u;
    prices = raised n d g.distances v;
    rooms = handed p g.parent n (swapped room holder p (at holder g.last));
  })
  grew_stands =
      let en = gr.ended in
      let ho = st.placed.held in
      let hm : g.last < n = en.nearest.here in
      let hq : at holder g.last < n = ho.onto g.last hm in
      let fo : at room (at holder g.last) ≡ g.last = ho.forth g.last hm in
      let mv = moved hp st.placed en small moves in
      let ri : at room p < length holder = rw st.long_holder (ho.into p hp) in
      let rj : at room (at holder g.last) < length holder = rw st.long_holder (ho.into (at holder g.last) hq) in
      let lp : p < length room = rw st.long_room hp in
      let lq : at holder g.last < length room = rw st.long_room hq in
      let sr = swapped_list room p (at holder g.last) lp lq in
      let so = swapped_list holder (at room p) (at room (at holder g.last)) ri rj in
      let ch = chain_none n W p _ _ (at g.parent) (at g.turns) (at room) (at holder) _ _ (at holder g.last) hp hq en.over ho
      mv.0 mv.1 mv.2 mv.3 (rw fo mv.4) sr so in
      let hole : at g.turns (at (swap room p (at holder g.last)) p) ≤ n = rw (sr.0, fo) gr.turn in
      let done = handed_done n H W p _ _ g.parent g.turns (at room) hp n _ _ (length-swap room _ _ ∙ st.long_room) (length-swap holder _ _ ∙ st.long_holder) ch hole in
      record { placed = done.0; long_persons = long_list _ n; long_prices = long_list _ n; long_room = done.1; long_holder = done.2 }

module _ (n H : ℕ) (W : ℕ → ℕ → ℕ) (small : (i r : ℕ) → i < n → r < n → W i r ≤ H) where
  pub round_stands : (p : ℕ) (x : State) → p < n → Stands n H W p x → Stands n H W (p + 1) (round_of W n p x)
  unfolding round_of
  round_stands p x hp st =
      grew_stands n H W p x.persons x.prices x.rooms.room x.rooms.holder (round_tree W n p x) small hp st
      (grew W n p x.persons x.prices x.rooms.room x.rooms.holder hp st.placed)

  -- At the beginning the numbers H cover every worth, every room's number is 0, and nobody is placed.
  pub first : Stands n H W 0 (beginning n H)
  first = record {
    placed = record {
      dual = record {
        cover = λ i r li lr. omega (arith, small i r li lr, at_list (λ _. H) n i li);
        persons = λ i l. omega (arith, at_list (λ _. H) n i l);
        prices = λ r l. omega (arith, at_list (λ _. 0) n r l);
      };
      held = record {
        into = λ i l. rw (at_counting i l) l;
        onto = λ i l. rw (at_counting i l) l;
        back = λ i l. rw (at_counting i l) (at_counting i l);
        forth = λ i l. rw (at_counting i l) (at_counting i l);
      };
      tight = λ i l. absurd (omega arith);
      free = λ r l o. at_list (λ _. 0) n r l;
    };
    long_persons = long_list _ n;
    long_prices = long_list _ n;
    long_room = length-range_with_len 0 n;
    long_holder = length-range_with_len 0 n;
  }
    where
      at_counting : (i : ℕ) → i < n → at (range_with_len 0 n) i ≡ i
      at_counting i l = omega (arith, get_or-range_with_len 0 n i 0 l)

  pub stands : (p : ℕ) → p ≤ n → Stands n H W p (after W n H p)
  unfolding after
  stands zero h = first
  stands (suc p) h = rw (← add-one) (round_stands p (after W n H p) (omega arith) (stands p (omega arith)))

-- In round p at most p + 1 persons join, and each looks at n rooms.
pub round_joins : (n H : ℕ) (W : ℕ → ℕ → ℕ) (p : ℕ) (x : State) → p < n → Stands n H W p x → looks_in W n p x ≤ (p + 1) * n
unfolding looks_in
round_joins n H W p x hp st =
    mul-le (round_tree W n p x).joined n (p + 1) n (grew W n p x.persons x.prices x.rooms.room x.rooms.holder hp st.placed).joins (omega arith)

-- The parts of a round, put together.
pub round_is : (W : ℕ → ℕ → ℕ) (n p : ℕ) (u v room holder : List ℕ) (g : Tree) (u' v' : List ℕ) (x y : Rooms) → g ≡ tree_of W n p u v holder →
    v' ≡ raised n (at g.distances g.last) g.distances v → u' ≡ lowered n p (at g.distances g.last) g.distances room u →
    x ≡ swapped room holder p (at holder g.last) → y ≡ handed p g.parent n x →
    state u' v' y.room y.holder ≡ round_of W n p (state u v room holder)
unfolding round_of
round_is W n p u v room holder g u' v' x y eg ev eu ex ey = rw (← eg, ey, ex, eu, ev) refl

pub round_count : (W : ℕ → ℕ → ℕ) (n p : ℕ) (u v room holder : List ℕ) (g : Tree) → g ≡ tree_of W n p u v holder → g.joined * n ≡ looks_in W n p (state u v room holder)
unfolding looks_in
round_count W n p u v room holder g e = ap (λ (x : Tree). x.joined * n) e

-- The beginning, from what is written.
pub counted_up : (n : ℕ) (xs : List ℕ) → length xs ≡ n → ((k : ℕ) → k < n → at xs k ≡ k) → xs ≡ range_with_len 0 n
counted_up n xs l h = fill_by_all _ xs n 0 l h ∙ map-id _

pub beginning_is : (n H : ℕ) (u v room holder : List ℕ) → u ≡ replicate n H → v ≡ replicate n 0 → room ≡ range_with_len 0 n → holder ≡ range_with_len 0 n →
    state u v room holder ≡ beginning n H
beginning_is n H u v room holder eu ev er eo = rw (eu, ev, er, eo, filled n H, filled n 0) refl

-- What the loop over the rounds keeps.
pub record Going (n H : ℕ) (W : ℕ → ℕ → ℕ) (p : ℕ) (u v room holder : List ℕ) (looks : ℕ) : Type 0 where
  pub model : state u v room holder ≡ after W n H p
  pub count : looks ≡ looks_to W n H p
  pub stands : Stands n H W p (state u v room holder)

module _ (n H : ℕ) (W : ℕ → ℕ → ℕ) (small : (i r : ℕ) → i < n → r < n → W i r ≤ H) where
  pub going_none : (u v room holder : List ℕ) → state u v room holder ≡ beginning n H → Going n H W 0 u v room holder 0
  unfolding after sum_of
  going_none u v room holder e = record { model = e; count = refl; stands = rw e (first n H W small) }

  pub going_more : (p : ℕ) (u v room holder u' v' room' holder' : List ℕ) (looks more : ℕ) → p < n → Going n H W p u v room holder looks →
      state u' v' room' holder' ≡ round_of W n p (state u v room holder) → more ≡ looks_in W n p (state u v room holder) →
      Going n H W (p + 1) u' v' room' holder' (looks + more)
  unfolding after sum_of
  going_more p u v room holder u' v' room' holder' looks more hp g e c = record {
    model = rw add-one (e ∙ ap (round_of W n p) g.model);
    count = rw add-one (rw (← g.model, ← g.count, ← c) refl);
    stands = rw e (round_stands n H W small p (state u v room holder) hp g.stands);
  }

  pub round_square : (p : ℕ) (x : State) → p < n → Stands n H W p x → looks_in W n p x ≤ n * n
  round_square p x hp st =
      let a = round_joins n H W p x hp st in
      let b = mul-le (p + 1) n n n (omega arith) (omega arith) in
      omega arith

  pub looks_most : (p : ℕ) → p ≤ n → looks_to W n H p ≤ p * (n * n)
  looks_most p h = sum_most _ (n * n) p (λ q l. round_square q (after W n H q) (omega arith) (stands n H W small q (omega arith)))

  -- The looks so far and those of a round more stay low.
  pub going_low : (p : ℕ) (u v room holder : List ℕ) (looks more : ℕ) → n ≤ 24 → p < n → Going n H W p u v room holder looks →
      more ≡ looks_in W n p (state u v room holder) → looks + more ≤ 13824
  going_low p u v room holder looks more few hp g e =
      let a = looks_most p (omega arith) in
      let b = round_square p (state u v room holder) hp g.stands in
      let s = mul-le n n 24 24 few few in
      let t = mul-le p (n * n) 23 576 (omega arith) s in
      let q = g.count in
      omega arith
