-- What the numbers after all rounds show, and how few looks there were.
use Rattle.std.proofs.Common.{◌≡◌, ℕ, zero, suc, ◌+◌, ◌-◌, ◌*◌, ◌<◌, ◌≤◌, List, [], ◌∷◌, ◌++◌, length, drop, pos, sym, refl, ap, ◌∙◌, mul_assoc, arith}
use Rattle.std.proofs.lemmas.List.{get_or_append_left, length-append}
use Rattle.std.proofs.lemmas.Int.{ints}
use Rattle.rooms.specs.House.{House, worth_at, value}
use Rattle.rooms.specs.Format.{most_worth, Allowed}
use Rattle.rooms.specs.Rows.{Certified, signed, number}
use Rattle.rooms.proofs.Sharing.{certified_best}
use Rattle.assignment.specs.Search.{at}
use Rattle.assignment.specs.Run.{State, state, after, looks_in, looks_to}
use Rattle.assignment.specs.Between.{Placed}
use Rattle.assignment.specs.Answer.{result, sharing_of, persons_of, prices_of, looks_from, round_looks, looks_of, array_of}
use Rattle.assignment.specs.Promise.{Solved, Few, AllAnswered, Found}
use Rattle.assignment.proofs.Sums.{sum_half, cube_half}
use Rattle.assignment.proofs.Whole.{stands, round_joins, round_square, looks_most}

-- A sharing with its numbers, read as functions of the place.
pub record Shared (n H : ℕ) (W : ℕ → ℕ → ℕ) (u v room : ℕ → ℕ) : Type 0 where
  pub each : (i : ℕ) → i < n → room i < n
  pub own : (i j : ℕ) → i < n → j < n → room i ≡ room j → i ≡ j
  pub cover : (i r : ℕ) → i < n → r < n → W i r ≤ u i + v r
  pub tight : (i : ℕ) → i < n → u i + v (room i) ≡ W i (room i)
  pub persons : (i : ℕ) → i < n → u i ≤ H
  pub prices : (r : ℕ) → r < n → v r ≤ H

-- Everybody is placed.
pub placed_shared : {n H : ℕ} {W : ℕ → ℕ → ℕ} {u v room holder : ℕ → ℕ} → Placed n H W n u v room holder → Shared n H W u v room
placed_shared {holder = holder} pl = record {
  each = pl.held.into;
  own = λ i j li lj e. sym (pl.held.back i li) ∙ ap holder e ∙ pl.held.back j lj;
  cover = pl.dual.cover;
  tight = pl.tight;
  persons = pl.dual.persons;
  prices = pl.dual.prices;
}

-- The same with more behind each list.
front : (n : ℕ) (a x : List ℕ) → length a ≡ n → (k : ℕ) → k < n → at (a ++ x) k ≡ at a k
front n a x l k h = get_or_append_left a x 0 k (omega arith)

pub shared_front : {n H : ℕ} {W : ℕ → ℕ → ℕ} (u v room x y z : List ℕ) → length u ≡ n → length v ≡ n → length room ≡ n →
    Shared n H W (at u) (at v) (at room) → Shared n H W (at (u ++ x)) (at (v ++ y)) (at (room ++ z))
shared_front {n} u v room x y z lu lv lr s = record {
  each = λ i l. rw (front n room z lr i l) (s.each i l);
  own = λ i j li lj e. s.own i j li lj (sym (front n room z lr i li) ∙ e ∙ front n room z lr j lj);
  cover = λ i r li l. rw (front n u x lu i li, front n v y lv r l) (s.cover i r li l);
  tight = λ i l. rw (front n room z lr i l) (rw (front n u x lu i l, front n v y lv (at room i) (s.each i l)) (s.tight i l));
  persons = λ i l. rw (front n u x lu i l) (s.persons i l);
  prices = λ r l. rw (front n v y lv r l) (s.prices r l);
}

number_signed : (xs : List ℕ) (i : ℕ) → number (signed xs) i ≡ pos (at xs i)
number_signed [] i = refl
number_signed (x ∷ xs) zero = refl
number_signed (x ∷ xs) (suc i) = number_signed xs i

-- In signed numbers: the two sums are those of the certificate.
certified : (h : House) (H : ℕ) (rooms persons prices : List ℕ) → h.n ≤ length rooms → Shared h.n H (worth_at h) (at persons) (at prices) (at rooms) →
    Certified h rooms (signed persons) (signed prices)
unfolding value
certified h H rooms persons prices l s = record {
  housed = record { all = l; each = s.each; own = s.own };
  cover = λ i r li lr. rw (number_signed persons i, number_signed prices r) (let a = s.cover i r li lr in omega (arith, ints));
  tight = λ i li. rw (number_signed persons i, number_signed prices (at rooms i)) (let a = s.tight i li in omega (arith, ints));
}

pub solved : (h : House) (H : ℕ) (rooms persons prices : List ℕ) → h.n ≤ length rooms → Shared h.n H (worth_at h) (at persons) (at prices) (at rooms) →
    Solved h H rooms persons prices
solved h H rooms persons prices l s =
    let c = certified h H rooms persons prices l s in
    record { best = certified_best h rooms (signed persons) (signed prices) c; certified = c; persons_low = s.persons; prices_low = s.prices }

pub few : (n H : ℕ) (W : ℕ → ℕ → ℕ) → ((i r : ℕ) → i < n → r < n → W i r ≤ H) → Few n (λ p. looks_in W n p (after W n H p)) (looks_to W n H n)
few n H W small = record {
  all = refl;
  square = λ p l. round_square n H W small p _ l (stands n H W small p (omega arith));
  joins = joins;
  cube = rw (mul_assoc n n n) (looks_most n H W small n (omega arith));
  half = rw (← cube_half n) (sum_half _ n n joins);
}
  where
    joins : (p : ℕ) → p < n → looks_in W n p (after W n H p) ≤ (p + 1) * n
    joins p l = round_joins n H W p _ l (stands n H W small p (omega arith))

pub found : Found
unfolding result looks_from
found h H small =
    let st = stands h.n H (worth_at h) small h.n (omega arith) in
    let lr = st.long_room in (
      solved h H _ _ _ (omega arith) (placed_shared st.placed),
      few h.n H (worth_at h) small,
    )

-- The answer for a house within the bounds.
pub answered : AllAnswered
unfolding result sharing_of persons_of prices_of looks_from looks_of
answered h al =
    let st = stands h.n most_worth (worth_at h) (λ i r _ _. al.small i r) h.n (omega arith) in
    let lr = st.long_room in
    record {
      all_rooms = st.long_room;
      all_persons = st.long_persons;
      all_prices = st.long_prices;
      solved = solved h most_worth _ _ _ (omega arith) (placed_shared st.placed);
      few = few h.n most_worth (worth_at h) (λ i r _ _. al.small i r);
    }

-- The same in front of longer slices.
pub answered_front : (h : House) (x y z : List ℕ) → Allowed h → Solved h most_worth (sharing_of h ++ x) (persons_of h ++ y) (prices_of h ++ z)
unfolding result sharing_of persons_of prices_of
answered_front h x y z al =
    let st = stands h.n most_worth (worth_at h) (λ i r _ _. al.small i r) h.n (omega arith) in
    let lr = st.long_room in
    let l : h.n ≤ length ((result h most_worth).rooms.room ++ x) = omega (arith, length-append (result h most_worth).rooms.room x) in
    solved h most_worth _ _ _ l (shared_front _ _ _ y z x st.long_persons st.long_prices st.long_room (placed_shared st.placed))

-- What the code's four lists and count are, where they are those of the last round.
module _ (h : House) (n : ℕ) (u v room holder : List ℕ) (looks : ℕ) (q : n ≡ h.n) (e : state u v room holder ≡ after (worth_at h) n most_worth n)
    (c : looks ≡ looks_to (worth_at h) n most_worth n) where
  pub is_sharing : room ≡ sharing_of h
  unfolding result sharing_of
  is_sharing = ap (λ (x : State). x.rooms.room) (rw q at e)

  pub is_persons : u ≡ persons_of h
  unfolding result persons_of
  is_persons = ap (λ (x : State). x.persons) (rw q at e)

  pub is_prices : v ≡ prices_of h
  unfolding result prices_of
  is_prices = ap (λ (x : State). x.prices) (rw q at e)

  pub is_looks : looks ≡ looks_of h
  unfolding looks_from looks_of
  is_looks = rw q at c

-- What the answer promises of the slices and arrays that hold it.
pub solved_by : (h : House) (rooms x persons prices : List ℕ) → Allowed h → rooms ≡ sharing_of h → persons ≡ array_of (persons_of h) → prices ≡ array_of (prices_of h) →
    Solved h most_worth (rooms ++ x) persons prices
solved_by h rooms x persons prices al er eu ev = rw (er, eu, ev) (answered_front h x _ _ al)

pub few_by : (h : House) (looks : ℕ) → Allowed h → looks ≡ looks_of h → Few h.n (round_looks h) looks
few_by h looks al e = rw e (answered h al).few

-- What is written in front of a slice, and what is left behind it.
pub front_is : (n m : ℕ) (a b xs : List ℕ) → a ≡ b → n ≡ m → a ++ drop (n - 0) xs ≡ b ++ drop m xs
front_is n m a b xs e q = let z : n - 0 ≡ m = omega arith in rw (e, z) refl
