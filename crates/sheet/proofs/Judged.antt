-- What each step of a judgement tells, and what is therefore shown or false.
use Rattle.std.proofs.Common.{◌≡◌, ℕ, ◌+◌, ◌<◌, ◌≤◌, Bool, true, false, cond, ◌⊎◌, Some, None, sym, refl, ap, ◌∙◌, inl, inr, arith}
use Rattle.std.proofs.lemmas.Bool.{both_ways, cases_Bool, cond-false, cond-true, ltb-true, or_cases}
use Rattle.rooms.specs.Before.{on_circle}
use Rattle.rooms.specs.First.{first, found, some}
use Rattle.rooms.specs.Format.{most_people}
use Rattle.rooms.specs.House.{House, Housed}
use Rattle.rooms.proofs.First.{first_at, some_false}
use Rattle.rents.specs.Shown.{Claim, Whole}
use Rattle.rents.specs.Faults.{length_fault, number_fault, rent_fault, room_fault, way_fault}
use Rattle.rents.proofs.Faults.{comes_from, rooms_shared}
use Rattle.sheet.specs.Entries.{Linked}
use Rattle.sheet.specs.Format.{Sheet}
use Rattle.sheet.specs.Judge.{Judgement, cents_fault, judge_sheet, named, place, price_fault}
use Rattle.sheet.specs.Judge.Judgement.{accepted, faulty}
use Rattle.sheet.specs.Pairs.{found_pair}
use Rattle.sheet.proofs.Found.{found_at, found_none, found_there, no_pair_found, pair_at}

-- ---- one step
module _ (fault : ℕ → Bool) (n : ℕ) (name : ℕ → ℕ × ℕ) (next : Judgement) where
  named_here : some fault n ≡ true → named fault n name next ≡ faulty (name (first fault n))
  named_here e = cond-true (some fault n) (faulty (name (first fault n))) next e

  named_past : some fault n ≡ false → named fault n name next ≡ next
  named_past e = cond-false (some fault n) (faulty (name (first fault n))) next e

  named_cases :
      ((first fault n < n) × (fault (first fault n) ≡ true) × (named fault n name next ≡ faulty (name (first fault n))))
      ⊎ (((k : ℕ) → k < n → fault k ≡ false) × (named fault n name next ≡ next))
  named_cases = elim (cases_Bool (some fault n)) [
    | inl e ↦ let l = ltb-true _ _ e in inl (l, first_at fault n l, named_here e)
    | inr e ↦ inr (some_false fault n e, named_past e)
  ]

  -- What is found there is named, and where nothing is the judgement goes on.
  pub named_found : (i : ℕ) → Some i ≡ found fault n → named fault n name next ≡ faulty (name i)
  named_found i e = let a = found_at fault n i e in named_here a.0 ∙ ap (λ (z : ℕ). faulty (name z)) (sym a.1)

  pub named_none : None ≡ found fault n → named fault n name next ≡ next
  named_none e = named_past (found_none fault n e)

-- A test of two numbers: its pair is named, the second that is found with it; and its second number is below 32.
module _ (t : ℕ → ℕ → Bool) (n : ℕ) where
  pub named_pair : (code : ℕ) (next : Judgement) (i r : ℕ) → Some (i, r) ≡ found_pair t n →
      named (λ i. some (t i) n) n (λ i. (code, place i (first (t i) n))) next ≡ faulty (code, place i r)
  named_pair code next i r e =
      let p = pair_at t n i r e in
      named_found (λ i. some (t i) n) n (λ i. (code, place i (first (t i) n))) next i p.0 ∙ ap (λ (z : ℕ). faulty (code, place i z)) (sym p.1)

  pub pair_small : (i r : ℕ) → n ≤ most_people → Some (i, r) ≡ found_pair t n → r < 32
  pair_small i r few e =
      let p = pair_at t n i r e in
      let l = ltb-true _ _ (found_there (λ i. some (t i) n) n i p.0).1 in
      omega (arith, p.1)

-- ---- what is left of the judgement after the rooms, the numbers, the lengths, the circles and the ways
abbrev pub from_prices : House → Sheet → Judgement
from_prices h s = named (price_fault h s) h.n (λ r. (11, cond (rent_fault h s.claim r) r (r + 32))) accepted

abbrev pub from_ways : House → Sheet → Judgement
from_ways h s =
    named (λ k. some (way_fault h s.claim k) h.n) h.n (λ k. (10, place k (first (way_fault h s.claim k) h.n))) (from_prices h s)

abbrev pub from_circles : House → Sheet → Judgement
from_circles h s = named (on_circle s.claim.before h.n) h.n (λ i. (9, i)) (from_ways h s)

abbrev pub from_lengths : House → Sheet → Judgement
from_lengths h s = named (length_fault h s.claim) h.n (λ i. (9, i)) (from_circles h s)

abbrev pub from_numbers : House → Sheet → Judgement
from_numbers h s =
    named (λ i. some (number_fault h s.claim i) h.n) h.n (λ i. (8, place i (first (number_fault h s.claim i) h.n))) (from_lengths h s)

pub from_rooms : (h : House) (s : Sheet) → judge_sheet h s ≡ named (room_fault h s.claim) h.n (λ i. (7, i)) (from_numbers h s)
unfolding judge_sheet
from_rooms h s = refl

-- ---- the judgement after each step that finds nothing, and what is then shown
module _ (h : House) (s : Sheet) (rooms : None ≡ found (room_fault h s.claim) h.n) where
  pub past_rooms : judge_sheet h s ≡ from_numbers h s
  past_rooms = from_rooms h s ∙ named_none (room_fault h s.claim) h.n (λ i. (7, i)) (from_numbers h s) rooms

  pub housed_from : Whole h s.claim → Housed h s.claim.room
  housed_from w = rooms_shared h s.claim w (some_false _ _ (found_none (room_fault h s.claim) h.n rooms))

  module _ (numbers : None ≡ found_pair (number_fault h s.claim) h.n) where
    pub past_numbers : judge_sheet h s ≡ from_lengths h s
    past_numbers =
        past_rooms
        ∙ named_none (λ i. some (number_fault h s.claim i) h.n) h.n (λ i. (8, place i (first (number_fault h s.claim i) h.n))) (from_lengths h s)
        (no_pair_found (number_fault h s.claim) h.n numbers)

    module _ (lengths : None ≡ found (length_fault h s.claim) h.n) where
      pub past_lengths : judge_sheet h s ≡ from_circles h s
      past_lengths = past_numbers ∙ named_none (length_fault h s.claim) h.n (λ i. (9, i)) (from_circles h s) lengths

      module _ (circles : None ≡ found (on_circle s.claim.before h.n) h.n) where
        pub past_circles : judge_sheet h s ≡ from_ways h s
        past_circles = past_lengths ∙ named_none (on_circle s.claim.before h.n) h.n (λ i. (9, i)) (from_ways h s) circles

        module _ (ways : None ≡ found_pair (way_fault h s.claim) h.n) where
          pub past_ways : judge_sheet h s ≡ from_prices h s
          past_ways =
              past_circles
              ∙ named_none (λ k. some (way_fault h s.claim k) h.n) h.n (λ k. (10, place k (first (way_fault h s.claim k) h.n))) (from_prices h s)
              (no_pair_found (way_fault h s.claim) h.n ways)

          pub past_prices : None ≡ found (price_fault h s) h.n → judge_sheet h s ≡ accepted
          past_prices prices = past_ways ∙ named_none (price_fault h s) h.n (λ r. (11, cond (rent_fault h s.claim r) r (r + 32))) accepted prices

-- A price that is found is a rent or cents, as the test of its rent tells.
pub named_price : (h : House) (s : Sheet) (r : ℕ) (rent : Bool) → Some r ≡ found (price_fault h s) h.n → rent ≡ rent_fault h s.claim r →
    from_prices h s ≡ faulty (11, cond rent r (r + 32))
named_price h s r rent e t =
    named_found (price_fault h s) h.n (λ r. (11, cond (rent_fault h s.claim r) r (r + 32))) accepted r e
    ∙ ap (λ b. faulty (11, cond b r (r + 32))) (sym t)

pub linked_from : (h : House) (c : Claim) → None ≡ found (length_fault h c) h.n → Linked c.before h.n
linked_from h c e i m =
    elim (comes_from h c i (some_false _ _ (found_none (length_fault h c) h.n e) i m)) [ inl a ↦ inl a.0 | inr a ↦ inr a.0 ]

-- ---- a whole judgement
pub record Clean (h : House) (s : Sheet) : Type 0 where
  pub rooms : (i : ℕ) → i < h.n → room_fault h s.claim i ≡ false
  pub numbers : (i r : ℕ) → i < h.n → r < h.n → number_fault h s.claim i r ≡ false
  pub lengths : (i : ℕ) → i < h.n → length_fault h s.claim i ≡ false
  pub circles : (i : ℕ) → i < h.n → on_circle s.claim.before h.n i ≡ false
  pub ways : (k i : ℕ) → k < h.n → i < h.n → way_fault h s.claim k i ≡ false
  pub prices : (r : ℕ) → r < h.n → price_fault h s r ≡ false

pub data View (h : House) (s : Sheet) (j : Judgement) : Type 0 where
  at_room : (i : ℕ) → i < h.n → room_fault h s.claim i ≡ true → j ≡ faulty (7, i) → View h s j
  at_number : (i r : ℕ) → i < h.n → r < h.n → number_fault h s.claim i r ≡ true → j ≡ faulty (8, place i r) → View h s j
  at_length : (i : ℕ) → i < h.n → length_fault h s.claim i ≡ true → j ≡ faulty (9, i) → View h s j
  at_circle : (i : ℕ) → i < h.n → on_circle s.claim.before h.n i ≡ true → j ≡ faulty (9, i) → View h s j
  at_way : (k i : ℕ) → k < h.n → i < h.n → way_fault h s.claim k i ≡ true → j ≡ faulty (10, place k i) → View h s j
  at_rent : ((i : ℕ) → i < h.n → room_fault h s.claim i ≡ false) → (r : ℕ) → r < h.n → rent_fault h s.claim r ≡ true → j ≡ faulty (11, r) → View h s j
  at_cents : (r : ℕ) → r < h.n → cents_fault h s r ≡ true → j ≡ faulty (11, r + 32) → View h s j
  clean : Clean h s → j ≡ accepted → View h s j

module _ (h : House) (s : Sheet) where
  price_view : ((i : ℕ) → i < h.n → room_fault h s.claim i ≡ false) → (j : Judgement) (r : ℕ) → r < h.n → price_fault h s r ≡ true →
      j ≡ faulty (11, cond (rent_fault h s.claim r) r (r + 32)) → View h s j
  price_view f j r l t e = elim (cases_Bool (rent_fault h s.claim r)) [
    | inl u ↦ at_rent f r l u (e ∙ ap (λ (z : ℕ). faulty (11, z)) (cond-true _ _ _ u))
    | inr u ↦ elim (or_cases _ _ t) [
      | inl v ↦ absurd (both_ways _ u v)
      | inr v ↦ at_cents r l v (e ∙ ap (λ (z : ℕ). faulty (11, z)) (cond-false _ _ _ u))
    ]
  ]

  -- By going through the steps in their order: each names its first fault, or finds none and goes on.
  pub view : View h s (judge_sheet h s)
  view =
      let c = s.claim in
      let n = h.n in
      elim (named_cases (room_fault h c) n (λ i. (7, i)) (from_numbers h s)) [
        | inl a ↦ at_room (first (room_fault h c) n) a.0 a.1 (from_rooms h s ∙ a.2)
        | inr a ↦ elim (named_cases (λ i. some (number_fault h c i) n) n (λ i. (8, place i (first (number_fault h c i) n))) (from_lengths h s)) [
          | inl b ↦
              let i = first (λ i. some (number_fault h c i) n) n in
              let l = ltb-true _ _ b.1 in
              at_number i (first (number_fault h c i) n) b.0 l (first_at (number_fault h c i) n l) (from_rooms h s ∙ a.1 ∙ b.2)
          | inr b ↦ elim (named_cases (length_fault h c) n (λ i. (9, i)) (from_circles h s)) [
            | inl d ↦ at_length (first (length_fault h c) n) d.0 d.1 (from_rooms h s ∙ a.1 ∙ b.1 ∙ d.2)
            | inr d ↦ elim (named_cases (on_circle c.before n) n (λ i. (9, i)) (from_ways h s)) [
              | inl e ↦ at_circle (first (on_circle c.before n) n) e.0 e.1 (from_rooms h s ∙ a.1 ∙ b.1 ∙ d.1 ∙ e.2)
              | inr e ↦ elim (named_cases (λ k. some (way_fault h c k) n) n (λ k. (10, place k (first (way_fault h c k) n))) (from_prices h s)) [
                | inl f ↦
                    let k = first (λ k. some (way_fault h c k) n) n in
                    let l = ltb-true _ _ f.1 in
                    at_way k (first (way_fault h c k) n) f.0 l (first_at (way_fault h c k) n l) (from_rooms h s ∙ a.1 ∙ b.1 ∙ d.1 ∙ e.1 ∙ f.2)
                | inr f ↦ elim (named_cases (price_fault h s) n (λ r. (11, cond (rent_fault h c r) r (r + 32))) accepted) [
                  | inl g ↦
                      price_view a.0 (judge_sheet h s) (first (price_fault h s) n) g.0 g.1
                      (from_rooms h s ∙ a.1 ∙ b.1 ∙ d.1 ∙ e.1 ∙ f.1 ∙ g.2)
                  | inr g ↦
                      clean (record {
                        rooms = a.0;
                        numbers = λ i r l m. some_false (number_fault h c i) n (b.0 i l) r m;
                        lengths = d.0;
                        circles = e.0;
                        ways = λ k i l m. some_false (way_fault h c k) n (f.0 k l) i m;
                        prices = g.0;
                      }) (from_rooms h s ∙ a.1 ∙ b.1 ∙ d.1 ∙ e.1 ∙ f.1 ∙ g.1)
                ]
              ]
            ]
          ]
        ]
      ]
