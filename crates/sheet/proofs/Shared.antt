-- The first person who has no room or an earlier person's, found with a mark on each room that is taken.
use Rattle.std.proofs.Common.{◌≡◌, ℕ, suc, ◌+◌, ◌<◌, ◌≤◌, Bool, true, false, not, eqb, ltb, ◌⊎◌, List, length, get_or, set, sym, ap, ◌∙◌, inl, inr, add-one, arith, below_more}
use Rattle.std.proofs.lemmas.List.{get_or-set_other, get_or-set_same, length-set}
use Rattle.std.proofs.lemmas.Bool.{both_ways, cases_eq, eq-eqb, le-ltb, lt-ltb, ne_eqb, not_from_false, not_from_true, or_from, or_left, or_right}
use Rattle.rooms.specs.First.{some}
use Rattle.rooms.specs.Format.{most_people}
use Rattle.rooms.specs.House.{House, room_of}
use Rattle.rooms.proofs.First.{first_more, true_some}
use Rattle.rents.specs.Faults.{room_fault}
use Rattle.sheet.specs.declared.entries.Entries.{Entries}
use Rattle.sheet.specs.Entries.{claimed}

-- Where the test fails at n, one more number changes nothing.
pub some_skip : (t : ℕ → Bool) (n : ℕ) → t n ≡ false → some t (suc n) ≡ some t n
some_skip t n f = elim (first_more t n) [
  | inl a ↦ lt-ltb _ _ (omega (arith, a.0, a.1)) ∙ sym (lt-ltb _ _ a.0)
  | inr b ↦ elim b [
    | inl a ↦ absurd (both_ways _ f a.1)
    | inr a ↦ le-ltb _ _ (omega (arith, a.2)) ∙ sym (le-ltb _ _ a.0)
  ]
]

-- The first i people are not at fault, and the rooms marked are theirs.
pub record Marked (h : House) (e : Entries) (i : ℕ) (marks : List Bool) : Type 0 where
  pub fine : (k : ℕ) → k < i → room_fault h (claimed h e) k ≡ false
  pub whole : length marks ≡ most_people
  pub each : (r : ℕ) → r < h.n → get_or marks r false ≡ some (λ k. eqb (room_of (claimed h e).room k) r) i

-- Person i has room r, as the code reads it.
module _ (h : House) (e : Entries) (few : h.n ≤ most_people) (i r : ℕ) (marks : List Bool) (m : Marked h e i marks) (read : r ≡ room_of (claimed h e).room i) where
  -- A room that is none, or that is marked.
  pub marked_out : h.n ≤ r → room_fault h (claimed h e) i ≡ true
  marked_out o =
      let a : h.n ≤ room_of (claimed h e).room i = omega arith in
      or_left _ _ (not_from_false _ (le-ltb _ _ a))

  pub marked_twice : r < h.n → get_or marks r false ≡ true → room_fault h (claimed h e) i ≡ true
  marked_twice o t =
      or_right (not (ltb (room_of (claimed h e).room i) h.n)) (some (λ k. eqb (room_of (claimed h e).room k) (room_of (claimed h e).room i)) i)
      (rw (← read) (sym (m.each r o) ∙ t))

  -- The room is one, and is not marked, so nobody before has it. Marked now, it is somebody's among the first i + 1; and any other room is somebody's
  -- among them just where it was among the first i.
  pub marked_more : r < h.n → get_or marks r false ≡ false → Marked h e (i + 1) (set marks r true)
  marked_more o f =
      let a : room_of (claimed h e).room i < h.n = omega arith in
      let here : room_fault h (claimed h e) i ≡ false =
      or_from (not (ltb (room_of (claimed h e).room i) h.n)) (some (λ k. eqb (room_of (claimed h e).room k) (room_of (claimed h e).room i)) i)
      (not_from_true _ (lt-ltb _ _ a)) (rw (← read) (sym (m.each r o) ∙ f)) in
      record {
        fine = below_more _ _ m.fine here;
        whole = length-set marks r true ∙ m.whole;
        each = λ q p. rw add-one (mark q p (cases_eq q r));
      }
    where
      mark : (q : ℕ) → q < h.n → (q ≡ r) ⊎ (q ≡ r → ⊥) →
          get_or (set marks r true) q false ≡ some (λ k. eqb (room_of (claimed h e).room k) q) (suc i)
      mark q p (inl s) =
          ap (λ z. get_or (set marks r true) z false) s ∙ get_or-set_same marks r true false (let w = m.whole in omega arith)
          ∙ sym (true_some (λ k. eqb (room_of (claimed h e).room k) q) (suc i) i (omega arith) (eq-eqb _ _ (sym read ∙ sym s)))
      mark q p (inr s) =
          get_or-set_other marks r q true false s ∙ m.each q p
          ∙ sym (some_skip (λ k. eqb (room_of (claimed h e).room k) q) i (ne_eqb _ _ (λ w. s (sym w ∙ sym read))))
