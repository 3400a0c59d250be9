-- What the tests of a claim say of the entries that stand in arrays.
use Rattle.std.proofs.Common.{◌≡◌, ℕ, ◌+◌, ◌-◌, ◌*◌, ◌<◌, not, ◌&&◌, ◌||◌, eqb, List, ◌++◌, map, get_or, take, replicate, ℤ, pos, ◌+ℤ◌, sym, ap, ◌∙◌, inl, inr, SFits, to_z, of_z}
use mir.Syntax.{w128}
use lib.Signed.{lt_z}
use Rattle.std.specs.List.{range_with_len}
use Rattle.std.proofs.lemmas.List.FromFn.{length-map-range_with_len}
use Rattle.std.proofs.lemmas.List.{get_or-take, take_at}
use Rattle.rooms.specs.Format.{most_people}
use Rattle.rooms.specs.House.{House, room_of, value, worth_at}
use Rattle.rooms.specs.Rows.{number}
use Rattle.std.proofs.lemmas.Int.{to_z-of_z}
use Rattle.std.proofs.lemmas.Bool.{both_ways, cases_Bool, eq-eqb, ne_eqb, not_from_false, not_from_true}
use Rattle.rents.specs.Faults.{differs, number_fault}
use Rattle.rents.proofs.Faults.{differs_false, false_differs}
use Rattle.sheet.specs.declared.entries.Entries.{Entries}
use Rattle.sheet.specs.Entries.{claimed, entered}
use Rattle.sheet.specs.Format.{byte_column, column, sheet_of, signed_at}

-- The front of a column that has nothing past its n entries.
front : {X : Type 0} (f : ℕ → X) (z : X) (n : ℕ) (xs : List X) → xs ≡ map f (range_with_len 0 n) ++ replicate (most_people - n) z → take n xs ≡ map f (range_with_len 0 n)
front f z n xs e = ap (take n) e ∙ take_at (map f (range_with_len 0 n)) (replicate (most_people - n) z) n (length-map-range_with_len f 0 n)

-- Entries that are the columns of a sheet say what the sheet says.
pub entered_is : (s : List ℕ) (n : ℕ) (e : Entries) →
    e.room ≡ byte_column s 0 10 n ++ replicate (most_people - n) 0 → e.before ≡ byte_column s 1 10 n ++ replicate (most_people - n) 0 →
    e.d ≡ column s 2 10 n ++ replicate (most_people - n) (pos 0) → e.rents ≡ column s (10 * n) 16 n ++ replicate (most_people - n) (pos 0) →
    e.cents ≡ column s (10 * n + 8) 16 n ++ replicate (most_people - n) (pos 0) →
    e.persons ≡ column s (26 * n) 8 n ++ replicate (most_people - n) (pos 0) →
    e.rooms ≡ column s (34 * n) 8 n ++ replicate (most_people - n) (pos 0) → entered n e ≡ sheet_of n s
unfolding sheet_of
entered_is s n e a b c d f g i =
    let p = front (λ k. get_or s (0 + 10 * k) 0) 0 n e.room a in
    let q = front (λ k. get_or s (1 + 10 * k) 0) 0 n e.before b in
    let r = front (λ k. signed_at s (2 + 10 * k)) (pos 0) n e.d c in
    let t = front (λ k. signed_at s (10 * n + 16 * k)) (pos 0) n e.rents d in
    let u = front (λ k. signed_at s (10 * n + 8 + 16 * k)) (pos 0) n e.cents f in
    let v = front (λ k. signed_at s (26 * n + 8 * k)) (pos 0) n e.persons g in
    let w = front (λ k. signed_at s (34 * n + 8 * k)) (pos 0) n e.rooms i in
    cc

module _ (h : House) (e : Entries) where
  pub room_read : (k : ℕ) → k < h.n → room_of (claimed h e).room k ≡ get_or e.room k 0
  room_read k l = get_or-take h.n e.room k 0 l

  pub person_read : (k : ℕ) → k < h.n → number (claimed h e).persons k ≡ number e.persons k
  person_read k l = get_or-take h.n e.persons k (pos 0) l

  pub number_read : (k : ℕ) → k < h.n → number (claimed h e).rooms k ≡ number e.rooms k
  number_read k l = get_or-take h.n e.rooms k (pos 0) l

  -- The test of the numbers, by what is read.
  pub number_test : (i r : ℕ) (u v : ℤ) (o w : ℕ) → i < h.n → r < h.n → u ≡ number e.persons i → v ≡ number e.rooms r → o ≡ get_or e.room i 0 →
      w ≡ worth_at h i r → (lt_z (u +ℤ v) (pos w) || (eqb o r && lt_z (pos w) (u +ℤ v))) ≡ number_fault h (claimed h e) i r
  unfolding value
  number_test i r u v o w l m a b c d = rw (person_read i l, number_read r m, room_read i l, a, b, c, d)

-- Numbers have different bits just where they differ.
pub bits_differ : (a b : ℤ) → SFits w128 a → SFits w128 b → not (eqb (of_z w128 a) (of_z w128 b)) ≡ differs a b
bits_differ a b f g = elim (cases_Bool (differs a b)) [
  | inr u ↦ not_from_true _ (eq-eqb _ _ (ap (of_z w128) (differs_false a b u))) ∙ sym u
  | inl u ↦
      not_from_false _ (ne_eqb _ _ (λ e. both_ways _ (false_differs a b (sym (to_z-of_z w128 a f) ∙ ap (to_z w128) e ∙ to_z-of_z w128 b g)) u)) ∙ sym u
]
