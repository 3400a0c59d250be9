-- Two persons exchange rooms, and everybody still holds one.
use Rattle.std.proofs.Common.{◌≡◌, ℕ, ◌<◌, ⊎_elim, arith}
use Rattle.std.proofs.lemmas.Bool.{cases_eq}
use Rattle.std.proofs.lemmas.List.Edits.{Swapped}
use Rattle.assignment.specs.Between.{Held}

-- A fact of a place, by whether it is one of the two.
by_places : (P : Type 0) (m a b : ℕ) → (m ≡ a → P) → (m ≡ b → P) → ((m ≡ a → ⊥) → (m ≡ b → ⊥) → P) → P
by_places P m a b x y z = ⊎_elim x (λ na. ⊎_elim y (λ nb. z na nb) (cases_eq m b)) (cases_eq m a)

module _ (n : ℕ) (room holder room' holder' : ℕ → ℕ) (a b : ℕ) (ha : a < n) (hb : b < n) (h : Held n room holder)
    (sr : Swapped room room' a b) (so : Swapped holder holder' (room a) (room b)) where
  pub held_swapped : Held n room' holder'
  held_swapped = record {
    into = λ i l. by_places _ i a b (λ e. grind (arith, h.into b hb)) (λ e. grind (arith, h.into a ha)) (λ x y. grind (arith, h.into i l));
    onto = λ r l. by_places _ r (room a) (room b) (λ e. grind (arith, h.back b hb)) (λ e. grind (arith, h.back a ha)) (λ x y. grind (arith, h.onto r l));
    back = λ i l. by_places _ i a b
        (λ e. grind (arith, h.back a ha))
        (λ e. grind (arith, h.back b hb))
        (λ x y. grind (arith, h.back i l, h.back a ha, h.back b hb));
    forth = λ r l. by_places _ r (room a) (room b)
        (λ e. grind (arith, h.back b hb))
        (λ e. grind (arith, h.back a ha))
        (λ x y. grind (arith, h.forth r l, h.back a ha, h.back b hb));
  }
