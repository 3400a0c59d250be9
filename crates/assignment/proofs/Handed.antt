-- Rooms handed on, one turn of the loop at a time.
use Rattle.std.proofs.Common.{◌≡◌, ℕ, suc, ◌+◌, ◌-◌, ◌<◌, List, length, ap, ◌∙◌, arith}
use Rattle.std.proofs.lemmas.Bool.{eq-eqb, ne_eqb, cond-true, cond-false}
use Rattle.std.proofs.lemmas.List.Edits.{swapped_from_swap, length-swap}
use Rattle.assignment.specs.Search.{at}
use Rattle.assignment.specs.Run.{Rooms, held, swapped, handed}
use Rattle.assignment.specs.Between.{Held}
use Rattle.assignment.specs.declared.slices.Rooms.{Rooms as Lent}
use Rattle.assignment.specs.Slices.{rooms_of, Holding}
use Rattle.assignment.proofs.Swap.{held_swapped}

pub handed_stop : (p : ℕ) (f : List ℕ) (n t : ℕ) (room holder : List ℕ) → t < n → at f (at room p) ≡ p → handed p f (n - t) (held room holder) ≡ held room holder
unfolding handed
handed_stop p f n t room holder h e = let q : n - t ≡ suc (n - (t + 1)) = omega arith in rw q (cond-true _ _ _ (eq-eqb _ _ e))

pub handed_on : (p : ℕ) (f : List ℕ) (n t : ℕ) (room holder : List ℕ) → t < n → (at f (at room p) ≡ p → ⊥) →
    handed p f (n - t) (held room holder) ≡ handed p f (n - (t + 1)) (swapped room holder p (at f (at room p)))
unfolding handed
handed_on p f n t room holder h ne = let q : n - t ≡ suc (n - (t + 1)) = omega arith in rw q (cond-false _ _ _ (ne_eqb _ _ ne))

pub handed_none : (p : ℕ) (f : List ℕ) (t : ℕ) (x : Rooms) → t ≡ 0 → handed p f t x ≡ x
unfolding handed
handed_none p f t x e = rw e

pub held_exchanged : (n : ℕ) (room holder : List ℕ) (a b : ℕ) (x : Rooms) → length room ≡ n → length holder ≡ n → a < n → b < n → Held n (at room) (at holder) →
    x ≡ swapped room holder a b → Held n (at x.room) (at x.holder)
held_exchanged n room holder a b x lr lo ha hb he e =
    held_swapped n (at room) (at holder) (at x.room) (at x.holder) a b ha hb he
    (swapped_from_swap room x.room a b 0 (omega arith) (omega arith) (ap (λ (y : Rooms). y.room) e))
    (swapped_from_swap holder x.holder (at room a) (at room b) 0 (omega (arith, he.into a ha)) (omega (arith, he.into b hb)) (ap (λ (y : Rooms). y.holder) e))

pub holding_exchanged : {n a b : ℕ} {x y : Lent} → a < n → b < n → Holding n x → rooms_of y ≡ swapped x.room.now x.holder.now a b → Holding n y
holding_exchanged {n} {a} {b} {x} {y} ha hb h e = record {
  held = held_exchanged n x.room.now x.holder.now a b (rooms_of y) h.long (x.listed ∙ h.long) ha hb h.held e;
  long = ap (λ (z : Rooms). length z.room) e ∙ length-swap x.room.now a b ∙ h.long;
}
