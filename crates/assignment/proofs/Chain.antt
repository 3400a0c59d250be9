-- Rooms handed on along the tree, from the last room back to p.
use Rattle.std.proofs.Common.{◌≡◌, ℕ, ◌+◌, ◌<◌, ◌≤◌, ◌∙◌, inl, inr, ⊎_elim, arith}
use Rattle.std.proofs.lemmas.Bool.{cases_eq}
use Rattle.std.proofs.lemmas.List.Edits.{Swapped}
use Rattle.assignment.specs.Between.{Dual, Held, Placed}
use Rattle.assignment.proofs.Invariant.{Link, Handing}
use Rattle.assignment.proofs.Swap.{held_swapped}

-- It begins: p exchanges rooms with q, who holds the last room of the tree and is not placed.
pub chain_none : {H : ℕ} (n : ℕ) (W : ℕ → ℕ → ℕ) (p : ℕ) (u v f s room holder room' holder' : ℕ → ℕ) (q : ℕ) → p < n → q < n → p ≤ q →
    Held n room holder → Dual n H W u v → ((i : ℕ) → i < p → u i + v (room i) ≡ W i (room i)) → ((r : ℕ) → r < n → p ≤ holder r → v r ≡ 0) →
    ((r : ℕ) → r < n → 0 < s r → Link W p u v room f s r) → 0 < s (room q) →
    Swapped room room' p q → Swapped holder holder' (room p) (room q) → Handing n H W p u v f s room room' holder'
chain_none n W p u v f s room holder room' holder' q hp hq le h pr ti fr li ho sr so = record {
  dual = pr;
  held = held_swapped n room holder room' holder' p q hp hq h sr so;
  tight = λ i l. rw (sr.2 i (λ e. omega arith) (λ e. omega arith)) (ti i l);
  free = λ r l o. ⊎_elim
      (λ (e : r ≡ room p). fr r l (grind (arith, h.back p hp)))
      (λ (x : r ≡ room p → ⊥). ⊎_elim
      (λ (e : r ≡ room q). fr r l (grind (arith, h.back q hq)))
      (λ (y : r ≡ room q → ⊥). fr r l (omega (arith, so.2 r x y)))
      (cases_eq r (room q)))
      (cases_eq r (room p));
  hole = rw sr.0 ho;
  link = li;
  same = λ i l x. sr.2 i (λ e. omega arith) (λ e. omega arith);
}

-- The parent of p's room is placed, if it is not p.
pub chain_under : {H : ℕ} (n : ℕ) (W : ℕ → ℕ → ℕ) (p : ℕ) (u v f s base room holder : ℕ → ℕ) → p < n →
    Handing n H W p u v f s base room holder → (f (room p) ≡ p → ⊥) → f (room p) < p
chain_under n W p u v f s base room holder hp ch ne = go (ch.link (room p) (ch.held.into p hp) ch.hole)
  where
    go : Link W p u v base f s (room p) → f (room p) < p
    go (inl x) = absurd (ne x.0)
    go (inr x) = x.0

-- One step: the parent of p's room takes it, for just its worth, and p holds the parent's, which was reached earlier.
pub chain_more : {H : ℕ} (n : ℕ) (W : ℕ → ℕ → ℕ) (p : ℕ) (u v f s base room holder room' holder' : ℕ → ℕ) → p < n →
    Handing n H W p u v f s base room holder → (f (room p) ≡ p → ⊥) →
    Swapped room room' p (f (room p)) → Swapped holder holder' (room p) (room (f (room p))) →
    (f (room p) < p) × (s (room' p) < s (room p)) × Handing n H W p u v f s base room' holder'
chain_more {H} n W p u v f s base room holder room' holder' hp ch ne sr so =
    go (ch.link (room p) (ch.held.into p hp) ch.hole)
  where
    go : Link W p u v base f s (room p) → (f (room p) < p) × (s (room' p) < s (room p)) × Handing n H W p u v f s base room' holder'
    go (inl x) = absurd (ne x.0)
    go (inr x) =
        let i : ℕ = f (room p) in
        let sm : room (f (room p)) ≡ base (f (room p)) = ch.same (f (room p)) x.0 x.2 in
        let ba : room' p ≡ base (f (room p)) = sr.0 ∙ sm in (
          x.0,
          rw ba x.2,
          record {
            dual = ch.dual;
            held = held_swapped n room holder room' holder' p (f (room p)) hp (omega arith) ch.held sr so;
            tight = λ j l. ⊎_elim
                (λ (e : j ≡ f (room p)). rw (e, sr.1) x.3)
                (λ (nj : j ≡ f (room p) → ⊥). rw (sr.2 j (λ e. omega arith) nj) (ch.tight j l))
                (cases_eq j (f (room p)));
            free = λ r l o. ⊎_elim
                (λ (e : r ≡ room p). absurd (grind (arith, ch.held.back (f (room p)) (omega arith))))
                (λ (y : r ≡ room p → ⊥). ⊎_elim
                (λ (e : r ≡ room (f (room p))). absurd (grind (arith, ch.held.back p hp)))
                (λ (t : r ≡ room (f (room p)) → ⊥). ch.free r l (omega (arith, so.2 r y t)))
                (cases_eq r (room (f (room p)))))
                (cases_eq r (room p));
            hole = rw ba x.1;
            link = ch.link;
            same = λ j l y.
                let y' : s (base j) < s (base (f (room p))) = rw ba at y in
                let nj : j ≡ f (room p) → ⊥ = λ e. grind arith in
                sr.2 j (λ e. omega arith) nj ∙ ch.same j l (omega arith);
          },
        )

-- The parent of p's room is p: it is p's for just its worth, and the round is done.
pub chain_all : {H : ℕ} (n : ℕ) (W : ℕ → ℕ → ℕ) (p : ℕ) (u v f s base room holder : ℕ → ℕ) → p < n →
    Handing n H W p u v f s base room holder → f (room p) ≡ p → Placed n H W (p + 1) u v room holder
chain_all n W p u v f s base room holder hp ch e = record {
  dual = ch.dual;
  held = ch.held;
  tight = λ i l. ⊎_elim (λ (q : i ≡ p). rw q (last (ch.link (room p) (ch.held.into p hp) ch.hole))) (λ (q : i ≡ p → ⊥). ch.tight i (omega arith)) (cases_eq i p);
  free = λ r l o. ch.free r l (omega arith);
}
  where
    last : Link W p u v base f s (room p) → u p + v (room p) ≡ W p (room p)
    last (inl x) = x.1
    last (inr x) = absurd (omega arith)
