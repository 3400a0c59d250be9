-- What the loop that lowers the numbers of persons writes: those before p's, and then p's.
use Rattle.std.proofs.Common.{◌≡◌, ℕ, ◌-◌, ◌<◌, List, [], ◌∷◌, ◌++◌, length, set, ⊎_elim, arith}
use Rattle.std.proofs.lemmas.Bool.{cases_order, lt-ltb, le-ltb, eq-eqb, ne_eqb}
use Rattle.std.proofs.lemmas.Grind.{common_steps}
use Rattle.std.proofs.lemmas.List.FromFn.{fill_by_all}
use Rattle.assignment.specs.Search.{at}
use Rattle.assignment.specs.Run.{lowered_at, lowered}

pub lowered_all : (p d : ℕ) (b room u before after new : List ℕ) → u ≡ before ++ after → length before ≡ p → length new ≡ p → 0 < length after →
    ((k : ℕ) → k < p → at new k ≡ at before k - (d - at b (at room k))) → new ++ set after 0 (at after 0 - d) ≡ lowered (length u) p d b room u
lowered_all p d b room u before [] new e lb ln la h = absurd (omega arith)
lowered_all p d b room u before (x ∷ rest) new e lb ln la h =
    fill_by_all (lowered_at p d b room u) _ (length u) 0 (grind (arith, common_steps))
    (λ k l. ⊎_elim
    (λ (q : k ≡ p). grind (arith, common_steps, le-ltb p p, eq-eqb p p))
    (⊎_elim
    (λ (q : k < p). grind (arith, common_steps, lt-ltb k p, h k))
    (λ (q : p < k). grind (arith, common_steps, le-ltb k p, ne_eqb k p)))
    (cases_order k p))
