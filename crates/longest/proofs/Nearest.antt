-- The person whose row is made longer next.
use Rattle.std.proofs.Common.{◌≡◌, ℕ, zero, suc, ◌+◌, ◌<◌, ◌≤◌, Bool, true, false, cond, ◌⊎◌, List, refl, ◌∙◌, inl, inr, ⊎_elim, add-one, arith, get_or, ◌≢◌, Option, Some, None, MatchOption}
use Rattle.std.proofs.lemmas.Bool.{cases_eq, cases_lt, cond-true, cond-false}
use Rattle.std.proofs.lemmas.Bool.Decides.{nat_tests}
use Rattle.assignment.specs.Search.{at}
use Rattle.longest.specs.Run.{nearer, nearest}
use Rattle.longest.specs.View.{lefts}
use Rattle.longest.specs.declared.Row.{Row}
use Rattle.longest.proofs.Views.{nothing, left_at}

module _ (n : ℕ) (l o : List ℕ) (k a : ℕ) (e : nearest n l o k ≡ a) where
  more : nearest n l o (k + 1) ≡ cond (nearer n l o k a) k a
  unfolding nearest
  more = rw (add-one, e) refl

  nearest_takes : nearer n l o k a ≡ true → nearest n l o (k + 1) ≡ k
  nearest_takes z = more ∙ cond-true _ k a z

  nearest_keeps : nearer n l o k a ≡ false → nearest n l o (k + 1) ≡ a
  nearest_keeps z = more ∙ cond-false _ k a z

-- The person whose row is made longer next, and what their offer leaves.
abbrev pub Taken : ℕ → (rows others : List Row) → ℕ → ℕ → Type 0
Taken n rows others to rest = (to < n) × (nearest n (lefts rows) (lefts others) n ≡ to) × (rest ≡ (get_or others to nothing).left)

-- The person found so far, of those below k, and what their offer leaves.
abbrev pub Leads : ℕ → (rows others : List Row) → ℕ → Option (ℕ × ℕ) → Type 0
Leads n rows others k found =
    MatchOption found (nearest n (lefts rows) (lefts others) k ≡ n)
    (λ p. (p.0 < n) × (nearest n (lefts rows) (lefts others) k ≡ p.0) × (p.1 ≡ (get_or others p.0 nothing).left))

pub leads_takes : (n : ℕ) (rows others : List Row) (k : ℕ) (found : Option (ℕ × ℕ)) → Leads n rows others k found → k < n →
    (get_or others k nothing).left < (get_or rows k nothing).left →
    ((p : ℕ × ℕ) → found ≡ Some p → (get_or others k nothing).left < p.1) → Leads n rows others (k + 1) (Some (k, (get_or others k nothing).left))
leads_takes n rows others k None q h longer below =
    let l = lefts rows in
    let o = lefts others in
    let lt : at o k < at l k = omega (arith, left_at rows k, left_at others k) in (h, nearest_takes n l o k n q (grind (arith, nat_tests)), refl)
leads_takes n rows others k (Some p) q h longer below =
    let l = lefts rows in
    let o = lefts others in
    let lt : at o k < at l k = omega (arith, left_at rows k, left_at others k) in
    let less : at o k < at o p.0 = omega (arith, left_at others k, left_at others p.0, q.2, below p refl) in
    (h, nearest_takes n l o k p.0 q.1 (grind (arith, nat_tests)), refl)

pub leads_keeps : (n : ℕ) (rows others : List Row) (k : ℕ) (found : Option (ℕ × ℕ)) → Leads n rows others k found →
    ((get_or others k nothing).left < (get_or rows k nothing).left → (found ≢ None) × ((p : ℕ × ℕ) → found ≡ Some p → p.1 ≤ (get_or others k nothing).left)) →
    Leads n rows others (k + 1) found
leads_keeps n rows others k None q kept =
    let l = lefts rows in
    let o = lefts others in
    let le : at l k ≤ at o k = elim (cases_lt (at o k) (at l k)) [
      | inl lt ↦ absurd ((kept (omega (arith, left_at rows k, left_at others k))).0 refl)
      | inr le ↦ le
    ] in nearest_keeps n l o k n q (grind (arith, nat_tests))
leads_keeps n rows others k (Some p) q kept =
    let l = lefts rows in
    let o = lefts others in
    let above : at o k < at l k → at o p.0 ≤ at o k = λ lt.
    omega (arith, left_at others k, left_at others p.0, q.2, (kept (omega (arith, left_at rows k, left_at others k))).1 p refl) in
    (q.0, nearest_keeps n l o k p.0 q.1 (grind (arith, nat_tests)), q.2)

-- m is, of the persons below k whose offer is below what they have left, one with the least offer; or it is n, and there is none.
abbrev Chosen : ℕ → (l o : List ℕ) → ℕ → ℕ → Type 0
Chosen n l o k m =
    ((m ≡ n) × ((i : ℕ) → i < k → at l i ≤ at o i))
    ⊎ ((m < k) × (at o m < at l m) × ((i : ℕ) → i < k → at o i < at l i → at o m ≤ at o i))

step : (n : ℕ) (l o : List ℕ) (k m : ℕ) (t : Bool) → t ≡ nearer n l o k m → k < n → Chosen n l o k m → Chosen n l o (suc k) (cond t k m)
step n l o k m true e h (inl (q, none)) =
    inr (omega arith, grind (arith, nat_tests), λ i z y. ⊎_elim (λ (x : i ≡ k). grind arith) (λ (x : i ≡ k → ⊥). grind (arith, none i)) (cases_eq i k))
step n l o k m true e h (inr (q, z, low)) =
    inr (omega arith, grind (arith, nat_tests), λ i a y. ⊎_elim (λ (x : i ≡ k). grind arith) (λ (x : i ≡ k → ⊥). grind (arith, nat_tests, low i)) (cases_eq i k))
step n l o k m false e h (inl (q, none)) =
    inl (q, λ i a. ⊎_elim (λ (x : i ≡ k). grind (arith, nat_tests)) (λ (x : i ≡ k → ⊥). none i (omega arith)) (cases_eq i k))
step n l o k m false e h (inr (q, z, low)) =
    inr (omega arith, z, λ i a y. ⊎_elim (λ (x : i ≡ k). grind (arith, nat_tests)) (λ (x : i ≡ k → ⊥). low i (omega arith) y) (cases_eq i k))

chosen : (n : ℕ) (l o : List ℕ) (k : ℕ) → k ≤ n → Chosen n l o k (nearest n l o k)
unfolding nearest
chosen n l o zero h = inl (refl, λ i a. omega arith)
chosen n l o (suc k) h = step n l o k (nearest n l o k) _ refl (omega arith) (chosen n l o k (omega arith))

-- Where nobody is found, no offer makes a row longer.
pub nothing_longer : (n : ℕ) (l o : List ℕ) → nearest n l o n ≡ n → (i : ℕ) → i < n → at l i ≤ at o i
nothing_longer n l o e = ⊎_elim
    (λ (x : (nearest n l o n ≡ n) × ((i : ℕ) → i < n → at l i ≤ at o i)). x.1)
    (λ (x : (nearest n l o n < n) × (at o (nearest n l o n) < at l (nearest n l o n)) × ((i : ℕ) → i < n → at o i < at l i → at o (nearest n l o n) ≤ at o i)). absurd (omega arith))
    (chosen n l o n (omega arith))

-- Else the one found has the least offer of all that make a row longer.
pub record Next (n : ℕ) (l o : List ℕ) (k : ℕ) : Type 0 where
  pub here : k < n
  pub longer : at o k < at l k
  pub least : (i : ℕ) → i < n → at o i < at l i → at o k ≤ at o i

pub next : (n : ℕ) (l o : List ℕ) → (nearest n l o n ≡ n → ⊥) → Next n l o (nearest n l o n)
next n l o d = ⊎_elim
    (λ (x : (nearest n l o n ≡ n) × ((i : ℕ) → i < n → at l i ≤ at o i)). absurd (d x.0))
    (λ (x : (nearest n l o n < n) × (at o (nearest n l o n) < at l (nearest n l o n)) × ((i : ℕ) → i < n → at o i < at l i → at o (nearest n l o n) ≤ at o i)). record { here = x.0; longer = x.1; least = x.2 })
    (chosen n l o n (omega arith))
