-- One pass over the people: everybody takes the row through person k where it leaves less.
use Rattle.std.proofs.Common.{◌≡◌, ℕ, ◌+◌, ◌<◌, ◌≤◌, true, false, cond, ltb, ◌≢◌, List, length, set, sym, refl, ap, ◌∙◌, arith, get_or-set_other, get_or-set_same, below_more}
use Rattle.std.proofs.lemmas.Bool.{lt-ltb, le-ltb, cond-true, cond-false}
use Rattle.std.proofs.lemmas.List.FromFn.{fill_by_all}
use Rattle.assignment.specs.Search.{at}
use Rattle.longest.specs.Run.{offers, through}

-- One write of a loop that goes up, or none.
pub put_step : (f : ℕ → ℕ) (xs : List ℕ) (i x : ℕ) → i < length xs → x ≡ f i → ((j : ℕ) → j < i → at xs j ≡ f j) → (j : ℕ) → j < i + 1 → at (set xs i x) j ≡ f j
put_step f xs i x h e below =
    below_more _ _
    (λ j l. let ne : j ≢ i = omega arith in rw get_or-set_other (below j l))
    (rw get_or-set_same e)

keep_step : (f : ℕ → ℕ) (xs : List ℕ) (i : ℕ) → at xs i ≡ f i → ((j : ℕ) → j < i → at xs j ≡ f j) → (j : ℕ) → j < i + 1 → at xs j ≡ f j
keep_step f xs i e below = below_more _ _ below e

pub put_rest : (xs ys : List ℕ) (i x : ℕ) → ((j : ℕ) → i ≤ j → at xs j ≡ at ys j) → (j : ℕ) → i + 1 ≤ j → at (set xs i x) j ≡ at ys j
put_rest xs ys i x rest j h = let ne : j ≢ i = omega arith in rw get_or-set_other (rest j (omega arith))

pub offers_same : {p q r t : List ℕ} → p ≡ r → q ≡ t → offers p q ≡ offers r t
offers_same {p} {q} {r} {t} e f = ap (λ x. offers x q) e ∙ ap (λ x. offers r x) f

abbrev pub lowered : (ℕ → ℕ → ℕ) → ℕ → ℕ → List ℕ → ℕ → ℕ
lowered s k rest o i = cond (ltb (rest + s k i) (at o i)) (rest + s k i) (at o i)

abbrev pub whence : (ℕ → ℕ → ℕ) → ℕ → ℕ → (o f : List ℕ) → ℕ → ℕ
whence s k rest o f i = cond (ltb (rest + s k i) (at o i)) k (at f i)

-- The persons below i have looked, and the others not yet.
pub record Passing (s : ℕ → ℕ → ℕ) (k rest i : ℕ) (o f p q : List ℕ) : Type 0 where
  pub lower : (j : ℕ) → j < i → at p j ≡ lowered s k rest o j
  pub by : (j : ℕ) → j < i → at q j ≡ whence s k rest o f j
  pub lower_rest : (j : ℕ) → i ≤ j → at p j ≡ at o j
  pub by_rest : (j : ℕ) → i ≤ j → at q j ≡ at f j

module _ (s : ℕ → ℕ → ℕ) (k rest : ℕ) (o f : List ℕ) where
  pub passing_none : Passing s k rest 0 o f o f
  passing_none = record { lower = λ j h. absurd (omega arith); by = λ j h. absurd (omega arith); lower_rest = λ j h. refl; by_rest = λ j h. refl }

  module _ (i : ℕ) (p q : List ℕ) (x : Passing s k rest i o f p q) (left : ℕ) (e : left ≡ rest + s k i) where
    pub passing_takes : i < length p → i < length q → left < at p i → Passing s k rest (i + 1) o f (set p i left) (set q i k)
    passing_takes hp hq lt =
        let t : ltb (rest + s k i) (at o i) ≡ true = lt-ltb _ _ (omega (arith, x.lower_rest i (omega arith))) in
        record {
          lower = put_step _ p i left hp (e ∙ sym (cond-true _ _ _ t)) x.lower;
          by = put_step _ q i k hq (sym (cond-true _ _ _ t)) x.by;
          lower_rest = put_rest p o i left x.lower_rest;
          by_rest = put_rest q f i k x.by_rest;
        }

    pub passing_keeps : at p i ≤ left → Passing s k rest (i + 1) o f p q
    passing_keeps le =
        let t : ltb (rest + s k i) (at o i) ≡ false = le-ltb _ _ (omega (arith, x.lower_rest i (omega arith))) in
        record {
          lower = keep_step _ p i (x.lower_rest i (omega arith) ∙ sym (cond-false _ _ _ t)) x.lower;
          by = keep_step _ q i (x.by_rest i (omega arith) ∙ sym (cond-false _ _ _ t)) x.by;
          lower_rest = λ j h. x.lower_rest j (omega arith);
          by_rest = λ j h. x.by_rest j (omega arith);
        }

  pub passing_all : (n i : ℕ) (p q : List ℕ) → n ≤ i → length p ≡ n → length q ≡ n → Passing s k rest i o f p q → offers p q ≡ through s n k rest (offers o f)
  unfolding through
  passing_all n i p q h lp lq x =
      offers_same (fill_by_all (lowered s k rest o) p n 0 lp (λ j l. x.lower j (omega arith)))
      (fill_by_all (whence s k rest o f) q n 0 lq (λ j l. x.by j (omega arith)))
