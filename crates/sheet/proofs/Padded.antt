-- A list made from a function of the index and then one value over and over, as an array is filled from its front.
use Rattle.std.proofs.Common.{◌≡◌, ℕ, zero, suc, ◌+◌, ◌-◌, ◌<◌, ◌≤◌, cond, ltb, List, [], ◌∷◌, ◌++◌, map, length, get_or, drop, set, replicate, sym, ap, ap₂, ◌∙◌, inl, inr, append_assoc, arith, subst}
use Rattle.std.specs.List.{range_with_len}
use Rattle.std.proofs.lemmas.List.FromFn.{fill_by_all, get_or-map-range_with_len, length-map-range_with_len, map-range_with_len_more}
use Rattle.std.proofs.lemmas.List.{get_or_append_left, get_or-append_right, get_or_past, get_or-replicate, drop-replicate, length-append, length-replicate, set_at}
use Rattle.std.proofs.lemmas.Bool.{cases_eq, cases_lt, cond-false, cond-true, le-ltb, lt-ltb}
use Rattle.std.specs.Array.{IsFromFnResult, IsFromFnResultFrom}
use Rattle.std.specs.Fn.{Called}
use denote.Param.Members.{Mut}

-- m values, of which the first k are made.
abbrev pub padded : {X : Type 0} → (ℕ → X) → X → ℕ → ℕ → List X
padded f z m k = map f (range_with_len 0 k) ++ replicate (m - k) z

module _ {X : Type 0} (f : ℕ → X) (z : X) (m : ℕ) where
  pub padded_none : replicate m z ≡ padded f z m 0
  padded_none = let e : m - 0 ≡ m = omega arith in rw e

  -- The first of those not yet made is made.
  pub padded_more : (k : ℕ) → k < m → set (padded f z m k) k (f k) ≡ padded f z m (k + 1)
  padded_more k h =
      let e : m - k ≡ suc (m - (k + 1)) = omega arith in
      ap (λ (r : ℕ). set (map f (range_with_len 0 k) ++ replicate r z) k (f k)) e
      ∙ set_at (map f (range_with_len 0 k)) z (replicate (m - (k + 1)) z) (f k) k (length-map-range_with_len f 0 k)
      ∙ sym (append_assoc (map f (range_with_len 0 k)) (f k ∷ []) (replicate (m - (k + 1)) z))
      ∙ ap (λ (xs : List X). xs ++ replicate (m - (k + 1)) z) (sym (map-range_with_len_more f 0 k k (omega arith)))

  pub padded_within : (n k : ℕ) (d : X) → k < n → get_or (padded f z m n) k d ≡ get_or (map f (range_with_len 0 n)) k d
  padded_within n k d h =
      let e = length-map-range_with_len f 0 n in get_or_append_left (map f (range_with_len 0 n)) (replicate (m - n) z) d k (omega arith)

  pub padded_each : (n k : ℕ) → get_or (padded f z m n) k z ≡ get_or (map f (range_with_len 0 n)) k z
  padded_each n k = elim (cases_lt k n) [
    | inl l ↦ padded_within n k z l
    | inr l ↦
        let e = length-map-range_with_len f 0 n in
        get_or-append_right (map f (range_with_len 0 n)) (replicate (m - n) z) n k z e l ∙ past (k - n)
        ∙ sym (get_or_past (map f (range_with_len 0 n)) k z (omega arith))
  ]
    where
      past : (j : ℕ) → get_or (replicate (m - n) z) j z ≡ z
      past j = elim (cases_lt j (m - n)) [
        | inl l ↦ get_or-replicate (m - n) j z z l
        | inr l ↦ get_or_past (replicate (m - n) z) j z (let e = length-replicate (m - n) z in omega arith)
      ]

  -- Filled from the front: an array of z whose first n are made.
  pub padded_front : (n : ℕ) (xs : List X) → length xs ≡ n → ((k : ℕ) → k < n → get_or xs k z ≡ f k) → xs ++ drop n (replicate m z) ≡ padded f z m n
  padded_front n xs l e = ap₂ ◌++◌ (fill_by_all f xs n z l e) (drop-replicate n m z)

  -- Made at once: each of the first n by its index, and z past them.
  pub padded_cut : (n : ℕ) → n ≤ m → map (λ k. cond (ltb k n) (f k) z) (range_with_len 0 m) ≡ padded f z m n
  padded_cut n h =
      let a = length-append (map f (range_with_len 0 n)) (replicate (m - n) z) in
      let b = length-map-range_with_len f 0 n in
      let c = length-replicate (m - n) z in
      sym (fill_by_all (λ k. cond (ltb k n) (f k) z) (padded f z m n) m z (omega arith) (λ k l. elim (cases_lt k n) [
        | inl p ↦ padded_within n k z p ∙ get_or-map-range_with_len f 0 n k k z p (omega arith) ∙ sym (cond-true _ _ _ (lt-ltb _ _ p))
        | inr p ↦
            get_or-append_right (map f (range_with_len 0 n)) (replicate (m - n) z) n k z b p ∙ get_or-replicate (m - n) (k - n) z z (omega arith)
            ∙ sym (cond-false _ _ _ (le-ltb _ _ p))
      ]))

-- What `array::from_fn` makes, where the closure gives h of each index.
pub made_by : {F X : Type 0} {g : Mut F (ℕ × Unit {0}) X} (h : ℕ → X) (f : F) (n : ℕ) (z : X) (ys : List X) → IsFromFnResult g f ys n →
    ((x : ℕ) (y : X) (q : F) → Called g f (x, tt) y q → (q ≡ f) × (y ≡ h x)) → ys ≡ map h (range_with_len 0 n)
made_by {F} {X} {g} h f n z ys made test = fill_by_all h ys n z made.long (λ k l. walk 0 n made.each k (omega arith) (omega arith))
  where
    walk : (i n : ℕ) → IsFromFnResultFrom g f ys i n → (k : ℕ) → i ≤ k → k < i + n → get_or ys k z ≡ h k
    walk i zero w k a b = absurd (omega arith)
    walk i (suc n) w k a b =
        let t = test i w.1 w.0 w.3 in
        elim (cases_eq k i) [
          | inl e ↦ ap (λ (j : ℕ). get_or ys j z) e ∙ w.2.1 z ∙ t.1 ∙ ap h (sym e)
          | inr e ↦ walk (i + 1) n (subst (λ q. IsFromFnResultFrom g q ys (i + 1) n) t.0 w.4) k (omega arith) (omega arith)
        ]
