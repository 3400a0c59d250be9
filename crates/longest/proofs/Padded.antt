-- A list of n numbers in an array, with one number past them.
use Rattle.std.proofs.Common.{◌≡◌, ℕ, ◌-◌, ◌<◌, ◌≤◌, List, ◌++◌, map, length, get_or, replicate, sym, refl, ap, ◌∙◌, inl, inr, arith}
use Rattle.std.specs.List.{range_with_len}
use Rattle.std.proofs.lemmas.Bool.{cases_lt}
use Rattle.std.proofs.lemmas.List.{get_or_append_left, get_or-append_right, get_or-replicate, get_or_past, length-append, length-replicate, ext_get_or}
use Rattle.std.proofs.lemmas.List.FromFn.{get_or-map-range_with_len, length-map-range_with_len}

same_past : (m d i : ℕ) → get_or (replicate m d) i d ≡ d
same_past m d i = elim (cases_lt i m) [
  | inl h ↦ get_or-replicate m i d d h
  | inr h ↦ get_or_past (replicate m d) i d (omega (arith, length-replicate m d))
]

-- It reads as the list does.
pub padded_reads : (xs : List ℕ) (m d i : ℕ) → get_or (xs ++ replicate m d) i d ≡ get_or xs i d
padded_reads xs m d i = elim (cases_lt i (length xs)) [
  | inl h ↦ get_or_append_left xs (replicate m d) d i h
  | inr h ↦ get_or-append_right xs (replicate m d) (length xs) i d refl h ∙ same_past m d (i - length xs) ∙ sym (get_or_past xs i d h)
]

-- An array of m that is written as far as a list goes.
pub padded_list : (xs ys : List ℕ) (m d : ℕ) → length ys ≤ m → length xs ≡ m → ((i : ℕ) → i < length ys → get_or xs i d ≡ get_or ys i d) →
    ((i : ℕ) → length ys ≤ i → get_or xs i d ≡ d) → xs ≡ ys ++ replicate (m - length ys) d
padded_list xs ys m d h l below past =
    ext_get_or d xs (ys ++ replicate (m - length ys) d)
    (omega (arith, length-append ys (replicate (m - length ys) d), length-replicate {A = ℕ} (m - length ys) d))
    (λ i _. elim (cases_lt i (length ys)) [
      | inl z ↦ below i z ∙ sym (padded_reads ys (m - length ys) d i)
      | inr z ↦ past i z ∙ sym (padded_reads ys (m - length ys) d i ∙ get_or_past ys i d z)
    ])

-- The same of a function of the index.
pub padded_by : (f : ℕ → ℕ) (n m : ℕ) (xs : List ℕ) → n ≤ m → length xs ≡ m → ((i : ℕ) → i < n → get_or xs i 0 ≡ f i) → ((i : ℕ) → n ≤ i → get_or xs i 0 ≡ 0) →
    xs ≡ map f (range_with_len 0 n) ++ replicate (m - n) 0
padded_by f n m xs h l below past =
    let e = length-map-range_with_len f 0 n in
    padded_list xs (map f (range_with_len 0 n)) m 0 (omega arith) l
    (λ i z. below i (omega arith) ∙ sym (get_or-map-range_with_len f 0 n i i 0 (omega arith) (omega arith))) (λ i z. past i (omega arith))
    ∙ ap (λ j. map f (range_with_len 0 n) ++ replicate (m - j) 0) e
