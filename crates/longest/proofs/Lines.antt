-- A table that is written line by line.
use Rattle.std.proofs.Common.{◌≡◌, ℕ, ◌+◌, ◌-◌, ◌*◌, ◌<◌, ◌≤◌, List, ◌++◌, length, take, drop, ◌∙◌, inl, inr, suc-mul, arith, length-drop, length-take}
use Rattle.std.proofs.lemmas.Nat.{mul-le}
use Rattle.std.proofs.lemmas.Bool.{cases_lt}
use Rattle.std.proofs.lemmas.List.{get_or_append_left, get_or-append_right, get_or-take, length-take-le}
use Rattle.assignment.specs.Search.{at}
use Rattle.longest.specs.Run.{in_table}

-- The first m lines hold s.
abbrev pub Filled : ℕ → (ℕ → ℕ → ℕ) → ℕ → List ℕ → Type 0
Filled n s m table = (k i : ℕ) → k < n → i < m → in_table table n k i ≡ s k i

pub line_end : (i n m : ℕ) → i < n → m ≡ n * n → i * n + n ≤ m
line_end i n m h e = omega (arith, suc-mul i n, mul-le (i + 1) n n n (omega arith) (omega arith))

-- A line lies before the next.
earlier : (i m n k : ℕ) → i < m → k < n → i * n + k < m * n
earlier i m n k h l = omega (arith, suc-mul i n, mul-le (i + 1) n m n (omega arith) (omega arith))

pub filled_more : (n : ℕ) (s : ℕ → ℕ → ℕ) (m : ℕ) (table line rest : List ℕ) → m * n ≤ length table → length line ≡ n → ((k : ℕ) → k < n → at line k ≡ s k m) →
    Filled n s m table → Filled n s (m + 1) (take (m * n) table ++ (line ++ rest))
filled_more n s m table line rest h l here below k i hk hi =
    let e : length (take (m * n) table) ≡ m * n = length-take-le (m * n) table h in
    elim (cases_lt i m) [
      | inl x ↦
          let b = earlier i m n k x hk in
          get_or_append_left (take (m * n) table) (line ++ rest) 0 (i * n + k) (omega arith) ∙ get_or-take (m * n) table (i * n + k) 0 b ∙ below k i hk x
      | inr x ↦
          let q : i ≡ m = omega arith in
          let d : m * n + k - m * n ≡ k = omega arith in
          rw q (get_or-append_right (take (m * n) table) (line ++ rest) (m * n) (m * n + k) 0 e (omega arith) ∙ rw d (get_or_append_left line rest 0 k (omega arith) ∙ here k hk))
    ]

pub line_length : (a n : ℕ) (xs : List ℕ) → a + n ≤ length xs → length (take (a + n - a) (drop a xs)) ≡ n
line_length a n xs h = simp (length-take, length-drop) (omega arith)
