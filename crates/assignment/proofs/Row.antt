-- A person's row of offers, and the rows of all in one list.
use Rattle.std.proofs.Common.{◌≡◌, ℕ, ◌+◌, ◌-◌, ◌*◌, ◌<◌, ◌≤◌, List, length, replicate, refl, ◌∙◌, suc-mul, arith}
use Rattle.std.proofs.lemmas.Nat.{mul-le}
use Rattle.std.proofs.lemmas.List.{get_or-replicate, length-replicate}
use Rattle.std.proofs.lemmas.List.FromFn.{fill_by_all}
use Rattle.rooms.specs.Format.{most_people}
use Rattle.assignment.specs.Answer.{work_for}
use Rattle.assignment.specs.Search.{at, list_of, offer_of, offers, nearer, parents}
use Rattle.assignment.proofs.Growth.{at_list, long_list}

-- Row i of n ends within n × n: (i + 1) × n ≤ n × n.
pub row_end : (i n m : ℕ) → i < n → m ≡ n * n → i * n + n ≤ m
row_end i n m h e = omega (arith, suc-mul i n, mul-le (i + 1) n n n (omega arith) (omega arith))

-- What is written from a base and the worths of person i is their row.
pub offered : (W : ℕ → ℕ → ℕ) (n : ℕ) (u v mine row : List ℕ) (i d base : ℕ) → length v ≡ n → base ≡ d + at u i → ((r : ℕ) → at mine r ≡ W i r) →
    row ≡ list_of (λ r. base + at v r - at mine r) (length v) → row ≡ offers W n u v i d
offered W n u v mine row i d base lv eb em e =
    fill_by_all (offer_of W (at u) (at v) i d) row n 0 (rw e (long_list _ (length v) ∙ lv))
    (λ r l. rw e (at_list (λ r. base + at v r - at mine r) (length v) r (omega arith) ∙ rw (eb, em r) refl))

pub filled : (n x : ℕ) → replicate n x ≡ list_of (λ _. x) n
filled n x = fill_by_all (λ _. x) (replicate n x) n 0 (length-replicate n x) (λ k l. get_or-replicate n k x 0 l)

-- What a row leaves, by the row that it is.
pub nearer_by : (n : ℕ) (row o b b' : List ℕ) → row ≡ o → length row ≡ n → b' ≡ nearer (length row) row b → b' ≡ nearer n o b
nearer_by n row o b b' e l x = rw (l, e) at x

pub parents_by : (n i : ℕ) (row o b f f' : List ℕ) → row ≡ o → length row ≡ n → f' ≡ parents (length row) i row b f → f' ≡ parents n i o b f
parents_by n i row o b f f' e l x = rw (l, e) at x

-- The work of the most people, 24 × 24 + 7 × 24, is enough.
pub work_within : (n m : ℕ) → n ≤ most_people → 744 ≤ m → work_for n ≤ m
work_within n m h k = omega (arith, mul-le n n 24 24 h h)
