-- What is promised of the longest rows that are found. Assumes nothing: these are definitions and statements.
use Rattle.std.specs.Prelude.{◌≡◌, ℕ, ◌-◌, ◌*◌, ◌<◌, ◌≤◌, List, ◌++◌, map, length, replicate, ℤ}
use Rattle.std.specs.List.{range_with_len}
use Rattle.rooms.specs.House.{House, room_of}
use Rattle.rooms.specs.Format.{most_people}
use Rattle.rooms.specs.Rows.{Certified, Longest, number, signed}
use Rattle.rooms.specs.Before.{nobody, RowsShown}
use Rattle.assignment.specs.Search.{at}
use Rattle.longest.specs.Run.{whole_run}

-- How many numbers of work n people take: a slack for each way.
abbrev pub work_len : ℕ → ℕ
work_len n = n * n

-- The lengths d of the longest rows, the persons before and the count of rounds, as functions of the house, the sharing and its numbers. Which of
-- several longest rows is shown depends on the ties; d does not, since only one list is Longest.
abbrev pub longest_of : House → (room u v : List ℕ) → List ℕ
longest_of h room u v = map (λ i. at u i - at (whole_run h room u v).left i) (range_with_len 0 h.n)

abbrev pub before_of : House → (room u v : List ℕ) → List ℕ
before_of h room u v = (whole_run h room u v).before

abbrev pub rounds_of : House → (room u v : List ℕ) → ℕ
rounds_of h room u v = (whole_run h room u v).rounds

-- These in arrays of the most people: past the n, 0 and nobody.
pub record Found (h : House) (room u v d before : List ℕ) (rounds : ℕ) : Type 0 where
  pub lengths : d ≡ longest_of h room u v ++ replicate (most_people - h.n) 0
  pub priors : before ≡ before_of h room u v ++ replicate (most_people - h.n) nobody
  pub count : rounds ≡ rounds_of h room u v

-- The search comes to an end in fewer than n rounds, and what it finds is shown.
abbrev pub SearchEnds : Type 0
SearchEnds =
    (h : House) (room u v : List ℕ) → 0 < h.n → h.n ≤ nobody → h.n ≤ length u → Certified h room (signed u) (signed v) →
    RowsShown h room (signed (longest_of h room u v)) (before_of h room u v) × (rounds_of h room u v < h.n)

-- Only the rooms of the n people count: what a longer list holds past them changes nothing.
abbrev pub SameRun : Type 0
SameRun =
    (h : House) (room other u v : List ℕ) → ((i : ℕ) → i < h.n → room_of room i ≡ room_of other i) → whole_run h room u v ≡ whole_run h other u v

-- There is one list of the longest lengths.
abbrev pub OneLongest : Type 0
OneLongest = (h : House) (room : List ℕ) (d e : List ℤ) → Longest h room d → Longest h room e → (i : ℕ) → i < h.n → number d i ≡ number e i
