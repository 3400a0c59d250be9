-- What is proved of sharings: sums over them, what shows that one is best, and the rows in a best one. Each is a statement; a contract that names it is
-- proved. Assumes nothing: these are definitions.
use Rattle.std.specs.Prelude.{◌≡◌, ℕ, ◌<◌, List, ℤ, pos, ◌+ℤ◌, ◌-ℤ◌, ◌≤ℤ◌}
use Rattle.rooms.specs.House.{House, Housed, room_of, sum}
use Rattle.rooms.specs.Promise.{BestSharing}
use Rattle.rooms.specs.Rows.{Certified, Longest, Row, begin, long, number, way}

-- Every room is somebody's.
abbrev pub Onto : Type 0
Onto = (h : House) (room : List ℕ) → Housed h room → (r : ℕ) → r < h.n → (i : ℕ) × (i < h.n) × (room_of room i ≡ r)

-- A sum over everybody's rooms is the sum over the rooms.
abbrev pub SameSum : Type 0
SameSum = (h : House) (room : List ℕ) → Housed h room → (f : ℕ → ℤ) → sum (λ i. f (room_of room i)) h.n ≡ sum f h.n

-- Numbers for the joint worth show that a sharing is best.
abbrev pub CertifiedBest : Type 0
CertifiedBest = (h : House) (room : List ℕ) (u v : List ℤ) → Certified h room u v → BestSharing h room

-- No row around is longer than nothing: back from where a row ends to where it begins.
abbrev pub Around : House → List ℕ → Type 0
Around h room = (i : ℕ) (xs : List ℕ) → Row h.n i xs → (long h room i xs +ℤ way h room i (begin i xs)) ≤ℤ pos 0

-- So it is in a best sharing, and so the numbers for the joint worth show by themselves.
abbrev pub BestAround : Type 0
BestAround = (h : House) (room : List ℕ) → Housed h room → BestSharing h room → Around h room

abbrev pub CertifiedAround : Type 0
CertifiedAround = (h : House) (room : List ℕ) (u v : List ℤ) → Certified h room u v → Around h room

-- No row is longer than the number of the person at its end less the least of all persons' numbers, or any t that none of them is below.
abbrev pub RowWithin : Type 0
RowWithin =
    (h : House) (room : List ℕ) (u v : List ℤ) (t : ℤ) → Certified h room u v → ((k : ℕ) → k < h.n → t ≤ℤ number u k) →
    (i : ℕ) (xs : List ℕ) → Row h.n i xs → long h room i xs ≤ℤ (number u i -ℤ t)

-- In a best sharing there are longest rows, and no way leads to more than they are long.
abbrev pub LongestExists : Type 0
LongestExists = (h : House) (room : List ℕ) → Housed h room → BestSharing h room → (d : List ℤ) × Longest h room d

abbrev pub NoMore : Type 0
NoMore =
    (h : House) (room : List ℕ) (d : List ℤ) → Housed h room → BestSharing h room → Longest h room d →
    (k i : ℕ) → k < h.n → i < h.n → (number d k +ℤ way h room k i) ≤ℤ number d i
