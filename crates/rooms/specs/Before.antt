-- The persons before, by whom longest rows are shown, and where going back ends. Assumes nothing: these are definitions.
use Rattle.std.specs.Prelude.{◌≡◌, ℕ, zero, suc, ◌<◌, ◌≤◌, Bool, false, not, ◌&&◌, ◌||◌, ◌⊎◌, List, length, ℤ, pos, ◌+ℤ◌, ◌≤ℤ◌, ◌==◌, ◌≢◌, slice_index_or}
use Rattle.rooms.specs.House.{House}
use Rattle.rooms.specs.Rows.{Longest, number, way}

-- Stands for nobody, where the row of a person alone is longest.
abbrev pub nobody : ℕ
nobody = 255

-- Who stands before person i.
abbrev pub prior : List ℕ → ℕ → ℕ
prior before i = slice_index_or before i nobody

-- Going back from i comes to somebody with nobody before them, within m persons.
unfoldable pub Ends : List ℕ → ℕ → ℕ → Type 0
Ends before zero i = ⊥
Ends before (suc m) i = (prior before i ≡ nobody) ⊎ Ends before m (prior before i)

-- Nobody stands before i, whose number is 0; or one of the n does, and i has the number of that one and the way from there.
abbrev pub Comes : House → List ℕ → List ℤ → List ℕ → ℕ → Type 0
Comes h room d before i =
    ((prior before i ≡ nobody) × (number d i ≡ pos 0))
    ⊎ ((prior before i < h.n) × (number d i ≡ number d (prior before i) +ℤ way h room (prior before i) i) × (prior before i ≢ nobody))

-- What is shown of the longest rows: a number that is not below nothing for each person, and who stands before; no way leads to more, and going
-- back from anybody ends within n persons.
pub record RowsShown (h : House) (room : List ℕ) (d : List ℤ) (before : List ℕ) : Type 0 where
  pub low : (i : ℕ) → i < h.n → pos 0 ≤ℤ number d i
  pub comes : (i : ℕ) → i < h.n → Comes h room d before i
  pub most : (k i : ℕ) → k < h.n → i < h.n → (number d k +ℤ way h room k i) ≤ℤ number d i
  pub ends : (i : ℕ) → i < h.n → Ends before h.n i

-- Whatever is shown so, by whomever, is longest: each number is the length of a row in which nobody stands twice, and no such row is longer.
abbrev pub ShownLongest : Type 0
ShownLongest = (h : House) (room before : List ℕ) (d : List ℤ) → h.n ≤ length d → RowsShown h room d before → Longest h room d

-- Going back from j comes to i within m persons.
abbrev pub leads_back : List ℕ → ℕ → ℕ → ℕ → Bool
leads_back before zero i j = false
leads_back before (suc m) i j = not (prior before j == nobody) && (prior before j == i || leads_back before m i (prior before j))

-- Person i stands on a circle of at most n: going back from i comes to i again.
abbrev pub on_circle : List ℕ → ℕ → ℕ → Bool
on_circle before n i = leads_back before n i i

-- Where only persons stand before persons, going back from anybody ends just where nobody stands on a circle.
abbrev pub EndsOrCircle : Type 0
EndsOrCircle =
    (before : List ℕ) (n : ℕ) → ((i : ℕ) → i < n → (prior before i ≡ nobody) ⊎ (prior before i < n)) →
    (((i : ℕ) → i < n → on_circle before n i ≡ false) → (i : ℕ) → i < n → Ends before n i)
    × (((i : ℕ) → i < n → Ends before n i) → (i : ℕ) → i < n → on_circle before n i ≡ false)
