-- Rows as lists of what they leave and of who stands before.
use Rattle.std.proofs.Common.{◌≡◌, ℕ, zero, suc, ◌<◌, List, [], ◌∷◌, length, get_or, set, None, unwrap_or, sym, refl}
use Rattle.std.proofs.lemmas.List.{get_or-map, length-map, map-set}
use Rattle.rooms.specs.Before.{nobody}
use Rattle.assignment.specs.Search.{at}
use Rattle.longest.specs.View.{lefts, befores}
use Rattle.longest.specs.declared.Row.{Row}

-- What is read past the rows.
abbrev pub nothing : Row
nothing = record { left = 0; before = None }

pub left_at : (rows : List Row) (i : ℕ) → (get_or rows i nothing).left ≡ at (lefts rows) i
left_at [] i = refl
left_at (row ∷ rows) zero = refl
left_at (row ∷ rows) (suc i) = left_at rows i

pub before_at : (rows : List Row) (i : ℕ) → i < length rows → unwrap_or (get_or rows i nothing).before nobody ≡ at (befores rows) i
before_at rows i h = sym (get_or-map (λ row. unwrap_or row.before nobody) rows i nothing 0 h)

pub lefts_long : (rows : List Row) → length (lefts rows) ≡ length rows
lefts_long rows = length-map rows (λ row. row.left)

pub befores_long : (rows : List Row) → length (befores rows) ≡ length rows
befores_long rows = length-map rows (λ row. unwrap_or row.before nobody)

-- A row is put in the place of another.
pub lefts_set : (rows : List Row) (i : ℕ) (row : Row) → lefts (set rows i row) ≡ set (lefts rows) i row.left
lefts_set rows i row = map-set (λ row. row.left) rows i row

pub befores_set : (rows : List Row) (i : ℕ) (row : Row) → befores (set rows i row) ≡ set (befores rows) i (unwrap_or row.before nobody)
befores_set rows i row = map-set (λ row. unwrap_or row.before nobody) rows i row
