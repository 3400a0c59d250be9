-- Shares that look fair and are not the fairest, each by a worked house. Each is a statement; a contract that names it is proved. Assumes nothing: these
-- are definitions.
use Rattle.std.specs.Prelude.{◌≡◌, ℕ, ◌<◌, ◌≤◌, List, [], ◌∷◌, ℤ, pos, ◌*ℤ◌, ◌<ℤ◌, ◌≢◌}
use Rattle.rooms.specs.House.{Housed, Settled, own_gain, rent_of, total, worth_at}
use Rattle.rooms.specs.Promise.{BestSharing, Fairest, Poorest}
use Rattle.rooms.specs.Rows.{signed}
use Rattle.houses.specs.Houses.{house_a, house_c, house_d}

-- Equal rents for all settle D by no sharing, so they are not its fairest rents.
abbrev pub EqualRents : Type 0
EqualRents = (room : List ℕ) (d : ℕ) (ps : List ℤ) → Settled house_d room d ps → rent_of ps 0 ≢ rent_of ps 1

-- The worths themselves as rents, so that nobody gains anything, do not add up to the rent of C, by whatever sharing.
abbrev pub WorthsAsRents : Type 0
WorthsAsRents =
    (room : List ℕ) (d : ℕ) (ps : List ℤ) → 0 < d → Housed house_c room → ((i : ℕ) → i < 2 → own_gain house_c room d ps i ≡ pos 0) →
    total ps 2 ≢ pos house_c.rent *ℤ pos d

-- The same gain for everybody settles A by no sharing.
abbrev pub EqualGains : Type 0
EqualGains = (room : List ℕ) (d : ℕ) (ps : List ℤ) (g : ℤ) → Settled house_a room d ps → ((i : ℕ) → i < 3 → own_gain house_a room d ps i ≡ g) → ⊥

-- Other rents for A, whole ones, with the gains 12000, 14000 and 9000.
abbrev pub other_rents : List ℤ
other_rents = signed (48000 ∷ 26000 ∷ 16000 ∷ [])

-- They settle A without being the fairest: whoever has least gains 9000, and in any fairest share of A whoever has least gains more.
pub record Another : Type 0 where
  pub settled : Settled house_a (0 ∷ 1 ∷ 2 ∷ []) 1 other_rents
  pub poorest : Poorest house_a (0 ∷ 1 ∷ 2 ∷ []) 1 other_rents 2
  pub gains : own_gain house_a (0 ∷ 1 ∷ 2 ∷ []) 1 other_rents 2 ≡ pos 9000
  pub lower : (room : List ℕ) (d : ℕ) (ps : List ℤ) (j : ℕ) → Fairest house_a room d ps → Poorest house_a room d ps j →
      (pos 9000 *ℤ pos d) <ℤ own_gain house_a room d ps j
  pub unfair : (room : List ℕ) → Fairest house_a room 1 other_rents → ⊥

-- In turn, each the best room that is left: in D person 0 takes room 0, and room 1 is left for person 1. The sharing is not best, and no rents settle it.
pub record InTurn : Type 0 where
  pub housed : Housed house_d (0 ∷ 1 ∷ [])
  pub first : (r : ℕ) → r < 2 → worth_at house_d 0 r ≤ worth_at house_d 0 0
  pub worse : BestSharing house_d (0 ∷ 1 ∷ []) → ⊥
  pub unsettled : (d : ℕ) (ps : List ℤ) → Settled house_d (0 ∷ 1 ∷ []) d ps → ⊥
