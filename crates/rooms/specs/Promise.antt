-- What is promised of a share of a house. Each is a statement; a contract that names it is proved. Assumes nothing: these are definitions.
use Rattle.std.specs.Prelude.{◌≡◌, ℕ, ◌<◌, List, ℤ, pos, ◌*ℤ◌, ◌≤ℤ◌}
use Rattle.rooms.specs.House.{House, Housed, Settled, joint, own_gain, rent_of}

-- Person j has least: nobody gains less by their own room.
pub record Poorest (h : House) (room : List ℕ) (d : ℕ) (ps : List ℤ) (j : ℕ) : Type 0 where
  pub one : j < h.n
  pub least : (k : ℕ) → k < h.n → own_gain h room d ps j ≤ℤ own_gain h room d ps k

-- THE MAIN PROMISE. It is a settlement; of all settlements, by whatever sharing, rents and scale, none gives the one who has least more than this
-- one does; and any other that gives as much has the same rents. (Fractions over d and e are compared by multiplying with the other scale.)
pub record Fairest (h : House) (room : List ℕ) (d : ℕ) (ps : List ℤ) : Type 0 where
  pub settled : Settled h room d ps
  pub least : (other : List ℕ) (e : ℕ) (qs : List ℤ) → Settled h other e qs →
      (i j : ℕ) → Poorest h other e qs i → Poorest h room d ps j → (own_gain h other e qs i *ℤ pos d) ≤ℤ (own_gain h room d ps j *ℤ pos e)
  pub only : (other : List ℕ) (e : ℕ) (qs : List ℤ) → Settled h other e qs →
      (i j : ℕ) → Poorest h other e qs i → Poorest h room d ps j → (own_gain h room d ps j *ℤ pos e) ≤ℤ (own_gain h other e qs i *ℤ pos d) →
      (r : ℕ) → r < h.n → rent_of qs r *ℤ pos d ≡ rent_of ps r *ℤ pos e

-- Every house with somebody in it has a fairest share: no bound on the people, the worths or the rent.
abbrev pub Always : Type 0
Always = (h : House) → 0 < h.n → (room : List ℕ) × (d : ℕ) × (ps : List ℤ) × Fairest h room d ps

-- A sharing is best: no other is worth more to all together.
abbrev pub BestSharing : House → List ℕ → Type 0
BestSharing h room = (other : List ℕ) → Housed h other → joint h other ≤ℤ joint h room

-- The sharing of a settlement is best.
abbrev pub Best : Type 0
Best = (h : House) (room : List ℕ) (d : ℕ) (ps : List ℤ) → Settled h room d ps → BestSharing h room

-- Rents that settle one best sharing settle every other, with the same gain for everybody.
abbrev pub AnyBest : Type 0
AnyBest =
    (h : House) (room other : List ℕ) (d : ℕ) (ps : List ℤ) → Settled h room d ps → Housed h other → joint h other ≡ joint h room →
    Settled h other d ps × ((i : ℕ) → i < h.n → own_gain h other d ps i ≡ own_gain h room d ps i)

-- In a fairest share everybody gains at least whatever t everybody gains in any other settlement, and one in which everybody gains at least what the
-- one who has least gains here has the same rents: the main promise with no word of who has least elsewhere.
pub record AtLeast (h : House) (room : List ℕ) (d : ℕ) (ps : List ℤ) : Type 0 where
  pub least : (other : List ℕ) (e : ℕ) (qs : List ℤ) (t : ℤ) → Settled h other e qs → ((i : ℕ) → i < h.n → t ≤ℤ own_gain h other e qs i) →
      (i : ℕ) → i < h.n → (t *ℤ pos d) ≤ℤ (own_gain h room d ps i *ℤ pos e)
  pub only : (other : List ℕ) (e : ℕ) (qs : List ℤ) → Settled h other e qs →
      ((i j : ℕ) → i < h.n → Poorest h room d ps j → (own_gain h room d ps j *ℤ pos e) ≤ℤ (own_gain h other e qs i *ℤ pos d)) →
      (r : ℕ) → r < h.n → rent_of qs r *ℤ pos d ≡ rent_of ps r *ℤ pos e

abbrev pub FairestAtLeast : Type 0
FairestAtLeast = (h : House) (room : List ℕ) (d : ℕ) (ps : List ℤ) → Fairest h room d ps → AtLeast h room d ps
