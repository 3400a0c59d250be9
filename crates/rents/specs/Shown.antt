-- What a claim of a share has to show, and that it is then the fairest. Assumes nothing: these are definitions and statements.
use Rattle.std.specs.Prelude.{ℕ, ◌<◌, ◌≤◌, List, length, ℤ}
use Rattle.rooms.specs.House.{House, Housed}
use Rattle.rooms.specs.Promise.{BestSharing, Fairest}
use Rattle.rooms.specs.Rows.{Certified, Longest}
use Rattle.rooms.specs.Before.{RowsShown}
use Rattle.rents.specs.Rents.{Rents}

-- What is claimed: the room of each person, who stands before them on a longest row, its length, the rent of each room over the scale n, and a number
-- for each person and each room for the joint worth.
pub record Claim : Type 0 where
  pub room : List ℕ
  pub before : List ℕ
  pub d : List ℤ
  pub rents : List ℤ
  pub persons : List ℤ
  pub rooms : List ℤ

-- Something is claimed of everybody and every room.
pub record Whole (h : House) (c : Claim) : Type 0 where
  pub room : h.n ≤ length c.room
  pub before : h.n ≤ length c.before
  pub d : h.n ≤ length c.d
  pub rents : h.n ≤ length c.rents
  pub persons : h.n ≤ length c.persons
  pub rooms : h.n ≤ length c.rooms

-- THE HINGE. The rooms are shared, the numbers show that the sharing is best, the persons before show that the rows are longest, and the rents are
-- made from them.
pub record Shown (h : House) (c : Claim) : Type 0 where
  pub whole : Whole h c
  pub housed : Housed h c.room
  pub certified : Certified h c.room c.persons c.rooms
  pub rows : RowsShown h c.room c.d c.before
  pub rents : Rents h c.room c.d c.rents

-- What a shown claim means: it is the fairest share, its sharing is best and its rows are longest.
pub record Means (h : House) (c : Claim) : Type 0 where
  pub fairest : Fairest h c.room h.n c.rents
  pub best : BestSharing h c.room
  pub longest : Longest h c.room c.d

-- It does, whoever shows it.
abbrev pub ShownFairest : Type 0
ShownFairest = (h : House) (c : Claim) → 0 < h.n → Shown h c → Means h c
