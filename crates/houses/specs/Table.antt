-- The table of the worked houses, and what is proved of every entry. Assumes nothing: these are definitions and a statement.
use Rattle.std.specs.Prelude.{◌≡◌, ℕ, ◌<◌, List, [], ◌∷◌}
use Rattle.rooms.specs.House.{own_gain}
use Rattle.rooms.specs.Promise.{Fairest}
use Rattle.rooms.specs.Rows.{number}
use Rattle.rents.specs.Shown.{Shown}
use Rattle.houses.specs.Shares.{Entry, share_a, share_b, share_c, share_d, share_e, share_f}

-- The shares by their rooms: that of person 0, of person 1, and so on. A, B and F have two best sharings each.
abbrev pub table : List Entry
table =
    share_a (0 ∷ 2 ∷ 1 ∷ [])
    ∷ share_a (0 ∷ 1 ∷ 2 ∷ [])
    ∷ share_b (0 ∷ 1 ∷ [])
    ∷ share_b (1 ∷ 0 ∷ [])
    ∷ share_c (0 ∷ 1 ∷ [])
    ∷ share_d (1 ∷ 0 ∷ [])
    ∷ share_e (0 ∷ [])
    ∷ share_f (1 ∷ 0 ∷ 2 ∷ [])
    ∷ share_f (0 ∷ 1 ∷ 2 ∷ [])
    ∷ []

-- The share is the fairest of the house, its rents over the scale n; the claim shows it; and everybody gains what is written.
pub record Stands (e : Entry) : Type 0 where
  pub fairest : Fairest e.house e.claim.room e.house.n e.claim.rents
  pub shown : Shown e.house e.claim
  pub gains : (i : ℕ) → i < e.house.n → own_gain e.house e.claim.room e.house.n e.claim.rents i ≡ number e.gains i

-- Every entry stands.
abbrev pub AllStand : List Entry → Type 0
AllStand [] = Unit {0}
AllStand (e ∷ es) = Stands e × AllStand es

abbrev pub HousesStand : Type 0
HousesStand = AllStand table
