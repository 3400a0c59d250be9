-- What the rents of a claim are reckoned from. Assumes nothing: these are definitions.
use Rattle.std.specs.Prelude.{◌≡◌, ℕ, ◌^◌, ◌<◌, List, ℤ, pos, ◌-ℤ◌, ◌*ℤ◌, neg_ℤ, slice_index}
use Rattle.rooms.specs.House.{House}
use Rattle.whole.specs.Bounds.{Within}
use Rattle.whole.specs.Floor.{floor}
use Rattle.rents.specs.Rents.{spare, whose}
use Rattle.rents.specs.Shown.{Claim}

-- The surplus is what is spare. Everybody pays an even part of it less, in cents rounded toward lower numbers, and the missing cents are what that
-- leaves of it. Each room's tenant is whose it is.
pub record Reckoned (h : House) (c : Claim) (surplus even missing : ℤ) (tenant : List ℕ) : Type 0 where
  pub spare_is : surplus ≡ spare h c.room c.d
  pub small : Within (2 ^ 70) surplus
  pub thin : Within (2 ^ 100) even
  pub even_is : even ≡ floor (neg_ℤ surplus) h.n
  pub missing_is : missing ≡ neg_ℤ surplus -ℤ even *ℤ pos h.n
  pub tenant_is : (r : ℕ) → r < h.n → slice_index tenant r ≡ whose h c.room r
