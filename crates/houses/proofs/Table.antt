-- The table passes its test, which is computed once.
use Rattle.std.proofs.Common.{◌≡◌, true, refl}
use Rattle.rooms.specs.House.{gain, sum, value}
use Rattle.rooms.specs.Rows.{way}
use Rattle.rents.specs.Rents.{spare}
use Rattle.houses.specs.Table.{HousesStand, table}
use Rattle.houses.proofs.Tests.{all_stand, all_stand_true}

passes : all_stand table ≡ true
unfolding gain sum value way spare
passes = refl

pub houses_stand : HousesStand
houses_stand = all_stand_true table passes
