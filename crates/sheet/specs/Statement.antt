-- What a statement says: the house, what is claimed of it, and the whole sheet. Assumes nothing: these are definitions.
use Rattle.rooms.specs.House.{House}
use Rattle.rooms.specs.View.{house}
use Rattle.rents.specs.Shown.{Claim}
use Rattle.sheet.specs.declared.statement.Statement.{Statement}
use Rattle.sheet.specs.Entries.{claimed, entered}
use Rattle.sheet.specs.Format.{Sheet}

abbrev pub house_in : Statement → House
house_in stated = house stated.group

abbrev pub claimed_by : Statement → Claim
claimed_by stated = claimed (house stated.group) stated.entries.now

abbrev pub sheet_in : Statement → Sheet
sheet_in stated = entered (house stated.group).n stated.entries.now
