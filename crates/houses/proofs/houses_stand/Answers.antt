use Rattle.houses.proofs.Table.{houses_stand}
use Rattle.houses.proofs.houses_stand.Goals as goal

pub returns : goal.returns
returns c = houses_stand
