use Rattle.whole.proofs.Floors.{floors, only_floor, rests, only_rest, moved}
use Rattle.whole.proofs.floor.floors_stand.Goals as goal

pub returns : goal.returns
returns c = record { floors = floors; only = only_floor; rests = rests; lone = only_rest; moved = moved }
