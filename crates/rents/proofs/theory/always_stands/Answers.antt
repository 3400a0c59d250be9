use Rattle.rents.proofs.Always.{always}
use Rattle.rents.proofs.theory.always_stands.Goals as goal

pub returns : goal.returns
returns c = always
