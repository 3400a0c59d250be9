use Rattle.assignment.proofs.Shown.{answered, found}
use Rattle.assignment.proofs.found_stands.Goals as goal

pub returns : goal.returns
returns c = record { answered = answered; found = found }
