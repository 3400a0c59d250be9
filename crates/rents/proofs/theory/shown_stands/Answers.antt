use Rattle.rents.proofs.Faults.{shows_decides}
use Rattle.rents.proofs.Shown.{shown_fairest}
use Rattle.rents.proofs.theory.shown_stands.Goals as goal

pub returns : goal.returns
returns c = record { fairest = shown_fairest; decides = shows_decides }
