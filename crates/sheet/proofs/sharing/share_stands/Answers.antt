use Rattle.sheet.proofs.Fairly.{fair, least_gain}
use Rattle.sheet.proofs.sharing.share_stands.Goals as goal

pub returns : goal.returns
returns c = record { fair = fair; least = least_gain }
