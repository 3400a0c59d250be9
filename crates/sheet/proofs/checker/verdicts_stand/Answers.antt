use Rattle.sheet.proofs.Meant.{accepted_fair, accepted_payable, accepted_shown, fair_accepted, refused_false, shown_accepted}
use Rattle.sheet.proofs.Verdicts.{one_verdict}
use Rattle.sheet.proofs.checker.verdicts_stand.Goals as goal

pub returns : goal.returns
returns c = record { accepted = accepted_shown; shown = shown_accepted; fair = accepted_fair; payable = accepted_payable; all = fair_accepted; refused = refused_false; one = one_verdict }
