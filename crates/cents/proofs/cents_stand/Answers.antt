use Rattle.cents.proofs.Rounding.{cents_rounded, near_content, only_cents}
use Rattle.cents.proofs.cents_stand.Goals as goal

pub returns : goal.returns
returns c = record { rounded = cents_rounded; only = only_cents; content = near_content }
