use Rattle.std.proofs.Common.{length}
use Rattle.trials.proofs.plain.+best_of.Given as goal

abbrev pub decreases-best_of : goal.decreases-best_of
decreases-best_of l = length l.rows.now
