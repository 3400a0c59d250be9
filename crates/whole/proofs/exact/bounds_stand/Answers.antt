use Rattle.whole.proofs.Bounds.{wider, sum_within, difference_within, product_within, total_within}
use Rattle.whole.proofs.exact.bounds_stand.Goals as goal

pub returns : goal.returns
returns c = record { wider = wider; sums = sum_within; differences = difference_within; products = product_within; totals = total_within }
