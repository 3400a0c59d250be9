use Rattle.std.proofs.Common.{◌*◌, length, ap, arith}
use Rattle.longest.proofs.Lines.{line_end, line_length, filled_more}
use Rattle.longest.proofs.Best.write_table.Goals as goal

pub loop-i-preserved : goal.loop-i-preserved
loop-i-preserved c =
    let i = c.loop-i.i in
    let n = c.count-n.result in
    let square = ap (λ j. j * j) c.count-n.ensures.people in
    let x = line_end i n (length c.loop-i.table) c.loop-i-test.true (omega arith) in
    let e = line_length (i * n) n c.loop-i.table (omega arith) in
    filled_more n _ i c.loop-i.table c.write_slacks.new.line _ (omega arith) (omega arith) (λ k l. c.write_slacks.ensures k (omega arith)) c.loop-i.invariant
