use Rattle.std.proofs.Common.{◌≡◌, ◌*◌}
use lib.Seq.{paste}
use Rattle.std.specs.List.{range_with_len, flat_map}
use Rattle.sheet.specs.Write.{number_part}
use Rattle.sheet.proofs.write.write_numbers.Given as goal

abbrev pub invariant-loop-i : goal.invariant-loop-i
invariant-loop-i l = l.sheet ≡ paste l.initial.sheet l.at (flat_map (number_part l.numbers) (range_with_len 0 l.i)) (8 * l.i)
