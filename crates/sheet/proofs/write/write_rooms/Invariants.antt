use Rattle.std.proofs.Common.{◌≡◌, ◌*◌}
use lib.Seq.{paste}
use Rattle.std.specs.List.{range_with_len, flat_map}
use Rattle.sheet.specs.Write.{room_part}
use Rattle.sheet.proofs.write.write_rooms.Given as goal

abbrev pub invariant-loop-r : goal.invariant-loop-r
invariant-loop-r l = l.sheet ≡ paste l.initial.sheet (10 * l.n) (flat_map (room_part l.n l.rents) (range_with_len 0 l.r)) (16 * l.r)
