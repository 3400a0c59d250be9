use Rattle.std.proofs.Common.{◌≡◌, ◌*◌}
use lib.Seq.{paste}
use Rattle.std.specs.List.{range_with_len, flat_map}
use Rattle.sheet.specs.Write.{person_part}
use Rattle.sheet.proofs.write.write_persons.Given as goal

abbrev pub invariant-loop-i : goal.invariant-loop-i
invariant-loop-i l = l.sheet ≡ paste l.initial.sheet 0 (flat_map (person_part l.draft.rooms.now l.draft.before l.draft.d) (range_with_len 0 l.i)) (10 * l.i)
