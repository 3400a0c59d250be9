use Rattle.std.proofs.Common.{◌≡◌}
use Rattle.rooms.specs.House.{worth_at}
use Rattle.rooms.specs.Format.{most_worth, house_of}
use Rattle.assignment.proofs.Whole.{Going}
use Rattle.assignment.proofs.rounds.place_all.Given as goal

abbrev pub invariant-loop-p : goal.invariant-loop-p
invariant-loop-p l =
    let h = house_of l.group.bytes.now in
    let x = l.standing in
    Going h.n most_worth (worth_at h) l.p x.persons.now x.prices.now x.rooms.room.now x.rooms.holder.now l.looks × (l.tree.n ≡ h.n)
