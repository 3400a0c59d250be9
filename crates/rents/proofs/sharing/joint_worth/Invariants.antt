use Rattle.std.proofs.Common.{◌≡◌}
use Rattle.rooms.specs.House.{room_of, sum, value}
use Rattle.rooms.specs.View.{house}
use Rattle.rents.proofs.sharing.joint_worth.Given as goal

-- The worths of the people before this one have been added up.
abbrev pub invariant-loop-i : goal.invariant-loop-i
invariant-loop-i l = l.worths ≡ sum (λ i. value (house l.group) i (room_of l.rooms i)) l.i
