use Rattle.std.proofs.Common.{◌≡◌, ◌≤◌, length, ap, ◌∙◌, arith, rules, w64}
use Rattle.std.proofs.lemmas.Int.{ints, to_z-of_z}
use Rattle.rooms.specs.Format.{most_people}
use Rattle.rooms.specs.House.{sum}
use Rattle.rooms.specs.Rows.{number, signed}
use Rattle.rooms.specs.View.{house}
use Rattle.rents.specs.Rents.{spare}
use Rattle.rents.proofs.Answered.{lengths_are}
use Rattle.rents.proofs.Sizes.{lengths_small, worths_small}
use Rattle.rents.proofs.sharing.Sharing.new.Goals as goal

pub minus-requires : goal.minus-requires
minus-requires c =
    let h = house c.args.group.now in
    let a = c.count.ensures.allowed in
    let w = worths_small h c.args.rooms.now a h.n (omega arith) in
    let j = c.joint_worth-joint.ensures in
    let v = c.from.ensures in
    let f = c.rent.type_inv in
    (record { low = omega (arith, ints); high = omega (arith, ints) }, record { low = omega (arith, ints); high = omega (arith, ints) })

pub minus-spare-requires : goal.minus-spare-requires
minus-spare-requires c =
    let n = c.count.result in
    let long : length c.args.d ≡ most_people = search rules in
    let few : n ≤ most_people = omega (arith, c.count.ensures.people, c.count.ensures.allowed.few) in
    let l = lengths_small c.args.d c.requires.low n few in
    let k = c.all_lengths-lengths.ensures ∙ lengths_are c.args.d n (omega arith) in
    let h = house c.args.group.now in
    let w = worths_small h c.args.rooms.now c.count.ensures.allowed h.n (omega arith) in
    let j = c.joint_worth-joint.ensures in
    let e = c.from.ensures in
    let f = c.rent.type_inv in
    let v = c.minus.ensures.value in
    (record { low = omega (arith, ints); high = omega (arith, ints) }, record { low = omega (arith, ints); high = omega (arith, ints) })

pub invariant_of-result : goal.invariant_of-result
unfolding spare
invariant_of-result c =
    let h = house c.args.group.now in
    let n = c.count.result in
    let long : length c.args.d ≡ most_people = search rules in
    let few : n ≤ most_people = omega (arith, c.count.ensures.people, c.count.ensures.allowed.few) in
    let w = worths_small h c.args.rooms.now c.count.ensures.allowed h.n (omega arith) in
    let l = lengths_small c.args.d c.requires.low n few in
    let j = c.joint_worth-joint.ensures in
    let k = c.all_lengths-lengths.ensures ∙ lengths_are c.args.d n (omega arith) ∙ ap (sum (λ i. number (signed c.args.d) i)) c.count.ensures.people in
    let e = c.from.ensures in
    let r = c.rent.ensures in
    let v = c.minus.ensures.value in
    let x = c.minus-spare.ensures.value in
    let y = c.minus-spare.ensures.within in
    record {
      housed = c.requires.housed;
      low = c.requires.low;
      worth = to_z-of_z w64 c.joint_worth-joint.result (record { sfits = c.joint_worth-joint.type_inv }) ∙ j;
      left = omega (arith, ints);
    }
