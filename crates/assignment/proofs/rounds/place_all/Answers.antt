use Rattle.std.proofs.Common.{◌≡◌, arith}
use Rattle.rooms.specs.Format.{house_of}
use Rattle.assignment.proofs.Whole.{going_none, going_more, going_low}
use Rattle.assignment.proofs.rounds.place_all.Goals as goal

pub loop-p-init : goal.loop-p-init
loop-p-init c = (
  going_none _ _ _ (λ i r _ _. c.count-p-end.ensures.allowed.small i r) _ _ _ _ (rw c.requires.lists at c.begin.ensures),
  c.requires.people,
)

pub loop-p-preserved : goal.loop-p-preserved
loop-p-preserved c = (
  going_more _ _ _ (λ i r _ _. c.count-p-end.ensures.allowed.small i r) _ _ _ _ _ _ _ _ _ _ _ (omega arith) c.loop-p.invariant.0 c.round-looks.ensures.model
      c.round-looks.ensures.count,
  c.round-looks.ensures.people,
)

pub overflow_add-looks : goal.overflow_add-looks
overflow_add-looks c =
    let al = c.count-p-end.ensures.allowed in
    omega (arith, going_low _ _ _ (λ i r _ _. al.small i r) _ _ _ _ _ _ _ (omega (arith, al.few)) (omega arith) c.loop-p.invariant.0 c.round-looks.ensures.count)

pub returns : goal.returns
returns c =
    let q : c.loop-p.p ≡ (house_of c.args.group.now.bytes.now).n = omega arith in
    let g = rw q at c.loop-p.invariant.0 in
    record { model = g.model; count = g.count; stands = g.stands }
