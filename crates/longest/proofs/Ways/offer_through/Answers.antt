use Rattle.std.proofs.Common.{◌+◌, arith}
use Rattle.std.proofs.lemmas.List.{set-get_or}
use Rattle.longest.proofs.Passing.{passing_takes, passing_keeps, passing_all}
use Rattle.longest.proofs.Views.{left_at, lefts_long, befores_long, lefts_set, befores_set}
use Rattle.longest.proofs.Ways.offer_through.Goals as goal
use Rattle.longest.proofs.Ways.offer_through.Goals.{then-left-offer, else-left-offer}

pub loop-i-preserved : goal.loop-i-preserved
loop-i-preserved c =
    let offers = c.loop-i.offers in
    let at_i = left_at offers c.loop-i.i in
    let wide = lefts_long offers in
    let whence = befores_long offers in
    elim c.if-left-offer.branch [
      | then-left-offer w ↦ rw (w.offers-is, lefts_set, befores_set)
          (passing_takes _ _ _ _ _ _ _ _ c.loop-i.invariant (c.args.rest + c.slack.result) (omega (arith, c.slack.ensures.value)) (omega arith) (omega arith) (omega (arith, w.if-left-offer.true)))
      | else-left-offer w ↦ rw (w.offers-is, set-get_or) (passing_keeps _ _ _ _ _ _ _ _ c.loop-i.invariant (c.args.rest + c.slack.result) (omega (arith, c.slack.ensures.value)) (omega (arith, w.if-left-offer.false)))
    ]

pub returns : goal.returns
returns c =
    passing_all _ _ _ _ _ _ _ _ _ (omega arith) (omega (arith, lefts_long c.loop-i.offers)) (omega (arith, befores_long c.loop-i.offers)) c.loop-i.invariant
