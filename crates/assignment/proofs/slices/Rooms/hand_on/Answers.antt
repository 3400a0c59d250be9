use Rattle.std.proofs.Common.{sym, ◌∙◌, arith}
use Rattle.assignment.proofs.Handed.{handed_stop, handed_on, handed_none, holding_exchanged}
use Rattle.assignment.proofs.slices.Rooms.hand_on.Goals as goal

pub returns-then-i-p : goal.returns-then-i-p
returns-then-i-p c = record {
  rooms = sym (handed_stop _ _ _ _ _ _ c.loop-t-test.true c.if-i-p.true) ∙ c.loop-t.invariant.1;
  long = c.loop-t.invariant.0.long;
}

pub loop-t-preserved : goal.loop-t-preserved
loop-t-preserved c =
    let i = c.requires.parents _ (c.loop-t.invariant.0.held.into c.args.p c.requires.holds.1) in (
      holding_exchanged c.requires.holds.1 i c.loop-t.invariant.0 c.exchange.ensures,
      rw c.exchange.ensures (sym (handed_on _ _ _ _ _ _ c.loop-t-test.true c.if-i-p.false) ∙ c.loop-t.invariant.1),
    )

pub returns : goal.returns
returns c = record { rooms = sym (handed_none c.args.p _ _ _ (omega arith)) ∙ c.loop-t.invariant.1; long = c.loop-t.invariant.0.long }
