use Rattle.std.proofs.Common.{◌∙◌, sym, arith}
use Rattle.assignment.proofs.Near.{first_some, nearing_none, nearing_taken, nearing_kept, nearing_all}
use Rattle.assignment.proofs.slices.Tree.nearest.Goals as goal
use Rattle.assignment.proofs.slices.Tree.nearest.Goals.{then-turn-eq0+then-self-r, else-turn-eq0, else-turn-eq0-via-then-turn-eq0+else-self-r, else-turn-eq0-via-else-turn-eq0}

pub loop-r-init : goal.loop-r-init
loop-r-init c = nearing_none _ _ _ (sym c.first_fresh.ensures ∙ c.unwrap-near.ensures)

pub loop-r-preserved : goal.loop-r-preserved
loop-r-preserved c =
    elim c.if-turn-eq0.branch [
      | then-turn-eq0+then-self-r w ↦ rw w.near-is (nearing_taken _ _ _ _ _ (omega arith) c.loop-r.invariant w.if-turn-eq0.true w.if-self-r.true)
      | else-turn-eq0 w ↦ rw w.near-is (nearing_kept _ _ _ _ _ (omega arith) c.loop-r.invariant (elim w.else-turn-eq0.branch [
        | else-turn-eq0-via-then-turn-eq0+else-self-r x ↦ λ z. x.if-self-r.false
        | else-turn-eq0-via-else-turn-eq0 x ↦ λ z. absurd (x.if-turn-eq0.false z)
      ]))
    ]

pub unwrap-near-requires : goal.unwrap-near-requires
unwrap-near-requires c = rw c.first_fresh.ensures (first_some _ c.requires.some.0 c.requires.some.1 c.requires.some.2)

pub returns : goal.returns
returns c = record { model = nearing_all _ _ _ _ _ (omega arith) c.loop-r.invariant; here = c.loop-r.invariant.here }
