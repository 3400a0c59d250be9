use Rattle.std.proofs.Common.{◌≡◌, ◌+◌, ◌<◌, set, refl, ◌∙◌, arith, get_or-set_same}
use Rattle.rooms.specs.Format.{house_of}
use Rattle.assignment.specs.Search.{at}
use Rattle.assignment.proofs.Growth.{growing_none, growing_fresh, growing_stop, growing_more, growing_never}
use Rattle.assignment.proofs.Step.{grown_few}
use Rattle.assignment.proofs.search.grow.Goals as goal

pub loop-k-init : goal.loop-k-init
loop-k-init c = record {
  people = c.start.ensures.people;
  growing = growing_none c.requires.person c.requires.stands.placed _ _ _ c.start.ensures.near c.start.ensures.by c.start.ensures.fresh;
}

pub nearest-r-requires-clause-some : goal.nearest-r-requires-clause-some
nearest-r-requires-clause-some c =
    rw (c.loop-k.tree.long_turn, c.loop-k.invariant.people) (growing_fresh c.requires.person c.requires.stands.placed _ _ _ _ c.loop-k.invariant.growing)

pub returns-then-i-p : goal.returns-then-i-p
returns-then-i-p c =
    let s = c.loop-k.tree.long_turn ∙ c.loop-k.invariant.people in
    let g = c.loop-k.invariant.growing in
    let h : c.nearest-r.result < (house_of c.args.group.now.bytes.now).n = omega (arith, s, c.nearest-r.ensures.here) in
    let here = c.nearest-r.ensures.here in
    let t : at (set c.loop-k.tree.turn.now c.nearest-r.result (c.loop-k.k + 1)) c.nearest-r.result ≡ c.loop-k.k + 1 = rw get_or-set_same in
    record {
      here = (h, omega (arith, t, grown_few g.grown));
      model = rw t (growing_stop c.requires.person c.requires.stands.placed _ _ _ _ _ g (omega arith) (rw s at c.nearest-r.ensures.model) c.if-i-p.true);
      people = c.loop-k.invariant.people;
    }

pub relax-requires : goal.relax-requires
relax-requires c =
    let st = c.requires.stands in
    let s = c.loop-k.tree.long_turn ∙ c.loop-k.invariant.people in
    let h : c.nearest-r.result < (house_of c.args.group.now.bytes.now).n = omega (arith, s, c.nearest-r.ensures.here) in
    let b = c.loop-k.invariant.growing.grown.near c.nearest-r.result h in
    let x = st.placed.dual.persons c.args.p c.requires.person in
    let y = st.placed.dual.prices c.nearest-r.result h in
    record {
      person = (omega arith, omega arith);
      ready = record { few = c.count-n.ensures.allowed.few; long_persons = st.long_persons; long_prices = st.long_prices; dual = st.placed.dual };
      people = c.loop-k.invariant.people;
    }

pub loop-k-preserved : goal.loop-k-preserved
loop-k-preserved c =
    let s = c.loop-k.tree.long_turn ∙ c.loop-k.invariant.people in
    record {
      people = c.relax.ensures.people;
      growing = rw c.relax.ensures.turns (growing_more c.requires.person c.requires.stands.placed _ _ _ _ _ _ _ _ c.loop-k.invariant.growing (omega arith) s
          (rw s at c.nearest-r.ensures.model) c.if-i-p.false refl c.relax.ensures.near c.relax.ensures.by);
    }

pub unreachable-requires : goal.unreachable-requires
unreachable-requires c = growing_never c.requires.person c.requires.stands.placed _ _ _ _ c.loop-k.invariant.growing (omega arith)
