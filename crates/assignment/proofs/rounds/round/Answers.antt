use Rattle.std.proofs.Common.{◌∙◌, arith}
use Rattle.rooms.specs.Format.{house_of}
use Rattle.assignment.specs.Slices.{Holding}
use Rattle.assignment.proofs.Growth.{grew_by}
use Rattle.assignment.proofs.Moved.{down_fits, own_fits, parent_fits}
use Rattle.assignment.proofs.Handed.{holding_exchanged}
use Rattle.assignment.proofs.Whole.{round_is, round_count}
use Rattle.assignment.proofs.rounds.round.Goals as goal

pub raise-requires : goal.raise-requires
raise-requires c =
    let st = c.requires.stands in
    let gr = grew_by c.requires.person st.placed c.grow-last.ensures.model in
    let x = st.placed.dual.persons c.args.p c.requires.person in
    rw st.long_prices (
      c.grow-last.new.tree.long_distance ∙ c.grow-last.ensures.people,
      omega (arith, own_fits {m = c.grow-last.result} c.requires.person st.placed gr.ended),
      st.placed.dual.prices,
    )

pub lower-requires-clause-fits : goal.lower-requires-clause-fits
lower-requires-clause-fits c =
    let st = c.requires.stands in
    let gr = grew_by c.requires.person st.placed c.grow-last.ensures.model in
    (down_fits {m = c.grow-last.result} c.requires.person st.placed gr.ended, own_fits {m = c.grow-last.result} c.requires.person st.placed gr.ended)

pub hand_on-requires : goal.hand_on-requires
hand_on-requires c =
    let st = c.requires.stands in
    let gr = grew_by c.requires.person st.placed c.grow-last.ensures.model in
    let h : Holding (house_of c.args.group.now.bytes.now).n c.args.standing.now.rooms = record { held = st.placed.held; long = st.long_room } in
    rw (c.grow-last.new.tree.long_parent, c.grow-last.ensures.people) (record {
      holds = (holding_exchanged c.requires.person (st.placed.held.onto _ c.grow-last.ensures.here.0) h c.exchange.ensures, c.requires.person);
      parents = parent_fits {m = c.grow-last.result} c.requires.person st.placed gr.ended;
    })

pub returns : goal.returns
returns c =
    let st = c.requires.stands in
    let g = c.grow-last.ensures in
    record {
      model = round_is _ _ _ _ _ _ _ _ _ _ _ _ g.model (rw st.long_prices at c.raise.ensures) (rw st.long_persons at c.lower.ensures) c.exchange.ensures
          (rw (c.grow-last.new.tree.long_parent, g.people) at c.hand_on.ensures.rooms);
      count = rw c.count.ensures.people (round_count _ _ _ _ _ _ _ _ g.model);
      people = g.people;
    }

pub invariant_of-standing-2-clause-listed : goal.invariant_of-standing-2-clause-listed
invariant_of-standing-2-clause-listed c =
    let st = c.requires.stands in
    omega (arith, c.hand_on.ensures.long, c.grow-last.new.tree.long_parent, c.grow-last.ensures.people, st.long_persons)
