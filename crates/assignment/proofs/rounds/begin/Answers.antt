use Rattle.std.proofs.Common.{◌≡◌, ◌∙◌, length, replicate, rules, ap, arith}
use Rattle.rooms.specs.Format.{most_worth}
use Rattle.assignment.specs.Run.{Rooms}
use Rattle.std.proofs.lemmas.List.FromFn.{length-range_with_len}
use Rattle.assignment.proofs.Whole.{beginning_is}
use Rattle.assignment.proofs.rounds.begin.Goals as goal

pub returns : goal.returns
returns c =
    let x = c.args.standing.now in
    let n = length x.persons.now in
    let eu : c.fill.new.self ≡ replicate n most_worth = search rules in
    let ev : c.fill-2.new.self ≡ replicate (length x.prices.now) 0 = search rules in
    let er = ap (λ (z : Rooms). z.room) c.begin.ensures in
    let eo = ap (λ (z : Rooms). z.holder) c.begin.ensures in
    beginning_is n _ _ _ _ _ eu (rw x.priced at ev) (rw x.listed at er) (rw x.listed at eo)

pub invariant_of-standing-2-clause-listed : goal.invariant_of-standing-2-clause-listed
invariant_of-standing-2-clause-listed c =
    let e = ap (λ (z : Rooms). length z.room) c.begin.ensures ∙ length-range_with_len 0 _ in
    omega (arith, e, c.args.standing.now.listed, c.fill.ensures.len)
