use Rattle.std.proofs.Common.{refl, rules}
use Rattle.std.proofs.lemmas.Slice.{overwrites}
use Rattle.rooms.specs.House.{worth_at}
use Rattle.rooms.specs.Format.{house_of}
use Rattle.assignment.proofs.Row.{row_end, offered}
use Rattle.assignment.proofs.search.write_row.Goals as goal

pub returns : goal.returns
returns c =
    let h = house_of c.args.group.now.bytes.now in
    let q = c.count-n.ensures.people in
    let w = row_end c.args.i _ _ c.requires.person.0 c.requires.sizes in
    let e = offered (worth_at h) h.n c.args.standing.now.persons.now c.args.standing.now.prices.now _ _ c.args.i c.args.d _ c.requires.ready.long_prices refl
    c.row-mine.ensures.each c.offer.ensures in
    rw (← q) (search (rules, overwrites))
