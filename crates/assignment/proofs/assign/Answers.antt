use Rattle.std.proofs.Common.{rules}
use Rattle.std.proofs.lemmas.Slice.{overwrites}
use Rattle.assignment.proofs.Shown.{solved_by, few_by, front_is}
use Rattle.assignment.proofs.assign.Goals as goal

pub returns : goal.returns
returns c =
    let q = c.count-n.ensures.people in
    let al = c.count-n.ensures.allowed in
    let s = c.solve-found.ensures in
    record {
      sharing = front_is _ _ _ _ c.args.rooms.now s.sharing q;
      persons = s.persons;
      prices = s.prices;
      count = s.count;
      clean = rw (← q) (search (rules, overwrites));
      solved = solved_by _ _ _ _ _ al s.sharing s.persons s.prices;
      few = few_by _ _ al s.count;
    }
