use Rattle.std.proofs.Common.{refl, ap, ◌∙◌}
use Rattle.rooms.specs.Format.{house_of}
use Rattle.assignment.specs.Answer.{array_of}
use Rattle.assignment.proofs.Shown.{is_sharing, is_persons, is_prices, is_looks}
use Rattle.assignment.proofs.solve.Goals as goal

pub returns : goal.returns
returns c =
    let h = house_of c.args.group.now.bytes.now in
    let p = c.place_all-looks.ensures in
    record {
      sharing = c.write_rooms.ensures ∙ is_sharing h _ _ _ _ _ _ refl p.model p.count;
      persons = c.array.ensures ∙ ap array_of (is_persons h _ _ _ _ _ _ refl p.model p.count);
      prices = c.array-2.ensures ∙ ap array_of (is_prices h _ _ _ _ _ _ refl p.model p.count);
      count = is_looks h _ _ _ _ _ _ refl p.model p.count;
    }
