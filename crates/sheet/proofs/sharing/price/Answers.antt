use Rattle.std.proofs.Common.{ap, ◌∙◌}
use Rattle.rooms.specs.Format.{house_of}
use Rattle.rooms.specs.House.{joint}
use Rattle.sheet.proofs.Laid.{least_as, priced}
use Rattle.sheet.proofs.sharing.price.Goals as goal

pub returns : goal.returns
returns c =
    let h = house_of c.args.group.now.bytes.now in
    let er = c.requires.rooms.0 in
    let ed = c.requires.lengths in
    record {
      rents =
          priced h c.requires.rooms.1 _ _ _ _ _ _ _ c.count.ensures.people c.rent.ensures er ed c.fairest_rents-outcome.ensures.rents
          c.fairest_rents-outcome.ensures.held c.write_cents.ensures.cents;
      joint = c.fairest_rents-outcome.ensures.joint ∙ ap (joint h) er;
      least = c.fairest_rents-outcome.ensures.least ∙ least_as h c.requires.rooms.1 _ _ er ed;
    }
