use Rattle.std.proofs.Common.{◌-◌, ◌++◌, replicate, ◌∙◌}
use Rattle.rooms.specs.Before.{nobody}
use Rattle.rooms.specs.Format.{house_of, most_people}
use Rattle.longest.specs.Promise.{before_of, longest_of}
use Rattle.sheet.proofs.Laid.{measured_as, solved_as}
use Rattle.sheet.proofs.sharing.rows_of.Goals as goal

pub longest_rows-requires : goal.longest_rows-requires
longest_rows-requires c =
    let h = house_of c.args.group.now.bytes.now in
    record { solved = solved_as h c.requires.rooms.1 _ _ _ c.requires.rooms.0 c.requires.numbers.0 c.requires.numbers.1; enough = c.requires.enough }

pub returns : goal.returns
returns c =
    let h = house_of c.args.group.now.bytes.now in
    let er = c.requires.rooms.0 in
    let eu = c.requires.numbers.0 in
    let ev = c.requires.numbers.1 in
    record {
      lengths = c.longest_rows.ensures.found.lengths ∙ (λ j. longest_of h (er j) (eu j) (ev j) ++ replicate (most_people - h.n) 0);
      priors = c.longest_rows.ensures.found.priors ∙ (λ j. before_of h (er j) (eu j) (ev j) ++ replicate (most_people - h.n) nobody);
      measured =
          measured_as h c.requires.rooms.1 _ _ _ _ (solved_as h c.requires.rooms.1 _ _ _ er eu ev) c.longest_rows.ensures.longest c.longest_rows.ensures.high;
      clean = c.longest_rows.ensures.clean;
    }
