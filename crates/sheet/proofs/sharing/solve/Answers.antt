use Rattle.std.proofs.Common.{◌*◌, ◌++◌, drop, replicate, ap, ◌∙◌, arith, w64, SFits, rules}
use Rattle.std.proofs.lemmas.Int.{to_z-of_z}
use Rattle.rooms.specs.Format.{house_of}
use Rattle.assignment.specs.Answer.{work_for}
use Rattle.sheet.proofs.Laid.{clean_again, front_as, sheet_as}
use Rattle.sheet.proofs.sharing.solve.Goals as goal

pub returns : goal.returns
returns c =
    let h = house_of c.args.group.now.bytes.now in
    let a = c.count-n.ensures.allowed in
    let en = c.count-n.ensures.people in
    let fj : SFits w64 c.price-outcome.result.joint = search rules in
    let fl : SFits w64 c.price-outcome.result.least = search rules in
    record {
      rooms = c.assign-found.ensures.sharing;
      rents = c.price-outcome.ensures.rents;
      work =
          c.rows_of.ensures.clean
          ∙ ap (λ zs. replicate (h.n * h.n) 0 ++ drop (h.n * h.n) zs) c.assign-found.ensures.clean
          ∙ clean_again (h.n * h.n) (work_for h.n) (drop (work_for h.n) c.args.work.now) (omega arith);
      sheet =
          c.write_sheet.ensures
          ∙ sheet_as h a _ _ _ _ _ _ _ _ _ en (front_as h a _ _ _ en c.assign-found.ensures.sharing) c.rows_of.ensures.priors
          c.rows_of.ensures.lengths c.price-outcome.ensures.rents c.assign-found.ensures.persons c.assign-found.ensures.prices;
      people = en;
      joint = to_z-of_z w64 _ fj ∙ c.price-outcome.ensures.joint;
      least = to_z-of_z w64 _ fl ∙ c.price-outcome.ensures.least;
      looks = c.assign-found.ensures.count;
    }
