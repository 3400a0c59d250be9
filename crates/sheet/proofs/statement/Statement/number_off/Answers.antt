use Rattle.std.proofs.Common.{◌∙◌, w64, SFits, rules}
use Rattle.std.proofs.lemmas.Int.{to_z-of_z}
use Rattle.rooms.specs.Rows.{number}
use Rattle.sheet.specs.Statement.{house_in}
use Rattle.sheet.proofs.Entered.{number_test}
use Rattle.sheet.proofs.statement.Statement.number_off.Goals as goal

pub returns : goal.returns
returns c =
    let e = c.args.self.now.entries.now in
    let f : SFits w64 (number e.persons c.args.i) = search rules in
    let g : SFits w64 (number e.rooms c.args.r) = search rules in
    c.sum_off.ensures
    ∙ number_test (house_in c.args.self.now) e c.args.i c.args.r _ _ _ _ c.requires.0 c.requires.1 (to_z-of_z w64 _ f) (to_z-of_z w64 _ g) c.from.ensures c.worth.ensures
