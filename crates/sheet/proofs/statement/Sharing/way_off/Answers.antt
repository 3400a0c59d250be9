use Rattle.std.proofs.Common.{◌∙◌, SFits}
use lib.Signed.{lt_z}
use mir.Syntax.{w128}
use Rattle.std.proofs.lemmas.Int.{to_z-of_z}
use Rattle.sheet.proofs.statement.Sharing.way_off.Goals as goal

pub returns : goal.returns
returns c =
    let f : SFits w128 c.length.result = record { sfits = c.length.type_inv } in
    let g : SFits w128 c.reach.result = record { sfits = c.reach.type_inv } in
    λ j. lt_z ((to_z-of_z w128 _ f ∙ c.length.ensures.value) j) ((to_z-of_z w128 _ g ∙ c.reach.ensures) j)
