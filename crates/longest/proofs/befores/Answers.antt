use Rattle.std.proofs.Common.{◌-◌, ◌++◌, replicate, ap, ◌∙◌, arith}
use Rattle.rooms.specs.Format.{most_people}
use Rattle.rooms.specs.Before.{nobody}
use Rattle.longest.specs.View.{befores}
use Rattle.longest.proofs.Padded.{padded_list}
use Rattle.longest.proofs.Views.{befores_long}
use Rattle.longest.proofs.befores.Goals as goal

pub returns : goal.returns
returns c =
    let rows = c.args.rows.now in
    let long = befores_long rows in
    padded_list c.loop-i.before (befores rows) most_people nobody (omega arith) c.loop-i.invariant.0
    (λ j h. c.loop-i.invariant.1 j (omega arith)) (λ j h. c.loop-i.invariant.2 j (omega arith))
    ∙ ap (λ k. befores rows ++ replicate (most_people - k) nobody) long
