use Rattle.std.proofs.Common.{refl, arith}
use Rattle.rooms.specs.Before.{nobody}
use Rattle.assignment.specs.Search.{at}
use Rattle.longest.specs.View.{lefts, befores}
use Rattle.longest.proofs.Passing.{put_step}
use Rattle.longest.proofs.Views.{lefts_set, befores_set, lefts_long, befores_long}
use Rattle.longest.proofs.stand_alone.Goals as goal

pub loop-i-preserved : goal.loop-i-preserved
loop-i-preserved c =
    let rows = c.loop-i.rows in
    let wide = lefts_long rows in
    let whence = befores_long rows in
    rw (lefts_set, befores_set) (
      put_step (at c.args.numbers.now) (lefts rows) c.loop-i.i _ (omega arith) refl c.loop-i.invariant.0,
      put_step (λ j. nobody) (befores rows) c.loop-i.i _ (omega arith) refl c.loop-i.invariant.1,
    )
