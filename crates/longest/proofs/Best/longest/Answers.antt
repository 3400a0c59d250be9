use Rattle.std.proofs.Common.{◌≡◌, length, arith, rules}
use Rattle.rooms.specs.Format.{most_people, house_of}
use Rattle.longest.specs.Run.{slack}
use Rattle.longest.proofs.Lines.{Filled}
use Rattle.longest.proofs.Outcome.{within, found}
use Rattle.longest.proofs.Best.longest.Goals as goal
use Rattle.longest.proofs.Best.longest.Goals.{After-search-rounds}

filled : (c : After-search-rounds) → let b = c.args.self.now in
    Filled c.count-n.result (slack (house_of b.group.bytes.now) b.rooms.now b.persons b.prices) c.count-n.result c.write_table.new.table
filled c = rw c.count-n.ensures.people c.write_table.ensures

pub lengths-requires : goal.lengths-requires
lengths-requires c =
    let s = (goal.at.lengths-requires c).After-search-rounds in
    let n = c.count-n.result in
    let p = c.count-n.ensures in
    let fits : length c.args.self.now.persons ≡ most_people = search rules in
    let wide : length c.search-rounds.new.rows ≡ n = search rules in (
      omega (arith, p.allowed.few),
      λ i h. within _ _ _ _ c.args.self.now.solved n p.people c.write_table.new.table (filled s) _ _ _ _ c.stand_alone.ensures.left c.search-rounds.ensures
          (omega (arith, p.allowed.some)) (omega (arith, p.allowed.few)) (omega (arith, p.allowed.few)) i (omega arith),
    )

pub returns : goal.returns
returns c =
    let s = (goal.at.returns c).After-search-rounds in
    let n = c.count-n.result in
    let p = c.count-n.ensures in
    let wide : length c.search-rounds.new.rows ≡ n = search rules in
    found _ _ _ _ c.args.self.now.solved n p.people c.write_table.new.table (filled s) _ _ _ _ c.stand_alone.ensures.left c.search-rounds.ensures
    _ _ (rw wide at c.lengths.ensures) (rw wide at c.befores.ensures)
