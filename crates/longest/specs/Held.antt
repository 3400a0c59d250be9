-- What a sharing and a table of slacks that are held stand for. Assumes nothing: these are definitions.
use Rattle.std.specs.Prelude.{ℕ}
use Rattle.rooms.specs.View.{house}
use Rattle.longest.specs.Run.{slack, in_table}
use Rattle.longest.specs.declared.Best.{Best}
use Rattle.longest.specs.declared.Ways.{Ways}

-- How many people share.
abbrev pub people : Best → ℕ
people best = (house best.group).n

-- The slack of the way from k to i, by the sharing and its numbers.
abbrev pub slack_by : Best → ℕ → ℕ → ℕ
slack_by best k i = slack (house best.group) best.rooms.now best.persons best.prices k i

-- The slacks that a table holds.
abbrev pub slack_in : Ways → ℕ → ℕ → ℕ
slack_in ways = in_table ways.slacks.now ways.n
