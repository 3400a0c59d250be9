-- What is seen of rows that end at each person, as lists. Assumes nothing: these are definitions.
use Rattle.std.specs.Prelude.{ℕ, List, map, unwrap_or}
use Rattle.rooms.specs.Before.{nobody}
use Rattle.longest.specs.Run.{Offers, offers, State, state}
use Rattle.longest.specs.declared.Row.{Row}

-- What the rows leave of each person's number.
abbrev pub lefts : List Row → List ℕ
lefts rows = map (λ row. row.left) rows

-- Who stands before each person.
abbrev pub befores : List Row → List ℕ
befores rows = map (λ row. unwrap_or row.before nobody) rows

-- Rows that are offered.
abbrev pub offered : List Row → Offers
offered rows = offers (lefts rows) (befores rows)

-- Where the search stands, by its rows, those that are offered and how many rounds there were.
abbrev pub standing : (rows others : List Row) → ℕ → State
standing rows others rounds = state (lefts rows) (befores rows) (offered others) rounds
