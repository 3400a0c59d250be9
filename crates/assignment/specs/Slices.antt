-- The slices of work, as the code lends them: what stands between two rounds, and the tree of a round. Assumes nothing: these are definitions.
use Rattle.std.specs.Prelude.{◌≡◌, ℕ, length}
use Rattle.assignment.specs.declared.slices.Rooms.{Rooms as RoomSlices}
use Rattle.assignment.specs.declared.slices.Standing.{Standing}
use Rattle.assignment.specs.declared.slices.Tree.{Tree as TreeSlices}
use Rattle.assignment.specs.Search.{at, Tree, tree}
use Rattle.assignment.specs.Run.{Rooms, held, State}
use Rattle.assignment.specs.Between.{Held}

abbrev pub rooms_of : RoomSlices → Rooms
rooms_of x = held x.room.now x.holder.now

-- Everybody of n holds one room.
pub record Holding (n : ℕ) (x : RoomSlices) : Type 0 where
  pub held : Held n (at x.room.now) (at x.holder.now)
  pub long : length x.room.now ≡ n

abbrev pub state_of : Standing → State
state_of x = record { persons = x.persons.now; prices = x.prices.now; rooms = rooms_of x.rooms }

-- The tree that ends at a room, whose turn counts who joined.
abbrev pub tree_at : ℕ → TreeSlices → Tree
tree_at last x = tree last (at x.turn.now last) x.distance.now x.parent.now x.turn.now
