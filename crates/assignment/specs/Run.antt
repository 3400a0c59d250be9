-- How the best sharing is found, round by round: the numbers are moved and rooms are handed on along the tree of each round. Assumes nothing: these
-- are definitions.
use Rattle.std.specs.Prelude.{ℕ, zero, suc, ◌+◌, ◌-◌, ◌*◌, cond, List, ◌==◌, nat_lt}
use Rattle.std.specs.List.{range_with_len, swap}
use Rattle.assignment.specs.Search.{at, list_of, Tree, tree_of}

-- The rooms' numbers after a round whose last room is at distance d: nearer rooms rise by what they are nearer.
abbrev pub raised : ℕ → ℕ → (b v : List ℕ) → List ℕ
raised n d b v = list_of (λ r. at v r + (d - at b r)) n

-- The persons' numbers: who is placed falls as their room rises, and person p by d.
abbrev pub lowered_at : ℕ → ℕ → (b room u : List ℕ) → ℕ → ℕ
lowered_at p d b room u i = cond (nat_lt i p) (at u i - (d - at b (at room i))) (cond (i == p) (at u i - d) (at u i))

abbrev pub lowered : ℕ → ℕ → ℕ → (b room u : List ℕ) → List ℕ
lowered n p d b room u = list_of (lowered_at p d b room u) n

-- Who holds which room, and who holds each room. Persons who are not placed yet hold rooms too.
pub record Rooms : Type 0 where
  pub room : List ℕ
  pub holder : List ℕ

abbrev pub held : List ℕ → List ℕ → Rooms
held room holder = record { room = room; holder = holder }

-- Persons a and b exchange rooms.
abbrev pub swapped : List ℕ → List ℕ → ℕ → ℕ → Rooms
swapped room holder a b = held (swap room a b) (swap holder (at room a) (at room b))

-- Person p exchanges rooms with the parent of the room that p holds, until that is p; at most t times.
unfoldable pub handed : ℕ → List ℕ → ℕ → Rooms → Rooms
handed p f zero x = x
handed p f (suc t) x =
    let i : ℕ = at f (at x.room p) in
    cond (i == p) x (handed p f t (swapped x.room x.holder p i))

-- What stands between two rounds: a number for each person and each room, and who holds which.
pub record State : Type 0 where
  pub persons : List ℕ
  pub prices : List ℕ
  pub rooms : Rooms

abbrev pub state : List ℕ → List ℕ → List ℕ → List ℕ → State
state u v room holder = record { persons = u; prices = v; rooms = held room holder }

-- The tree of round p.
abbrev pub round_tree : (ℕ → ℕ → ℕ) → ℕ → ℕ → State → Tree
round_tree W n p x = tree_of W n p x.persons x.prices x.rooms.holder

-- Round p: person p is placed.
unfoldable pub round_of : (ℕ → ℕ → ℕ) → ℕ → ℕ → State → State
round_of W n p x =
    let g : Tree = round_tree W n p x in
    let d : ℕ = at g.distances g.last in
    record {
      persons = lowered n p d g.distances x.rooms.room x.persons;
      prices = raised n d g.distances x.prices;
      rooms = handed p g.parent n (swapped x.rooms.room x.rooms.holder p (at x.rooms.holder g.last));
    }

-- The looks of round p: everybody who joins looks at every room.
unfoldable pub looks_in : (ℕ → ℕ → ℕ) → ℕ → ℕ → State → ℕ
looks_in W n p x = (round_tree W n p x).joined * n

-- Before the first round everybody's number is H, every room's is 0, and everybody holds the room of their own number.
abbrev pub beginning : ℕ → ℕ → State
beginning n H = state (list_of (λ _. H) n) (list_of (λ _. 0) n) (range_with_len 0 n) (range_with_len 0 n)

-- What stands after p rounds, of persons 0 to p − 1 in order.
unfoldable pub after : (ℕ → ℕ → ℕ) → ℕ → ℕ → ℕ → State
after W n H zero = beginning n H
after W n H (suc p) = round_of W n p (after W n H p)

-- f 0 + f 1 + .. + f (n − 1).
unfoldable pub sum_of : (ℕ → ℕ) → ℕ → ℕ
sum_of f zero = 0
sum_of f (suc n) = sum_of f n + f n

-- How many looks p rounds take.
abbrev pub looks_to : (ℕ → ℕ → ℕ) → ℕ → ℕ → ℕ → ℕ
looks_to W n H p = sum_of (λ q. looks_in W n q (after W n H q)) p
