-- The best sharing that is taken, the numbers that show it, and the count of looks, as functions of the house. Assumes nothing: these are definitions.
use Rattle.std.specs.Prelude.{ℕ, ◌+◌, ◌-◌, ◌*◌, List, ◌++◌, length, replicate}
use Rattle.rooms.specs.House.{House, worth_at}
use Rattle.rooms.specs.Format.{most_people, most_worth}
use Rattle.assignment.specs.Run.{State, after, looks_in, sum_of}

-- What stands after all rounds, where everybody begins with the number H.
unfoldable pub result : House → ℕ → State
result h H = after (worth_at h) h.n H h.n

-- The sharing that is taken: the room of each person. Of several best ones it is settled by the search: persons are placed in the order of their
-- numbers, and wherever two rooms or two offers are as good, the room of the lower number and the earlier offer are taken.
unfoldable pub sharing_of : House → List ℕ
sharing_of h = (result h most_worth).rooms.room

-- The number of each person, and of each room.
unfoldable pub persons_of : House → List ℕ
persons_of h = (result h most_worth).persons

unfoldable pub prices_of : House → List ℕ
prices_of h = (result h most_worth).prices

-- The looks of round p, in which person p is placed, where everybody begins with the number H: a look is one person at one room.
unfoldable pub looks_from : House → ℕ → ℕ → ℕ
looks_from h H p = looks_in (worth_at h) h.n p (after (worth_at h) h.n H p)

abbrev pub round_looks : House → ℕ → ℕ
round_looks h p = looks_from h most_worth p

-- The looks of all n rounds together.
unfoldable pub looks_of : House → ℕ
looks_of h = sum_of (round_looks h) h.n

-- A list as an array of the most people, 0 past its end.
abbrev pub array_of : List ℕ → List ℕ
array_of xs = xs ++ replicate (most_people - length xs) 0

-- How many numbers of work are wanted for n people: a row for each person, and seven lists.
abbrev pub work_for : ℕ → ℕ
work_for n = n * n + 7 * n
