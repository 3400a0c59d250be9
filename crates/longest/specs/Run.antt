-- How the search for the longest rows runs, step by step. Assumes nothing: these are definitions.
use Rattle.std.specs.Prelude.{◌≡◌, ℕ, zero, suc, ◌+◌, ◌-◌, ◌*◌, ◌<◌, ◌≤◌, Bool, cond, ◌&&◌, ◌||◌, List, map, length, take, replicate, ◌==◌, nat_lt, slice_set}
use Rattle.std.specs.List.{range_with_len}
use Rattle.rooms.specs.House.{House, worth_at, room_of}
use Rattle.rooms.specs.Format.{most_people, most_worth}
use Rattle.assignment.specs.Search.{at}
use Rattle.rooms.specs.Before.{nobody}

-- The slack of the way from k to i, by the numbers u of the persons and v of the rooms: what i's number and that of k's room have above what k's
-- room is worth to i. The way is u(i) − u(k) less its slack.
abbrev pub slack : House → (room u v : List ℕ) → ℕ → ℕ → ℕ
slack h room u v k i = at u i + at v (room_of room k) - worth_at h i (room_of room k)

-- A table with a line of n slacks for each person, of the ways to that person.
abbrev pub in_table : List ℕ → ℕ → ℕ → ℕ → ℕ
in_table table n k i = at table (i * n + k)

-- Such a table, of slacks that are no more than two of the greatest worth.
pub record Table (n : ℕ) (table : List ℕ) : Type 0 where
  pub few : n ≤ most_people
  pub size : length table ≡ n * n
  pub small : (k i : ℕ) → k < n → i < n → in_table table n k i ≤ 2 * most_worth

-- The best offers: for each person, the least that a row found so far would leave of their number with them at its end; and who would stand before
-- them.
pub record Offers : Type 0 where
  pub offer : List ℕ
  pub from : List ℕ

abbrev pub offers : List ℕ → List ℕ → Offers
offers o f = record { offer = o; from = f }

-- Everybody takes the row through person k, which leaves `rest` to k, where it leaves less than the best offer so far.
unfoldable pub through : (ℕ → ℕ → ℕ) → ℕ → ℕ → ℕ → Offers → Offers
through s n k rest o = offers
    (map (λ i. cond (nat_lt (rest + s k i) (at o.offer i)) (rest + s k i) (at o.offer i)) (range_with_len 0 n))
    (map (λ i. cond (nat_lt (rest + s k i) (at o.offer i)) k (at o.from i)) (range_with_len 0 n))

-- The first offers: everybody's own number, from nobody, and then the ways from persons 0 to k − 1, who are alone in their rows.
unfoldable pub first_offers : (ℕ → ℕ → ℕ) → ℕ → List ℕ → ℕ → Offers
first_offers s n u zero = offers (take n u) (replicate n nobody)
first_offers s n u (suc k) = through s n k (at u k) (first_offers s n u k)

-- Where the search stands: what the longest row so far leaves of each person's number u(i), that is u(i) − d(i); who stands before them in it; the
-- offers; and how many rounds there were.
pub record State : Type 0 where
  pub left : List ℕ
  pub before : List ℕ
  pub offered : Offers
  pub rounds : ℕ

abbrev pub state : (left before : List ℕ) → Offers → ℕ → State
state l b o m = record { left = l; before = b; offered = o; rounds = m }

-- Whether person k is to be taken rather than a: k's offer is below what k has left, and there is no a yet (it is n), or a's offer is above k's.
abbrev pub nearer : ℕ → (left offer : List ℕ) → ℕ → ℕ → Bool
nearer n left offer k a = nat_lt (at offer k) (at left k) && (a == n || nat_lt (at offer k) (at offer a))

-- Of the persons below k whose row an offer makes longer, the one with the least offer, the lowest number at ties; n where there is none.
unfoldable pub nearest : ℕ → (left offer : List ℕ) → ℕ → ℕ
nearest n left offer zero = n
nearest n left offer (suc k) = cond (nearer n left offer k (nearest n left offer k)) k (nearest n left offer k)

-- A round: person k takes the offer made, and everybody sees the rows through k.
unfoldable pub lengthened : (ℕ → ℕ → ℕ) → ℕ → ℕ → State → State
lengthened s n k x =
    let o : ℕ = at x.offered.offer k in
    state (slice_set x.left k o) (slice_set x.before k (at x.offered.from k)) (through s n k o x.offered) (x.rounds + 1)

-- At most t rounds, until nothing gets longer.
unfoldable pub run : (ℕ → ℕ → ℕ) → ℕ → ℕ → State → State
run s n zero x = x
run s n (suc t) x =
    let k : ℕ = nearest n x.left x.offered.offer n in
    cond (k == n) x (run s n t (lengthened s n k x))

-- Where it begins: everybody is alone in their row.
unfoldable pub start : (ℕ → ℕ → ℕ) → ℕ → List ℕ → State
start s n u = state (take n u) (replicate n nobody) (first_offers s n u n) 0

-- The whole search, of at most n rounds.
unfoldable pub whole_run : House → (room u v : List ℕ) → State
whole_run h room u v = run (slack h room u v) h.n h.n (start (slack h room u v) h.n u)
