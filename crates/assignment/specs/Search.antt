-- How a round searches, step by step: from one person, by the nearest room each time, to a room that nobody placed holds. (The shortest paths of the
-- Hungarian method; what comes of it is said in Promise.) Assumes nothing: these are definitions.
use Rattle.std.specs.Prelude.{ℕ, zero, suc, ◌+◌, ◌-◌, ◌*◌, Bool, cond, ◌&&◌, ◌||◌, List, ◌++◌, map, take, drop, ◌==◌, nat_le, nat_lt, slice_index, slice_set}
use Rattle.std.specs.List.{range_with_len}

-- What stands at place k of a list; nothing past its end.
abbrev pub at : List ℕ → ℕ → ℕ
at xs k = slice_index xs k

-- The list of f 0, f 1, .., f (n − 1).
abbrev pub list_of : (ℕ → ℕ) → ℕ → List ℕ
list_of f n = map f (range_with_len 0 n)

-- How far room r is by way of person i, who joins at distance d: d, and what the numbers of i and of r are together above the worth W.
abbrev pub offer_of : (ℕ → ℕ → ℕ) → (u v : ℕ → ℕ) → ℕ → ℕ → ℕ → ℕ
offer_of W u v i d r = d + u i + v r - W i r

-- Person i's row: what i offers for every room.
abbrev pub offers : (ℕ → ℕ → ℕ) → ℕ → (u v : List ℕ) → ℕ → ℕ → List ℕ
offers W n u v i d = list_of (offer_of W (at u) (at v) i d) n

-- The rows of all persons, with another row for person i.
abbrev pub with_row : ℕ → ℕ → (rows row : List ℕ) → List ℕ
with_row n i rows row = take (i * n) rows ++ (row ++ drop (i * n + n) rows)

-- The distances after a row of offers, which were b before: an offer is taken where it is lower. Where it is as low the earlier one stays.
abbrev pub nearer : ℕ → (row b : List ℕ) → List ℕ
nearer n row b = list_of (λ r. cond (nat_lt (at row r) (at b r)) (at row r) (at b r)) n

-- By way of whom each room is nearest (its parent): person i where i's offer is taken.
abbrev pub parents : ℕ → ℕ → (row b f : List ℕ) → List ℕ
parents n i row b f = list_of (λ r. cond (nat_lt (at row r) (at b r)) i (at f r)) n

-- Whether room k, at distance b k, is to be taken rather than room a, which is n where there is none yet: k is not reached, and is nearer.
abbrev pub is_closer : ℕ → (b s : ℕ → ℕ) → ℕ → ℕ → Bool
is_closer n b s k a = s k == 0 && (a == n || nat_lt (b k) (b a))

-- The nearest of the first k rooms that is not reached, of several as near the lowest; n where there is none. (s is 0 at rooms not reached.)
unfoldable pub nearest_of : ℕ → (b s : ℕ → ℕ) → ℕ → ℕ
nearest_of n b s zero = n
nearest_of n b s (suc k) = cond (is_closer n b s k (nearest_of n b s k)) k (nearest_of n b s k)

-- Where a search ends: the room that nobody placed holds, how many persons joined, and for each room its distance, its parent and its turn, which is
-- 0 where it is not reached.
pub record Tree : Type 0 where
  pub last : ℕ
  pub joined : ℕ
  pub distances : List ℕ
  pub parent : List ℕ
  pub turns : List ℕ

abbrev pub tree : ℕ → ℕ → List ℕ → List ℕ → List ℕ → Tree
tree m k b f s = record { last = m; joined = k; distances = b; parent = f; turns = s }

-- The search from turn k on, with t turns to go: the nearest room m is reached; if its holder is not placed (below p) that is the end, else the holder
-- joins at m's distance and looks at every room.
unfoldable pub grow_from : (ℕ → ℕ → ℕ) → ℕ → ℕ → (u v holder : List ℕ) → ℕ → (b f s : List ℕ) → ℕ → Tree
grow_from W n p u v holder zero b f s k = tree n k b f s
grow_from W n p u v holder (suc t) b f s k =
    let m : ℕ = nearest_of n (at b) (at s) n in
    let row : List ℕ = offers W n u v (at holder m) (at b m) in
    cond (nat_le p (at holder m))
    (tree m (k + 1) b f (slice_set s m (k + 1)))
    (grow_from W n p u v holder t (nearer n row b) (parents n (at holder m) row b f) (slice_set s m (k + 1)) (k + 1))

-- The search of round p: person p joins first, at distance 0.
unfoldable pub tree_of : (ℕ → ℕ → ℕ) → ℕ → ℕ → (u v holder : List ℕ) → Tree
tree_of W n p u v holder = grow_from W n p u v holder n (offers W n u v p 0) (list_of (λ _. p) n) (list_of (λ _. 0) n) 0
