-- The bytes of a group: which are taken, as which house, and which are refused, with a number and a place. Assumes nothing: these are definitions.
use Rattle.std.specs.Prelude.{◌≡◌, ℕ, ◌+◌, ◌-◌, ◌*◌, ◌<◌, ◌≤◌, Bool, true, false, cond, ◌||◌, ltb, List, [], ◌∷◌, ◌++◌, map, length, take, drop, replicate, ◌==◌, nat_lt, slice_index, slice_index_or}
use Rattle.std.specs.List.{range_with_len, flat_map}
use Rattle.rooms.specs.Bytes.{low_bytes, from_bytes}
use Rattle.rooms.specs.First.{first}
use Rattle.rooms.specs.House.{House, worth_at}

-- At most so many people, and at most so many cents of rent and of a worth.
abbrev pub most_people : ℕ
most_people = 24

abbrev pub most_rent : ℕ
most_rent = 24000000

abbrev pub most_worth : ℕ
most_worth = 1000000

-- A house within these bounds, with as many worths as it has people and rooms.
pub record Allowed (h : House) : Type 0 where
  pub some : 0 < h.n
  pub few : h.n ≤ most_people
  pub rent : h.rent ≤ most_rent
  pub rows : length h.worth ≡ h.n
  pub row : (i : ℕ) → i < h.n → length (slice_index_or h.worth i []) ≡ h.n
  pub small : (i r : ℕ) → worth_at h i r ≤ most_worth

-- A number as four bytes, and the number that the four bytes from a place on are.
abbrev pub word_bytes : ℕ → List ℕ
word_bytes x = low_bytes 4 x

unfoldable pub word : List ℕ → ℕ → ℕ
word s k = from_bytes (take 4 (drop k s))

-- The bytes of a house: one for the people, four for the rent, and four for each worth, person by person and for each the rooms in order.
abbrev pub bytes_of : House → List ℕ
bytes_of h = h.n ∷ (word_bytes h.rent ++ flat_map (λ row. flat_map word_bytes row) h.worth)

-- How long a group of n is, and where its worth number k stands.
abbrev pub group_length : ℕ → ℕ
group_length n = 5 + 4 * (n * n)

abbrev pub worth_place : ℕ → ℕ
worth_place k = 5 + 4 * k

-- The people that the bytes speak of, and the worth number k.
abbrev pub people : List ℕ → ℕ
people s = slice_index s 0

unfoldable pub worth_word : List ℕ → ℕ → ℕ
worth_word s k = word s (worth_place k)

-- The house that the bytes speak of.
unfoldable pub house_of : List ℕ → House
house_of s = record {
  n = people s;
  worth = map (λ i. map (λ r. worth_word s (i * people s + r)) (range_with_len 0 (people s))) (range_with_len 0 (people s));
  rent = word s 1;
}

-- What person i's n worths are, written into an array of the most people: nothing past n.
abbrev pub row_of : House → ℕ → List ℕ
row_of h i = slice_index_or h.worth i [] ++ replicate (most_people - h.n) 0

-- What bytes are read as: a house, or a refusal by its number and place.
pub data Reading : Type 0 where
  taken : House → Reading
  refused : ℕ × ℕ → Reading

abbrev pub is_taken : Reading → Bool
is_taken (taken h) = true
is_taken (refused at) = false

-- The first worth above the bound; n * n where there is none.
unfoldable pub first_large : List ℕ → ℕ → ℕ
first_large s n = first (λ k. ltb most_worth (worth_word s k)) (n * n)

-- The bytes are looked at in this order: is there a first byte; are the people 1 to 24; is the length right; the rent; the worths from front to back.
unfoldable pub read : List ℕ → Reading
read s =
    cond (length s == 0) (refused (1, 0))
    (cond (people s == 0 || nat_lt most_people (people s)) (refused (2, 0))
    (cond (nat_lt (length s) (group_length (people s))) (refused (1, length s))
    (cond (nat_lt (group_length (people s)) (length s)) (refused (1, group_length (people s)))
    (cond (nat_lt most_rent (word s 1)) (refused (3, 1))
    (cond (nat_lt (first_large s (people s)) (people s * people s)) (refused (4, worth_place (first_large s (people s))))
    (taken (house_of s)))))))
