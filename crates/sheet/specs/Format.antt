-- The bytes of a sheet, low byte first: what they say, and how it is written. Assumes nothing: these are definitions.
use Rattle.std.specs.Prelude.{ℕ, ◌+◌, ◌*◌, List, ◌∷◌, ◌++◌, map, ℤ, slice_index}
use Rattle.std.specs.Int.{w64}
use Rattle.std.proofs.Common.{of_z, to_z}
use Rattle.std.specs.List.{range_with_len, flat_map}
use Rattle.rooms.specs.Before.{prior}
use Rattle.rooms.specs.House.{room_of, rent_of}
use Rattle.rooms.specs.Rows.{number}
use Rattle.whole.specs.Bytes.{bytes_of, number_at}
use Rattle.rents.specs.Shown.{Claim}

-- What a sheet says: a claim, and the rent of each room in whole cents.
pub record Sheet : Type 0 where
  pub claim : Claim
  pub cents : List ℤ

-- How long a sheet for n people is: ten bytes for each person, sixteen for each room, and eight more for each person and each room.
abbrev pub sheet_length : ℕ → ℕ
sheet_length n = 42 * n

-- A signed number as eight bytes, in two's complement, and the one that stands at a place.
abbrev pub signed_bytes : ℤ → List ℕ
signed_bytes x = bytes_of (of_z w64 x)

abbrev pub signed_at : List ℕ → ℕ → ℤ
signed_at s at = to_z w64 (number_at s at)

-- The bytes of a sheet for n people. For each person: the room, the person before, and the length of the longest row. Then for each room: n times its
-- rent, and its cents. Then the numbers for the joint worth: one for each person, and one for each room.
abbrev pub person_bytes : Claim → ℕ → List ℕ
person_bytes c i = room_of c.room i ∷ (prior c.before i ∷ signed_bytes (number c.d i))

abbrev pub room_bytes : Sheet → ℕ → List ℕ
room_bytes s r = signed_bytes (rent_of s.claim.rents r) ++ signed_bytes (number s.cents r)

unfoldable pub sheet_bytes : ℕ → Sheet → List ℕ
sheet_bytes n s =
    flat_map (person_bytes s.claim) (range_with_len 0 n)
    ++ (flat_map (room_bytes s) (range_with_len 0 n)
    ++ (flat_map (λ i. signed_bytes (number s.claim.persons i)) (range_with_len 0 n) ++ flat_map (λ r. signed_bytes (number s.claim.rooms r)) (range_with_len 0 n)))

-- n entries, each as it is read at a place, from a place on, each a step after the last; and of these n bytes, or n signed numbers.
abbrev pub column_of : {X : Type 0} → (List ℕ → ℕ → X) → List ℕ → ℕ → ℕ → ℕ → List X
column_of read s at step n = map (λ k. read s (at + step * k)) (range_with_len 0 n)

abbrev pub byte_column : List ℕ → ℕ → ℕ → ℕ → List ℕ
byte_column = column_of (λ s at. slice_index s at)

abbrev pub column : List ℕ → ℕ → ℕ → ℕ → List ℤ
column = column_of signed_at

-- What the bytes of a sheet for n people say.
unfoldable pub sheet_of : ℕ → List ℕ → Sheet
sheet_of n s = record {
  claim = record {
    room = byte_column s 0 10 n;
    before = byte_column s 1 10 n;
    d = column s 2 10 n;
    rents = column s (10 * n) 16 n;
    persons = column s (26 * n) 8 n;
    rooms = column s (34 * n) 8 n;
  };
  cents = column s (10 * n + 8) 16 n;
}
