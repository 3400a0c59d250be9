-- What is handed over to be written on a sheet, as lists of naturals. Assumes nothing: these are definitions.
use Rattle.std.specs.Prelude.{ℕ, ◌+◌, List, ◌∷◌, ◌++◌, map, take, drop, slice_index}
use Rattle.std.specs.Int.{w64}
use Rattle.std.proofs.Common.{to_z}
use Rattle.rooms.specs.Before.{prior}
use Rattle.rooms.specs.House.{room_of}
use Rattle.rooms.specs.Rows.{signed}
use Rattle.whole.specs.Bytes.{bytes_of}
use Rattle.sheet.specs.Format.{Sheet}

-- The sheet for n people that is meant: of the rooms the first n; of the rents, which are the bits of signed numbers, the first n, and the next n as
-- cents; all others as they are.
abbrev pub handed : (n : ℕ) (rooms before d rents persons prices : List ℕ) → Sheet
handed n rooms before d rents persons prices = record {
  claim = record {
    room = take n rooms;
    before = before;
    d = signed d;
    rents = map (to_z w64) (take n rents);
    persons = signed persons;
    rooms = signed prices;
  };
  cents = map (to_z w64) (take n (drop n rents));
}

-- The bytes that are written for person i, for room r, and for a number.
abbrev pub person_part : (rooms before d : List ℕ) → ℕ → List ℕ
person_part rooms before d i = room_of rooms i ∷ (prior before i ∷ bytes_of (slice_index d i))

abbrev pub room_part : ℕ → List ℕ → ℕ → List ℕ
room_part n rents r = bytes_of (slice_index rents r) ++ bytes_of (slice_index rents (n + r))

abbrev pub number_part : List ℕ → ℕ → List ℕ
number_part xs i = bytes_of (slice_index xs i)
