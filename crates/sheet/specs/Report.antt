-- What is printed of a share, line by line. Assumes nothing: these are definitions.
use Rattle.std.specs.Prelude.{ℕ, ◌+◌, cond, ◌||◌, List, ◌++◌, length, ℤ, Some, None, codes, decimal, Option, nat_le, nat_lt, slice_index}
use Rattle.std.specs.Int.{w64}
use Rattle.std.proofs.Common.{to_z}
use Rattle.std.specs.Fmt.{signed_decimal}
use Rattle.rooms.specs.Format.{most_people}
use Rattle.sheet.specs.declared.report.PersonLine.{PersonLine}

-- "joint 150": the joint worth.
abbrev pub joint_text : ℤ → List ℕ
joint_text worth = codes "joint " ++ signed_decimal worth

-- "person 0 room 1 pays 45": a person, their room and its cents.
abbrev pub person_text : ℕ → ℕ → ℤ → List ℕ
person_text person room pays = codes "person " ++ (decimal person ++ (codes " room " ++ (decimal room ++ (codes " pays " ++ signed_decimal pays))))

-- "least 50 of 2": n times the least gain, and n.
abbrev pub least_text : ℤ → ℕ → List ℕ
least_text least people = codes "least " ++ (signed_decimal least ++ (codes " of " ++ decimal people))

-- The line of person i, by what share has left in rooms and rents for n people: their room, and the cents of that room, which stand n places after its
-- exact rent. There is none where the slices are too short.
abbrev pub line_of : List ℕ → List ℕ → ℕ → ℕ → Option PersonLine
line_of rooms rents n i =
    cond (nat_lt most_people n || nat_le (length rooms) i) None
    (cond (nat_le (length rents) (n + slice_index rooms i)) None
    (Some (record { person = i; room = slice_index rooms i; pays = to_z w64 (slice_index rents (n + slice_index rooms i)) })))
