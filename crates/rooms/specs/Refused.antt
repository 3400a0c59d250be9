-- The number and the place of each refusal. Assumes nothing: these are definitions.
use Rattle.std.specs.Prelude.{ℕ, List, ◌++◌, codes, decimal}
use Rattle.rooms.specs.declared.refusal.Lent.{Lent}
use Rattle.rooms.specs.declared.refusal.Lent.TheVariants.{Rooms, Rents, Work, Sheet}
use Rattle.rooms.specs.declared.refusal.Refusal.{Refusal}
use Rattle.rooms.specs.declared.refusal.Refusal.TheVariants.{Length, People, Rent, Worth, Slice}

-- 1: the bytes end too early, at their length, or go on, at the first too many; 2: the people; 3: the rent; 4: a worth, at its first byte;
-- 5: a lent slice is too short, 0 to 3 for rooms, rents, work and sheet.
abbrev pub number_of : Refusal → ℕ
number_of (Length at) = 1
number_of People = 2
number_of Rent = 3
number_of (Worth at) = 4
number_of (Slice which) = 5

abbrev pub lent_place : Lent → ℕ
lent_place Rooms = 0
lent_place Rents = 1
lent_place Work = 2
lent_place Sheet = 3

abbrev pub place_of : Refusal → ℕ
place_of (Length at) = at
place_of People = 0
place_of Rent = 1
place_of (Worth at) = at
place_of (Slice which) = which

-- What is printed of a refusal: "refused 4 at 13".
abbrev pub refusal_text : ℕ → ℕ → List ℕ
refusal_text number place = codes "refused " ++ (decimal number ++ (codes " at " ++ decimal place))
