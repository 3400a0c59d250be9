-- The six worked houses. Assumes nothing: these are definitions.
use Rattle.std.specs.Prelude.{[], ◌∷◌}
use Rattle.rooms.specs.House.{House}

-- A: all three like room 0 best and room 2 least; persons 1 and 2 may have rooms 1 and 2 either way.
abbrev pub house_a : House
house_a = record {
  n = 3;
  worth = (60000 ∷ 30000 ∷ 20000 ∷ []) ∷ (50000 ∷ 40000 ∷ 30000 ∷ []) ∷ (55000 ∷ 35000 ∷ 25000 ∷ []) ∷ [];
  rent = 90000;
}

-- B: two rooms that are alike to both, and an odd rent.
abbrev pub house_b : House
house_b = record { n = 2; worth = (10 ∷ 10 ∷ []) ∷ (10 ∷ 10 ∷ []) ∷ []; rent = 15 }

-- C: each likes a room of their own, and the other one not at all.
abbrev pub house_c : House
house_c = record { n = 2; worth = (100 ∷ 0 ∷ []) ∷ (0 ∷ 100 ∷ []) ∷ []; rent = 50 }

-- D: both like room 0 best, and as much; person 0 can do with room 1, person 1 hardly.
abbrev pub house_d : House
house_d = record { n = 2; worth = (80 ∷ 70 ∷ []) ∷ (80 ∷ 20 ∷ []) ∷ []; rent = 100 }

-- E: one who pays more than the room is worth to them.
abbrev pub house_e : House
house_e = record { n = 1; worth = (5 ∷ []) ∷ []; rent = 9 }

-- F: two of one mind, a third to whom no room is worth anything, and a rent that takes all.
abbrev pub house_f : House
house_f = record { n = 3; worth = (50 ∷ 10 ∷ 0 ∷ []) ∷ (50 ∷ 10 ∷ 0 ∷ []) ∷ (0 ∷ 0 ∷ 0 ∷ []) ∷ []; rent = 60 }
