-- A share of each worked house, with the numbers that show it. Assumes nothing: these are definitions.
use Rattle.std.specs.Prelude.{ℕ, List, [], ◌∷◌, ℤ, negsuc}
use Rattle.rooms.specs.House.{House}
use Rattle.rooms.specs.Rows.{signed}
use Rattle.rooms.specs.Before.{nobody}
use Rattle.rents.specs.Shown.{Claim}
use Rattle.houses.specs.Houses.{house_a, house_b, house_c, house_d, house_e, house_f}

-- An entry of the table: a house, what is claimed of a share of it, and n times what each person gains by that share.
pub record Entry : Type 0 where
  pub house : House
  pub claim : Claim
  pub gains : List ℤ

-- In each share the rooms are left open: whichever of the best sharings is taken, the other numbers are the same.

-- A: the rents are 50000, 25000 and 15000. Person 1 likes person 2's room more than person 2 does, by 5000, and gains as much more.
abbrev pub share_a : List ℕ → Entry
share_a room = record {
  house = house_a;
  claim = record {
    room = room;
    before = nobody ∷ 2 ∷ nobody ∷ [];
    d = signed (0 ∷ 5000 ∷ 0 ∷ []);
    rents = signed (150000 ∷ 75000 ∷ 45000 ∷ []);
    persons = signed (10000 ∷ 15000 ∷ 10000 ∷ []);
    rooms = signed (50000 ∷ 25000 ∷ 15000 ∷ []);
  };
  gains = signed (30000 ∷ 45000 ∷ 30000 ∷ []);
}

-- B: each pays half of the rent, 7.5.
abbrev pub share_b : List ℕ → Entry
share_b room = record {
  house = house_b;
  claim = record {
    room = room;
    before = nobody ∷ nobody ∷ [];
    d = signed (0 ∷ 0 ∷ []);
    rents = signed (15 ∷ 15 ∷ []);
    persons = signed (10 ∷ 10 ∷ []);
    rooms = signed (0 ∷ 0 ∷ []);
  };
  gains = signed (5 ∷ 5 ∷ []);
}

-- C: each pays half of the rent, 25, and gains 75.
abbrev pub share_c : List ℕ → Entry
share_c room = record {
  house = house_c;
  claim = record {
    room = room;
    before = nobody ∷ nobody ∷ [];
    d = signed (0 ∷ 0 ∷ []);
    rents = signed (50 ∷ 50 ∷ []);
    persons = signed (0 ∷ 0 ∷ []);
    rooms = signed (100 ∷ 100 ∷ []);
  };
  gains = signed (150 ∷ 150 ∷ []);
}

-- D: person 1 pays 55 of 80 for room 0, person 0 pays 45 of 70 for room 1; room 0 at its rent would suit person 0 as well.
abbrev pub share_d : List ℕ → Entry
share_d room = record {
  house = house_d;
  claim = record {
    room = room;
    before = nobody ∷ nobody ∷ [];
    d = signed (0 ∷ 0 ∷ []);
    rents = signed (110 ∷ 90 ∷ []);
    persons = signed (70 ∷ 70 ∷ []);
    rooms = signed (10 ∷ 0 ∷ []);
  };
  gains = signed (50 ∷ 50 ∷ []);
}

-- E: the gain is below nothing, −4, which is written negsuc 3.
abbrev pub share_e : List ℕ → Entry
share_e room = record {
  house = house_e;
  claim = record {
    room = room;
    before = nobody ∷ [];
    d = signed (0 ∷ []);
    rents = signed (9 ∷ []);
    persons = signed (5 ∷ []);
    rooms = signed (0 ∷ []);
  };
  gains = negsuc 3 ∷ [];
}

-- F: the rents are 50, 10 and nothing: just what the rooms are worth, so that nobody gains.
abbrev pub share_f : List ℕ → Entry
share_f room = record {
  house = house_f;
  claim = record {
    room = room;
    before = nobody ∷ nobody ∷ nobody ∷ [];
    d = signed (0 ∷ 0 ∷ 0 ∷ []);
    rents = signed (150 ∷ 30 ∷ 0 ∷ []);
    persons = signed (0 ∷ 0 ∷ 0 ∷ []);
    rooms = signed (50 ∷ 10 ∷ 0 ∷ []);
  };
  gains = signed (0 ∷ 0 ∷ 0 ∷ []);
}
