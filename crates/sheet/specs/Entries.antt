-- A sheet's entries, as they stand in arrays of the most people, and what they say of n people. Assumes nothing: these are definitions.
use Rattle.std.specs.Prelude.{◌≡◌, ℕ, ◌<◌, ◌⊎◌, List, take}
use Rattle.rooms.specs.Before.{nobody, prior}
use Rattle.rooms.specs.House.{House}
use Rattle.rents.specs.Shown.{Claim}
use Rattle.sheet.specs.declared.entries.Entries.{Entries}
use Rattle.sheet.specs.Format.{Sheet}

-- The first n of each column.
abbrev pub entered : ℕ → Entries → Sheet
entered n e = record {
  claim = record {
    room = take n e.room;
    before = take n e.before;
    d = take n e.d;
    rents = take n e.rents;
    persons = take n e.persons;
    rooms = take n e.rooms;
  };
  cents = take n e.cents;
}

-- What is claimed of a house by entries for its people.
abbrev pub claimed : House → Entries → Claim
claimed h e = (entered h.n e).claim

-- Before each of n people stands nobody, or one of them.
abbrev pub Linked : List ℕ → ℕ → Type 0
Linked before n = (i : ℕ) → i < n → (prior before i ≡ nobody) ⊎ (prior before i < n)
