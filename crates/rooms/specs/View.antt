-- What is seen of a group: the house that its bytes speak of. Assumes nothing: these are definitions.
use Rattle.std.specs.Prelude.{◌≡◌, List, ℕ, Result, MatchResult}
use Rattle.rooms.specs.Format.{house_of, read, taken, refused}
use Rattle.rooms.specs.House.{House}
use Rattle.rooms.specs.Refused.{number_of, place_of}
use Rattle.rooms.specs.declared.refusal.Refusal.{Refusal}
use Rattle.rooms.specs.declared.group.Group.{Group}

abbrev pub house : Group → House
house group = house_of group.bytes.now

-- What bytes are read as: the group that has these bytes and is taken, or the refusal.
abbrev pub Reads : List ℕ → Result Group Refusal → Type 0
Reads bytes result =
    MatchResult result (λ group. (group.bytes.now ≡ bytes) × (read bytes ≡ taken (house group))) (λ e. read bytes ≡ refused (number_of e, place_of e))
