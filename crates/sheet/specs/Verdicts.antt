-- The number and the place of each verdict, and what verdicts mean. Assumes nothing: these are definitions and statements.
use Rattle.std.specs.Prelude.{◌≡◌, ◌+◌, ◌<◌}
use Rattle.sheet.specs.declared.verdict.Verdict.{Verdict}
use Rattle.sheet.specs.declared.verdict.Verdict.TheVariants.{Accepted, Group, Length, Rooms, Numbers, Rows, Way, Rent, Cents}
use Rattle.rooms.specs.Refused.{number_of, place_of}
use Rattle.sheet.specs.Judge.{Judgement, place}
use Rattle.sheet.specs.Judge.Judgement.{accepted, faulty}

abbrev pub meaning : Verdict → Judgement
meaning Accepted = accepted
meaning (Group e) = faulty (number_of e, place_of e)
meaning (Length at) = faulty (6, at)
meaning (Rooms person) = faulty (7, person)
meaning (Numbers person room) = faulty (8, place person room)
meaning (Rows person) = faulty (9, person)
meaning (Way from to) = faulty (10, place from to)
meaning (Rent room) = faulty (11, room)
meaning (Cents room) = faulty (11, room + 32)

-- The second part of a place is below 32, as all rooms and people are, so that a number and a place are those of one verdict alone.
abbrev pub Plain : Verdict → Type 0
Plain Accepted = Unit {0}
Plain (Group e) = Unit {0}
Plain (Length at) = Unit {0}
Plain (Rooms person) = Unit {0}
Plain (Numbers person room) = room < 32
Plain (Rows person) = Unit {0}
Plain (Way from to) = to < 32
Plain (Rent room) = room < 32
Plain (Cents room) = Unit {0}

-- Of plain verdicts, no two have the same number and place.
abbrev pub OneVerdict : Type 0
OneVerdict = (v w : Verdict) → Plain v → Plain w → meaning v ≡ meaning w → v ≡ w
