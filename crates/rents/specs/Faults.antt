-- Where a claim is at fault: a test for each condition and each place, true where the claim fails there, and the test of the whole claim. Assumes
-- nothing: these are definitions and a statement.
use Rattle.std.specs.Prelude.{ℕ, Bool, cond, not, ◌&&◌, ◌||◌, length, ℤ, pos, ◌+ℤ◌, Decides, ◌==◌, int_lt, nat_eq, nat_le, nat_lt}
use Rattle.rooms.specs.House.{House, rent_of, room_of, value}
use Rattle.rooms.specs.Rows.{number, way}
use Rattle.rooms.specs.Before.{nobody, on_circle, prior}
use Rattle.rooms.specs.First.{some}
use Rattle.rents.specs.Rents.{due, whose}
use Rattle.rents.specs.Shown.{Claim, Shown}

-- Two numbers are not the same.
abbrev pub differs : ℤ → ℤ → Bool
differs a b = int_lt a b || int_lt b a

-- Person i has no room, or an earlier person's.
abbrev pub room_fault : House → Claim → ℕ → Bool
room_fault h c i = not (nat_lt (room_of c.room i) h.n) || some (λ k. nat_eq (room_of c.room k) (room_of c.room i)) i

-- The numbers of person i and room r add up to less than the worth, or to more where the room is the person's own.
abbrev pub number_fault : House → Claim → ℕ → ℕ → Bool
number_fault h c i r =
    int_lt (number c.persons i +ℤ number c.rooms r) (value h i r)
    || (room_of c.room i == r && int_lt (value h i r) (number c.persons i +ℤ number c.rooms r))

-- The length at person i is below nothing; or it is not 0 with nobody before; or nobody of the n stands before; or it is not that of the person before
-- and the way from there.
abbrev pub length_fault : House → Claim → ℕ → Bool
length_fault h c i =
    int_lt (number c.d i) (pos 0)
    || cond (prior c.before i == nobody) (differs (number c.d i) (pos 0))
    (not (nat_lt (prior c.before i) h.n) || differs (number c.d i) (number c.d (prior c.before i) +ℤ way h c.room (prior c.before i) i))

-- The way from k to i leads to more.
abbrev pub way_fault : House → Claim → ℕ → ℕ → Bool
way_fault h c k i = int_lt (number c.d i) (number c.d k +ℤ way h c.room k i)

-- The rent of room r is not what the person whose it is pays.
abbrev pub rent_fault : House → Claim → ℕ → Bool
rent_fault h c r = differs (rent_of c.rents r) (due h c.room c.d (whose h c.room r))

-- Something is claimed of everybody and every room.
abbrev pub whole : House → Claim → Bool
whole h c =
    nat_le h.n (length c.room) && nat_le h.n (length c.before) && nat_le h.n (length c.d) && nat_le h.n (length c.rents)
    && nat_le h.n (length c.persons) && nat_le h.n (length c.rooms)

-- No test is true anywhere, and nobody stands on a circle of persons before.
abbrev pub shows : House → Claim → Bool
shows h c =
    whole h c && not (some (room_fault h c) h.n) && not (some (λ i. some (number_fault h c i) h.n) h.n) && not (some (length_fault h c) h.n)
    && not (some (on_circle c.before h.n) h.n) && not (some (λ k. some (way_fault h c k) h.n) h.n) && not (some (rent_fault h c) h.n)

-- Just the claims with no fault are shown.
abbrev pub ShowsDecides : Type 0
ShowsDecides = (h : House) (c : Claim) → Decides (shows h c) (Shown h c)
