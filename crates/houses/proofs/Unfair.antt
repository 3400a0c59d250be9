-- What looks fair and is not: the proofs, each by the house that shows it.
use Rattle.std.proofs.Common.{◌≡◌, ℕ, zero, suc, ◌<◌, ◌≤◌, ◌⊎◌, List, [], ◌∷◌, ℤ, pos, ◌-ℤ◌, ◌*ℤ◌, ◌≤ℤ◌, ◌<ℤ◌, sym, refl, ◌∙◌, inl, inr, arith}
use Rattle.std.proofs.lemmas.Int.{ints}
use Rattle.std.proofs.lemmas.Bool.{cases_eq}
use Rattle.rooms.specs.House.{House, Housed, Settled, gain, joint, own_gain, rent_of, room_of, sum, total, value, worth_at}
use Rattle.rooms.specs.Promise.{BestSharing, Fairest, Poorest}
use Rattle.rooms.proofs.Product.{times_le}
use Rattle.rooms.proofs.Sharing.{best, fairest_at_least, poorest, sum_gain}
use Rattle.houses.specs.Houses.{house_a, house_c, house_d}
use Rattle.houses.specs.Shares.{share_a}
use Rattle.houses.specs.Table.{Stands}
use Rattle.houses.specs.Unfair.{Another, EqualGains, EqualRents, InTurn, WorthsAsRents, other_rents}
use Rattle.houses.proofs.Tests.{low_true, settles_true, shared_true}
use Rattle.houses.proofs.Table.{houses_stand}

-- In D at equal rents both gain more by room 0 than by room 1.
room_0 : (d : ℕ) (ps : List ℤ) → 0 < d → rent_of ps 0 ≡ rent_of ps 1 → (i : ℕ) → i < 2 → gain house_d d ps i 1 <ℤ gain house_d d ps i 0
unfolding gain value
room_0 d ps p e zero l = omega (arith, ints)
room_0 d ps p e (suc zero) l = omega (arith, ints)
room_0 d ps p e (suc (suc i)) l = absurd (omega arith)

-- So both would have room 0.
pub equal_rents : EqualRents
equal_rents room d ps s e = omega (arith, s.housed.own 0 1 (omega arith) (omega arith) (have 0 (omega arith) ∙ sym (have 1 (omega arith))))
  where
    not_1 : (i : ℕ) → i < 2 → room_of room i ≡ 1 → ⊥
    not_1 i l f =
        let a : gain house_d d ps i 0 ≤ℤ gain house_d d ps i 1 = rw f at (s.content i 0 l (omega arith)) in
        let b = room_0 d ps s.scale e i l in
        omega (arith, ints)

    have : (i : ℕ) → i < 2 → room_of room i ≡ 0
    have i l =
        let a : room_of room i < 2 = s.housed.each i l in
        elim (cases_eq (room_of room i) 1) [ inl f ↦ absurd (not_1 i l f) | inr f ↦ omega arith ]

-- Two people have rooms 0 and 1, or 1 and 0.
two : (h : House) (room : List ℕ) → h.n ≡ 2 → Housed h room →
    ((room_of room 0 ≡ 0) × (room_of room 1 ≡ 1)) ⊎ ((room_of room 0 ≡ 1) × (room_of room 1 ≡ 0))
two h room n s =
    let a : room_of room 0 < h.n = s.each 0 (omega arith) in
    let b : room_of room 1 < h.n = s.each 1 (omega arith) in
    let c : room_of room 0 ≡ room_of room 1 → ⊥ = λ e. omega (arith, s.own 0 1 (omega arith) (omega arith) e) in
    elim (cases_eq (room_of room 0) 0) [ inl e ↦ inl (e, omega arith) | inr e ↦ inr (omega arith, omega arith) ]

-- In C the worths add up to 200 or to nothing, and the rent is 50.
liked : (d : ℕ) (ps : List ℤ) → 0 < d → gain house_c d ps 0 0 ≡ pos 0 → gain house_c d ps 1 1 ≡ pos 0 → total ps 2 ≡ pos 50 *ℤ pos d → ⊥
unfolding gain value sum
liked d ps p e f t = omega (arith, ints)

disliked : (d : ℕ) (ps : List ℤ) → 0 < d → gain house_c d ps 0 1 ≡ pos 0 → gain house_c d ps 1 0 ≡ pos 0 → total ps 2 ≡ pos 50 *ℤ pos d → ⊥
unfolding gain value sum
disliked d ps p e f t = omega (arith, ints)

pub worths_as_rents : WorthsAsRents
worths_as_rents room d ps p s g t =
    let a : gain house_c d ps 0 (room_of room 0) ≡ pos 0 = g 0 (omega arith) in
    let b : gain house_c d ps 1 (room_of room 1) ≡ pos 0 = g 1 (omega arith) in
    elim (two house_c room refl s) [
      | inl e ↦ liked d ps p (rw e.0 at a) (rw e.1 at b) t
      | inr e ↦ disliked d ps p (rw e.0 at a) (rw e.1 at b) t
    ]

-- The fairest share of A, from the table.
fair : Stands (share_a (0 ∷ 1 ∷ 2 ∷ []))
fair = houses_stand.1.0

three : (f : ℕ → ℤ) (g : ℤ) → ((i : ℕ) → i < 3 → f i ≡ g) → sum f 3 ≡ g *ℤ pos 3
unfolding sum
three f g h = omega (arith, ints, h 0 (omega arith), h 1 (omega arith), h 2 (omega arith))

joint_a : joint house_a (0 ∷ 1 ∷ 2 ∷ []) ≡ pos 125000
unfolding sum value
joint_a = refl

-- x is three times the gain, y the scaled joint worth, t the scaled rents.
too_much : (d : ℕ) (x y t : ℤ) → 0 < d → x ≡ y -ℤ t → t ≡ pos 90000 *ℤ pos d → (pos 125000 *ℤ pos d) ≤ℤ y → x ≤ℤ (pos 30000 *ℤ pos d) → ⊥
too_much d x y t p e f l m = omega (arith, ints)

-- The gains together are the joint worth less the rent, at least 35000; with 10000 for the one who has least, which is the most, equal ones would be
-- 30000 together.
pub equal_gains : EqualGains
equal_gains room d ps g s e =
    let a = (fairest_at_least house_a _ 3 _ fair.fairest).least room d ps g s (λ i l. omega (arith, ints, e i l)) 0 (omega arith) in
    let j = best house_a room d ps s _ fair.fairest.settled.housed in
    too_much d (g *ℤ pos 3) (joint house_a room *ℤ pos d) (total ps 3) s.scale
    (sym (three (λ i. own_gain house_a room d ps i) g e) ∙ sum_gain house_a room d ps s.housed)
    s.sums
    (times_le (pos 125000) (joint house_a room) d (rw joint_a at j))
    (rw (fair.gains 0 (omega arith)) at a)

other_settles : Settled house_a (0 ∷ 1 ∷ 2 ∷ []) 1 other_rents
unfolding gain sum value
other_settles = settles_true house_a (0 ∷ 1 ∷ 2 ∷ []) 1 other_rents refl

other_poorest : Poorest house_a (0 ∷ 1 ∷ 2 ∷ []) 1 other_rents 2
unfolding gain value
other_poorest = record { one = omega arith; least = low_true (λ i. own_gain house_a (0 ∷ 1 ∷ 2 ∷ []) 1 other_rents i) (pos 9000) 3 refl }

other_gains : own_gain house_a (0 ∷ 1 ∷ 2 ∷ []) 1 other_rents 2 ≡ pos 9000
unfolding gain value
other_gains = refl

fair_poorest : Poorest house_a (0 ∷ 1 ∷ 2 ∷ []) 3 (share_a (0 ∷ 1 ∷ 2 ∷ [])).claim.rents 0
unfolding gain value
fair_poorest = record { one = omega arith; least = low_true (λ i. own_gain house_a (0 ∷ 1 ∷ 2 ∷ []) 3 (share_a (0 ∷ 1 ∷ 2 ∷ [])).claim.rents i) (pos 30000) 3 refl }

more : (d : ℕ) (x : ℤ) → 0 < d → (pos 30000 *ℤ pos d) ≤ℤ (x *ℤ pos 3) → (pos 9000 *ℤ pos d) <ℤ x
more d x p l = omega (arith, ints)

-- The fairest share gives whoever has least no less than the table's does, 10000.
lower : (room : List ℕ) (d : ℕ) (ps : List ℤ) (j : ℕ) → Fairest house_a room d ps → Poorest house_a room d ps j →
    (pos 9000 *ℤ pos d) <ℤ own_gain house_a room d ps j
lower room d ps j f p =
    let a = f.least (0 ∷ 1 ∷ 2 ∷ []) 3 _ fair.fairest.settled 0 j fair_poorest p in
    more d (own_gain house_a room d ps j) f.settled.scale (rw (fair.gains 0 (omega arith)) at a)

-- By whatever room, person 2 gains at most 9000 at these rents; so whoever has least does not gain more.
unfair : (room : List ℕ) → Fairest house_a room 1 other_rents → ⊥
unfair room f =
    let j = poorest house_a room 1 other_rents (omega arith) in
    let a = lower room 1 other_rents j.0 f j.1 in
    let b = j.1.least 2 (omega arith) in
    let c = other_settles.content 2 (room_of room 2) (omega arith) (f.settled.housed.each 2 (omega arith)) in
    omega (arith, ints, other_gains)

pub another : Another
another = record { settled = other_settles; poorest = other_poorest; gains = other_gains; lower = lower; unfair = unfair }

-- Exchanging the rooms, the joint worth is 150 instead of 100.
turn_housed : Housed house_d (0 ∷ 1 ∷ [])
turn_housed = shared_true house_d (0 ∷ 1 ∷ []) refl

turn_first : (r : ℕ) → r < 2 → worth_at house_d 0 r ≤ worth_at house_d 0 0
turn_first zero l = omega arith
turn_first (suc zero) l = omega arith
turn_first (suc (suc r)) l = absurd (omega arith)

turn_worse : BestSharing house_d (0 ∷ 1 ∷ []) → ⊥
unfolding sum value
turn_worse b = let a = b (1 ∷ 0 ∷ []) (shared_true house_d (1 ∷ 0 ∷ []) refl) in omega (arith, ints)

pub in_turn : InTurn
in_turn = record {
  housed = turn_housed;
  first = turn_first;
  worse = turn_worse;
  unsettled = λ d ps s. turn_worse (best house_d (0 ∷ 1 ∷ []) d ps s);
}
