-- The numbers computed are those of the definitions, and what is promised of them holds.
use Rattle.std.proofs.Common.{◌≡◌, ℕ, ◌<◌, ◌≤◌, List, ◌++◌, length, get_or, take, ℤ, pos, ◌+ℤ◌, ◌-ℤ◌, ◌*ℤ◌, sym, ap, ◌∙◌, lit<}
use Rattle.std.proofs.lemmas.List.FromFn.{length-map-range_with_len}
use Rattle.std.proofs.lemmas.List.{get_or-take, length-take-le}
use Rattle.rooms.proofs.Sum.{sum_same}
use Rattle.rooms.specs.House.{House, Housed, own_gain, room_of, sum, value, worth_at}
use Rattle.rooms.specs.Format.{Allowed, most_worth}
use Rattle.rooms.specs.Rows.{number, signed}
use Rattle.rents.specs.Rents.{Made, due, rents_of, spare, whose}
use Rattle.rents.specs.Answer.{Fair, Measured, Roundable, bits, held, most_due}
use Rattle.rents.proofs.Fair.{least_spare, made_fairest, rents_add_up, rents_exist}
use Rattle.rents.proofs.Sizes.{lengths_low, number_signed, rents_roundable}
use Rattle.rents.proofs.Writing.{held_front}

-- The lengths of the first n people are those of a list cut off after n.
pub lengths_are : (d : List ℕ) (n : ℕ) → n ≤ length d → sum (λ i. number (signed (take n d)) i) (length (take n d)) ≡ sum (λ i. number (signed d) i) n
lengths_are d n l =
    ap (sum (λ i. number (signed (take n d)) i)) (length-take-le n d l)
    ∙ sum_same _ _ n (λ i m. number_signed (take n d) i ∙ ap pos (get_or-take n d i 0 m) ∙ sym (number_signed d i))

-- What is computed for a person is what they pay.
pub due_is : (h : House) (room d : List ℕ) (i n w : ℕ) (z : ℤ) → w ≡ worth_at h i (room_of room i) → n ≡ h.n → z ≡ spare h room (signed d) →
    (pos w -ℤ pos (get_or d i 0)) *ℤ pos n -ℤ z ≡ due h room (signed d) i
unfolding value
due_is h room d i n w z a b e =
    ap (λ (x : ℕ). (pos x -ℤ pos (get_or d i 0)) *ℤ pos n -ℤ z) a
    ∙ ap (λ (x : ℤ). (pos (worth_at h i (room_of room i)) -ℤ x) *ℤ pos n -ℤ z) (sym (number_signed d i))
    ∙ ap (λ (x : ℕ). (pos (worth_at h i (room_of room i)) -ℤ number (signed d) i) *ℤ pos x -ℤ z) b
    ∙ ap (λ (x : ℤ). (pos (worth_at h i (room_of room i)) -ℤ number (signed d) i) *ℤ pos h.n -ℤ x) e

-- What is computed for a person is what they gain.
pub gain_is : (h : House) (room d : List ℕ) (i n : ℕ) (z : ℤ) → Housed h room → i < h.n → n ≡ h.n → z ≡ spare h room (signed d) →
    pos (get_or d i 0) *ℤ pos n +ℤ z ≡ own_gain h room h.n (rents_of h room (signed d)) i
gain_is h room d i n z housed l b e =
    ap (λ (x : ℤ). x *ℤ pos n +ℤ z) (sym (number_signed d i))
    ∙ ap (λ (x : ℕ). number (signed d) i *ℤ pos x +ℤ z) b
    ∙ ap (λ (x : ℤ). number (signed d) i *ℤ pos h.n +ℤ x) e
    ∙ sym ((rents_add_up h room (signed d) (rents_of h room (signed d)) housed (rents_exist h room (signed d) housed)).1 i l)

module _ (h : House) (room d : List ℕ) (a : Allowed h) (m : Measured h room d) where
  roundable : Roundable h.n h.rent (rents_of h room (signed d))
  roundable =
      rents_roundable h room (signed d) (rents_of h room (signed d)) a m.housed (lengths_low h d most_worth m.low) (rents_exist h room (signed d) m.housed)

  made : Made h room (signed d) (rents_of h room (signed d))
  made = record {
    someone = a.some;
    housed = m.housed;
    best = m.best;
    longest = m.longest;
    rents = rents_exist h room (signed d) m.housed;
  }

  -- The rents are small enough to be read back from their bits.
  pub held_rents : (after : List ℕ) → held h.n (bits (rents_of h room (signed d)) ++ after) ≡ rents_of h room (signed d)
  held_rents after =
      held_front most_due (rents_of h room (signed d)) after h.n (lit< tt)
      (length-map-range_with_len (λ r. due h room (signed d) (whose h room r)) 0 h.n) roundable.small

  pub fair_rents : Fair h room (signed d) (rents_of h room (signed d)) (spare h room (signed d))
  fair_rents = record {
    fairest = made_fairest h room (signed d) (rents_of h room (signed d)) made;
    poorest = λ j p. let q = (least_spare h room (signed d) (rents_of h room (signed d)) made).1 j p in (q.1, q.0);
    roundable = roundable;
  }
