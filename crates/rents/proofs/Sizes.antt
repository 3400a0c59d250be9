-- How large the rents and gains are, and that the rents leave one remainder by n.
use Rattle.std.proofs.Common.{◌≡◌, ℕ, zero, suc, ◌+◌, ◌*◌, ◌<◌, ◌≤◌, List, [], ◌∷◌, get_or, ℤ, pos, ◌+ℤ◌, ◌-ℤ◌, ◌*ℤ◌, neg_ℤ, sym, refl, ap, ◌∙◌, subst, add-one, arith}
use Rattle.std.proofs.lemmas.Nat.{mul-le}
use Rattle.std.proofs.lemmas.Int.{ints}
use Rattle.rooms.specs.House.{House, Housed, joint, own_gain, rent_of, room_of, sum, value, worth_at}
use Rattle.rooms.specs.Format.{Allowed, most_people, most_worth}
use Rattle.rooms.specs.Rows.{number, signed}
use Rattle.rooms.proofs.Sharing.{holder}
use Rattle.whole.specs.Bounds.{Within}
use Rattle.whole.specs.Floor.{rest}
use Rattle.whole.proofs.Bounds.{product_within, total_within, wider}
use Rattle.whole.proofs.Floors.{moved}
use Rattle.rents.specs.Rents.{Rents, due, spare}
use Rattle.rents.specs.Answer.{Lengths, RentsRoundable, RentsSmall, due_bound, most_due}
use Rattle.rents.proofs.Fair.{rents_add_up}

pub value_within : (h : House) (b : ℕ) → ((i r : ℕ) → worth_at h i r ≤ b) → (i r : ℕ) → Within b (value h i r)
unfolding value
value_within h b worths i r = let a = worths i r in record { low = omega (arith, ints); high = omega (arith, ints) }

module _ (h : House) (room : List ℕ) (d : List ℤ) (b : ℕ) (worths : (i r : ℕ) → worth_at h i r ≤ b) (lengths : Lengths h d b) where
  length_within : (i : ℕ) → i < h.n → Within b (number d i)
  length_within i l = let a = lengths i l in record { low = omega (arith, ints); high = omega (arith, ints) }

  -- Both are from nothing to b, so their difference is at most b above or below nothing.
  paid_within : (i : ℕ) → i < h.n → Within b (value h i (room_of room i) -ℤ number d i)
  unfolding value
  paid_within i l =
      let a = worths i (room_of room i) in
      let c = lengths i l in
      record { low = omega (arith, ints); high = omega (arith, ints) }

  joint_within : Within (b * h.n) (joint h room)
  joint_within = total_within b h.n (λ i. value h i (room_of room i)) h.n (omega arith) (λ i l. value_within h b worths i (room_of room i))

  sum_within : Within (b * h.n) (sum (λ i. number d i) h.n)
  sum_within = total_within b h.n (λ i. number d i) h.n (omega arith) length_within

  spare_within : Within (2 * (b * h.n) + h.rent) (spare h room d)
  unfolding spare
  spare_within =
      let j = joint_within in
      let s = sum_within in
      record { low = omega (arith, ints); high = omega (arith, ints) }

  -- n times a difference within b, less what is spare.
  due_within : (i : ℕ) → i < h.n → Within (due_bound h.n b h.rent) (due h room d i)
  due_within i l =
      let p = product_within b h.n (value h i (room_of room i) -ℤ number d i) h.n (paid_within i l) (omega arith) in
      let s = spare_within in
      record { low = omega (arith, ints); high = omega (arith, ints) }

  -- n times a length within b, and what is spare.
  gain_within : Housed h room → (ps : List ℤ) → Rents h room d ps → (i : ℕ) → i < h.n → Within (due_bound h.n b h.rent) (own_gain h room h.n ps i)
  gain_within housed ps rents i l =
      let p = product_within b h.n (number d i) h.n (length_within i l) (omega arith) in
      let s = spare_within in
      rw ((rents_add_up h room d ps housed rents).1 i l) (record { low = omega (arith, ints); high = omega (arith, ints) })

pub rents_small : RentsSmall
rents_small h room d b housed worths lengths = record {
  worths = joint_within h room d b worths lengths;
  lengths = sum_within h room d b worths lengths;
  left = spare_within h room d b worths lengths;
  dues = due_within h room d b worths lengths;
  gains = gain_within h room d b worths lengths housed;
}

-- In a group all bounds are at most those of the largest.
pub bound_most : (h : House) → Allowed h → due_bound h.n most_worth h.rent ≤ most_due
bound_most h a = omega (arith, mul-le most_worth h.n most_worth most_people (omega arith) a.few, a.rent)

-- What i pays, n times, is a multiple of n above what is spare turned below nothing.
even_due : (h : House) (room : List ℕ) (d : List ℤ) → 0 < h.n → (i : ℕ) → rest (due h room d i) h.n ≡ rest (neg_ℤ (spare h room d)) h.n
even_due h room d o i =
    let w = value h i (room_of room i) -ℤ number d i in
    let e : due h room d i ≡ neg_ℤ (spare h room d) +ℤ w *ℤ pos h.n = omega (arith, ints) in
    ap (λ x. rest x h.n) e ∙ (moved (neg_ℤ (spare h room d)) w h.n o).1

-- Each room is somebody's, who pays its rent.
pub even_rent : (h : House) (room : List ℕ) (d ps : List ℤ) → 0 < h.n → Housed h room → Rents h room d ps → (r : ℕ) → r < h.n →
    rest (rent_of ps r) h.n ≡ rest (neg_ℤ (spare h room d)) h.n
even_rent h room d ps o housed rents r l =
    let k = holder h room housed r l in
    let e : rent_of ps r ≡ due h room d k.0 = ap (λ q. rent_of ps q) (sym k.2) ∙ rents.each k.0 k.1 in
    ap (λ x. rest x h.n) e ∙ even_due h room d o k.0

pub rents_roundable : RentsRoundable
rents_roundable h room d ps allowed housed lengths rents = record {
  someone = allowed.some;
  few = allowed.few;
  sums = (rents_add_up h room d ps housed rents).0;
  even = λ q r l m.
      even_rent h room d ps allowed.some housed rents q l ∙ sym (even_rent h room d ps allowed.some housed rents r m);
  small = λ r l.
      let k = holder h room housed r l in
      let e : due h room d k.0 ≡ rent_of ps r = sym (rents.each k.0 k.1) ∙ ap (λ q. rent_of ps q) k.2 in
      let w = due_within h room d most_worth allowed.small lengths k.0 k.1 in
      subst (λ x. Within most_due x) e (wider (due_bound h.n most_worth h.rent) most_due (due h room d k.0) (bound_most h allowed) w);
}

-- A list of naturals as signed numbers, place by place.
pub number_signed : (d : List ℕ) (i : ℕ) → number (signed d) i ≡ pos (get_or d i 0)
number_signed [] i = refl
number_signed (x ∷ d) zero = refl
number_signed (x ∷ d) (suc i) = number_signed d i

pub lengths_low : (h : House) (d : List ℕ) (b : ℕ) → ((i : ℕ) → get_or d i 0 ≤ b) → Lengths h (signed d) b
lengths_low h d b low i l = let a = low i in let e = number_signed d i in (omega (arith, ints), omega (arith, ints))

-- The sums of the first i, as a loop has them.
pub worths_small : (h : House) (room : List ℕ) → Allowed h → (i : ℕ) → i ≤ h.n → Within (most_worth * most_people) (sum (λ i. value h i (room_of room i)) i)
worths_small h room a i l =
    total_within most_worth most_people (λ i. value h i (room_of room i)) i (let f = a.few in omega arith) (λ k m. value_within h most_worth a.small k (room_of room k))

pub lengths_small : (d : List ℕ) → ((i : ℕ) → get_or d i 0 ≤ most_worth) → (i : ℕ) → i ≤ most_people → Within (most_worth * most_people) (sum (λ i. number (signed d) i) i)
lengths_small d low i l =
    total_within most_worth most_people (λ i. number (signed d) i) i l
    (λ k m. let a = low k in let e = number_signed d k in record { low = omega (arith, ints); high = omega (arith, ints) })

pub sum_step : (f : ℕ → ℤ) (i : ℕ) (s x r : ℤ) → s ≡ sum f i → x ≡ f i → r ≡ s +ℤ x → r ≡ sum f (i + 1)
unfolding sum
sum_step f i s x r a b e = rw add-one (omega (arith, ints))

-- What is spare in a group.
pub spare_small : (h : House) (room d : List ℕ) → Allowed h → ((i : ℕ) → get_or d i 0 ≤ most_worth) → Within most_due (spare h room (signed d))
spare_small h room d a low =
    let w = spare_within h room (signed d) most_worth a.small (lengths_low h d most_worth low) in
    let b = bound_most h a in
    record { low = omega (arith, ints); high = omega (arith, ints) }
