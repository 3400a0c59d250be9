-- What the slices hold when share has laid its answer into them: lengths in arrays, numbers as bits, work that was cleaned twice.
use Rattle.std.proofs.Common.{◌≡◌, ℕ, ◌+◌, ◌-◌, ◌*◌, ◌<◌, ◌≤◌, Bool, true, false, cond, ltb, List, [], ◌++◌, map, length, get_or, take, drop, replicate, ℤ, pos, ◌-ℤ◌, ◌*ℤ◌, sym, refl, ap, ◌∙◌, subst, append_assoc, arith, w64, SFits, to_z, of_z}
use Rattle.std.specs.List.{range_with_len}
use Rattle.std.proofs.lemmas.List.FromFn.{length-map-range_with_len}
use Rattle.std.proofs.lemmas.List.{append-nil, drop-append-le, drop-drop, drop-replicate, get_or_append_left, get_or-append_right, get_or-map, length-map, length-replicate, replicate-append-replicate, take_at, drop_at}
use Rattle.std.proofs.lemmas.Int.{ints, to_z-of_z}
use Rattle.rooms.specs.Before.{nobody}
use Rattle.std.proofs.lemmas.Bool.{both_ways}
use Rattle.rooms.specs.Format.{Allowed, Reading, is_taken, most_people, most_worth}
use Rattle.rooms.specs.Format.Reading.{taken, refused}
use Rattle.rooms.specs.House.{House, joint, rent_of, room_of, sum, value}
use Rattle.rooms.specs.Rows.{Longest, number, signed}
use Rattle.rooms.proofs.Sharing.{certified_best}
use Rattle.assignment.specs.Answer.{array_of, persons_of, prices_of, sharing_of, work_for}
use Rattle.assignment.specs.Promise.{Solved}
use Rattle.assignment.proofs.Shown.{answered, answered_front}
use Rattle.longest.proofs.Padded.{padded_reads}
use Rattle.longest.proofs.Slacks.{number_signed}
use Rattle.rents.specs.Answer.{Measured, bits, held}
use Rattle.rents.specs.Rents.{rents_of, spare, whose}
use Rattle.whole.specs.Bits.{Signed64}
use Rattle.cents.specs.Cents.{cents_of}
use Rattle.sheet.specs.Format.{sheet_bytes, sheet_length}
use Rattle.sheet.specs.Write.{handed}
use Rattle.sheet.specs.Share.{fair_cents, fair_rents, lengths_of, lent_enough, priors_of, sheet_for}
use Rattle.sheet.proofs.Sheets.{handed_says}
use Rattle.sheet.proofs.Fairly.{cent_64, due_64, roundable, rents_long}

-- Zeros past the lengths change no number.
padded_number : (ds : List ℕ) (m i : ℕ) → number (signed (ds ++ replicate m 0)) i ≡ number (signed ds) i
padded_number ds m i = number_signed (ds ++ replicate m 0) i ∙ ap pos (padded_reads ds m 0 i) ∙ sym (number_signed ds i)

pub spare_padded : (h : House) (room ds : List ℕ) (m : ℕ) → spare h room (signed (ds ++ replicate m 0)) ≡ spare h room (signed ds)
unfolding spare
spare_padded h room ds m = λ j. (joint h room -ℤ pos h.rent) -ℤ sum (λ i. padded_number ds m i j) h.n

pub rents_padded : (h : House) (room ds : List ℕ) (m : ℕ) → rents_of h room (signed (ds ++ replicate m 0)) ≡ rents_of h room (signed ds)
rents_padded h room ds m = λ j.
    map (λ r. (value h (whose h room r) (room_of room (whose h room r)) -ℤ padded_number ds m (whose h room r) j) *ℤ pos h.n -ℤ spare_padded h room ds m j)
    (range_with_len 0 h.n)

-- Work that is all zero up to w stays so where a part of it is cleaned again.
pub clean_again : (m w : ℕ) (xs : List ℕ) → m ≤ w → replicate m 0 ++ drop m (replicate w 0 ++ xs) ≡ replicate w 0 ++ xs
clean_again m w xs l =
    let e : m + (w - m) ≡ w = omega arith in
    let k : m ≤ length (replicate w 0) = let a = length-replicate {A = ℕ} w 0 in omega arith in
    ap (λ ys. replicate m 0 ++ ys) (drop-append-le m (replicate w 0) xs k ∙ ap (λ ys. ys ++ xs) (drop-replicate m w 0))
    ∙ sym (append_assoc (replicate m 0) (replicate (w - m) 0) xs) ∙ ap (λ ys. ys ++ xs) (replicate-append-replicate m (w - m) 0 ∙ ap (λ k. replicate k 0) e)

-- A signed number is read back from its bits.
back : (x : ℤ) → Signed64 x → to_z w64 (of_z w64 x) ≡ x
back x s = let l = s.low in let m = s.high in let f : SFits w64 x = omega (arith, ints) in to_z-of_z w64 x f

module _ (h : House) (a : Allowed h) (tail : List ℕ) where
  bits_long : (xs : List ℤ) → length xs ≡ h.n → length (bits xs) ≡ h.n
  bits_long xs e = length-map xs (of_z w64) ∙ e

  cents_long : length (fair_cents h) ≡ h.n
  cents_long = length-map-range_with_len _ 0 h.n

  rent_there : (r : ℕ) → r < h.n → to_z w64 (get_or (bits (fair_rents h) ++ (bits (fair_cents h) ++ tail)) r 0) ≡ rent_of (fair_rents h) r
  rent_there r l =
      let b = bits_long (fair_rents h) (rents_long h a) in
      let k = rents_long h a in
      ap (to_z w64) (get_or_append_left (bits (fair_rents h)) (bits (fair_cents h) ++ tail) 0 r (omega arith) ∙ get_or-map (of_z w64) (fair_rents h) r (pos 0) 0 (omega arith))
      ∙ back (rent_of (fair_rents h) r) (due_64 h a (rent_of (fair_rents h) r) ((roundable h a).small r l))

  cent_there : (r : ℕ) → r < h.n → to_z w64 (get_or (bits (fair_rents h) ++ (bits (fair_cents h) ++ tail)) (h.n + r) 0) ≡ number (fair_cents h) r
  cent_there r l =
      let b = bits_long (fair_rents h) (rents_long h a) in
      let c = bits_long (fair_cents h) cents_long in
      let k = cents_long in
      let e : h.n + r - h.n ≡ r = omega arith in
      ap (to_z w64)
      (get_or-append_right (bits (fair_rents h)) (bits (fair_cents h) ++ tail) h.n (h.n + r) 0 b (omega arith)
      ∙ ap (λ (p : ℕ). get_or (bits (fair_cents h) ++ tail) p 0) e
      ∙ get_or_append_left (bits (fair_cents h)) tail 0 r (omega arith) ∙ get_or-map (of_z w64) (fair_cents h) r (pos 0) 0 (omega arith))
      ∙ back (number (fair_cents h) r) (cent_64 h a r l)

  natural_there : (xs : List ℕ) (m i : ℕ) → pos (get_or (xs ++ replicate m 0) i 0) ≡ number (signed xs) i
  natural_there xs m i = ap pos (padded_reads xs m 0 i) ∙ sym (number_signed xs i)

  -- What is handed over to be written is the sheet of the house.
  pub laid :
      sheet_bytes h.n
      (handed h.n (sharing_of h) (priors_of h ++ replicate (most_people - h.n) nobody) (lengths_of h ++ replicate (most_people - h.n) 0)
      (bits (fair_rents h) ++ (bits (fair_cents h) ++ tail)) (array_of (persons_of h)) (array_of (prices_of h))) ≡ sheet_bytes h.n (sheet_for h)
  laid = handed_says h.n _ _ _ _ _ _ (sheet_for h) (record {
    room = λ i l. refl;
    before = λ i l. padded_reads (priors_of h) (most_people - h.n) nobody i;
    d = λ i l. natural_there (lengths_of h) (most_people - h.n) i;
    rents = rent_there;
    cents = cent_there;
    persons = λ i l. natural_there (persons_of h) (most_people - length (persons_of h)) i;
    rooms = λ r l. natural_there (prices_of h) (most_people - length (prices_of h)) r;
  })

-- Where slices are long enough, a group is taken by its own bytes.
pub taken_lent : (a b c d : ℕ) (r : Reading) (h : House) → lent_enough a b c d r ≡ taken h → r ≡ taken h
taken_lent a b c d (refused at) h e = e
taken_lent a b c d (taken k) h e = go (ltb a k.n) (ltb b (2 * k.n)) (ltb c (work_for k.n)) (ltb d (sheet_length k.n)) e
  where
    go : (p q r s : Bool) →
        cond p (refused (5, 0)) (cond q (refused (5, 1)) (cond r (refused (5, 2)) (cond s (refused (5, 3)) (taken k)))) ≡ taken h → taken k ≡ taken h
    go true q r s e = absurd (both_ways false refl (ap is_taken e))
    go false true r s e = absurd (both_ways false refl (ap is_taken e))
    go false false true s e = absurd (both_ways false refl (ap is_taken e))
    go false false false true e = absurd (both_ways false refl (ap is_taken e))
    go false false false false e = e

-- ---- what each part of share has left, by equations between what it was given and the house

module _ (h : House) (a : Allowed h) where
  pub solved_as : (rooms persons prices : List ℕ) → rooms ≡ sharing_of h → persons ≡ array_of (persons_of h) → prices ≡ array_of (prices_of h) →
      Solved h most_worth rooms persons prices
  solved_as rooms persons prices er eu ev =
      subst (λ z. Solved h most_worth z persons prices) (sym er)
      (subst (λ z. Solved h most_worth (sharing_of h) z prices) (sym eu)
      (subst (λ z. Solved h most_worth (sharing_of h) (array_of (persons_of h)) z) (sym ev)
      (subst (λ z. Solved h most_worth z (array_of (persons_of h)) (array_of (prices_of h))) (append-nil (sharing_of h)) (answered_front h [] _ _ a))))

  pub measured_as : (rooms persons prices d : List ℕ) → Solved h most_worth rooms persons prices → Longest h rooms (signed d) →
      ((i : ℕ) → get_or d i 0 ≤ most_worth) → Measured h rooms d
  measured_as rooms persons prices d s l low = record {
    housed = s.certified.housed;
    best = certified_best h rooms (signed persons) (signed prices) s.certified;
    longest = l;
    low = low;
  }

  pub priced : (n rent : ℕ) (rooms d entry once after : List ℕ) → n ≡ h.n → rent ≡ h.rent → rooms ≡ sharing_of h →
      d ≡ lengths_of h ++ replicate (most_people - h.n) 0 → once ≡ bits (rents_of h rooms (signed d)) ++ drop h.n entry →
      held h.n once ≡ rents_of h rooms (signed d) → after ≡ take n once ++ (bits (cents_of n rent (held n once)) ++ drop (n + n) once) →
      after ≡ bits (fair_rents h) ++ (bits (fair_cents h) ++ drop (2 * h.n) entry)
  priced n rent rooms d entry once after en et er ed eo eh ea =
      let e : rents_of h rooms (signed d) ≡ fair_rents h =
      (λ j. rents_of h (er j) (signed (ed j))) ∙ rents_padded h (sharing_of h) (lengths_of h) (most_people - h.n) in
      let o : once ≡ bits (fair_rents h) ++ drop h.n entry = eo ∙ ap (λ qs. bits qs ++ drop h.n entry) e in
      let l : length (bits (fair_rents h)) ≡ h.n = length-map (fair_rents h) (of_z w64) ∙ rents_long h a in
      let t : take h.n once ≡ bits (fair_rents h) = ap (take h.n) o ∙ take_at (bits (fair_rents h)) (drop h.n entry) h.n l in
      let u : held h.n once ≡ fair_rents h = eh ∙ e in
      let two : h.n + h.n ≡ 2 * h.n = omega arith in
      let v : drop (h.n + h.n) once ≡ drop (2 * h.n) entry =
      sym (drop-drop h.n h.n once) ∙ ap (λ zs. drop h.n (drop h.n zs)) o
      ∙ ap (drop h.n) (drop_at (bits (fair_rents h)) (drop h.n entry) h.n l) ∙ drop-drop h.n h.n entry ∙ ap (λ (k : ℕ). drop k entry) two in
      ea ∙ (λ j. take (en j) once ++ (bits (cents_of (en j) (et j) (held (en j) once)) ++ drop (en j + en j) once))
      ∙ (λ j. t j ++ (bits (cents_of h.n h.rent (u j)) ++ v j))

  pub least_as : (rooms d : List ℕ) → rooms ≡ sharing_of h → d ≡ lengths_of h ++ replicate (most_people - h.n) 0 →
      spare h rooms (signed d) ≡ spare h (sharing_of h) (signed (lengths_of h))
  least_as rooms d er ed = (λ j. spare h (er j) (signed (ed j))) ∙ spare_padded h (sharing_of h) (lengths_of h) (most_people - h.n)

  pub front_as : (n : ℕ) (rooms rest : List ℕ) → n ≡ h.n → rooms ≡ sharing_of h ++ rest → take (n - 0) rooms ≡ sharing_of h
  front_as n rooms rest en er =
      let z : n - 0 ≡ h.n = omega arith in
      ap (λ (k : ℕ). take k rooms) z ∙ ap (take h.n) er ∙ take_at (sharing_of h) rest h.n (answered h a).all_rooms

  pub sheet_as : (n : ℕ) (rooms before d rents persons prices old tail : List ℕ) → n ≡ h.n → rooms ≡ sharing_of h →
      before ≡ priors_of h ++ replicate (most_people - h.n) nobody → d ≡ lengths_of h ++ replicate (most_people - h.n) 0 →
      rents ≡ bits (fair_rents h) ++ (bits (fair_cents h) ++ tail) → persons ≡ array_of (persons_of h) → prices ≡ array_of (prices_of h) →
      sheet_bytes n (handed n rooms before d rents persons prices) ++ drop (sheet_length n) old ≡ sheet_bytes h.n (sheet_for h) ++ drop (sheet_length h.n) old
  sheet_as n rooms before d rents persons prices old tail en er eb ed eq eu ev =
      (λ j. sheet_bytes (en j) (handed (en j) (er j) (eb j) (ed j) (eq j) (eu j) (ev j)) ++ drop (sheet_length (en j)) old)
      ∙ ap (λ z. z ++ drop (sheet_length h.n) old) (laid h a tail)
