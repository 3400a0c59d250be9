-- An accepted sheet is shown with the right cents, one that is so is accepted, and a refusal names what is false.
use Rattle.std.proofs.Common.{◌≡◌, ℕ, ◌+◌, ◌*◌, ◌<◌, Bool, true, false, cond, not, eqb, ltb, List, length, get_or, ℤ, pos, ◌+ℤ◌, ◌<ℤ◌, sym, refl, ap, ◌∙◌, subst, inl, inr, arith}
use lib.Signed.{lt_z}
use Rattle.std.proofs.lemmas.List.FromFn.{length-map-range_with_len}
use Rattle.std.proofs.lemmas.List.{ext_get_or}
use Rattle.std.proofs.lemmas.Int.{ints}
use Rattle.std.proofs.lemmas.Bool.{and_parts, both_ways, cases_Bool, cases_eq, eq-eqb, eqb-true, ltb-false, ltb-true, ne_eqb, not-true, or_cases, or_parts}
use Rattle.rooms.specs.First.{first, some}
use Rattle.rooms.specs.Format.{Allowed, Reading, house_of, is_taken, most_worth, read}
use Rattle.rooms.specs.Format.Reading.{taken, refused}
use Rattle.rooms.specs.House.{House, rent_of, room_of, value}
use Rattle.rooms.specs.Rows.{number, way}
use Rattle.rooms.proofs.First.{first_at}
use Rattle.rooms.proofs.Row.{certified_around}
use Rattle.rooms.proofs.Taken.{allowed, passed, takes}
use Rattle.rents.specs.Rents.{due, rents_of, whose}
use Rattle.rents.specs.Answer.{Lengths}
use Rattle.rents.specs.Shown.{Claim, Means, Shown, Whole}
use Rattle.rents.specs.Faults.{differs, length_fault, number_fault, rent_fault, room_fault}
use Rattle.rents.proofs.Faults.{comes_from, differs_false, ends_from, false_differs, false_less, less_false, low_from, no_length_fault, no_number_fault, no_rent_fault, no_room_fault, numbers_show, rents_from, rooms_shared}
use Rattle.rents.proofs.Shown.{shown_fairest}
use Rattle.rents.proofs.Sizes.{rents_roundable}
use Rattle.cents.proofs.Rounding.{cents_rounded}
use Rattle.cents.specs.Cents.{Rounded, cents_of}
use Rattle.sheet.specs.Accepted.{AcceptedFair, AcceptedMeans, AcceptedPayable, AcceptedShown, FairAccepted, NumbersOff, Payable, RefusedFalse, RefusedFor, RightCents, RowOff, ShownAccepted, WithoutRoom}
use Rattle.sheet.specs.Accepted.RefusedFor.{cents, numbers, rents, rooms, rows, ways}
use Rattle.sheet.specs.declared.entries.Entries.{Entries}
use Rattle.sheet.specs.Entries.{claimed, entered}
use Rattle.sheet.specs.Format.{Sheet, sheet_length, sheet_of, signed_at}
use Rattle.sheet.specs.Judge.{Judgement, cents_fault, judge, judge_read, judge_sheet, place}
use Rattle.sheet.specs.Judge.Judgement.{accepted, faulty}
use Rattle.sheet.specs.Verdicts.{meaning}
use Rattle.sheet.specs.declared.verdict.Verdict.{Verdict}
use Rattle.sheet.specs.declared.verdict.Verdict.TheVariants.{Accepted}
use Rattle.sheet.proofs.Priced.{cents_long, rent_at}
use Rattle.sheet.proofs.Judged.{Clean, View, view}
use Rattle.sheet.proofs.Judged.View.{at_cents, at_circle, at_length, at_number, at_rent, at_room, at_way, clean}

-- The number and the place of a judgement.
number_in : Judgement → ℕ
number_in accepted = 0
number_in (faulty at) = at.0

place_in : Judgement → ℕ
place_in accepted = 0
place_in (faulty at) = at.1

apart : (j : Judgement) (a b p q : ℕ) → j ≡ faulty (a, p) → j ≡ faulty (b, q) → a ≡ b
unfolding number_in
apart j a b p q d e = ap number_in (sym d ∙ e)

same_place : (j : Judgement) (a b p q : ℕ) → j ≡ faulty (a, p) → j ≡ faulty (b, q) → p ≡ q
unfolding place_in
same_place j a b p q d e = ap place_in (sym d ∙ e)

is_faulty : Judgement → Bool
is_faulty accepted = false
is_faulty (faulty at) = true

not_accepted : (j : Judgement) (at : ℕ × ℕ) → j ≡ faulty at → j ≡ accepted → ⊥
unfolding is_faulty
not_accepted j at d e = both_ways false refl (ap is_faulty (sym e ∙ d))

less_true : (a b : ℤ) → lt_z a b ≡ true → a <ℤ b
less_true a b e = grind (arith, ints)

module _ (h : House) (s : Sheet) where
  rents_right : Clean h s → (r : ℕ) → r < h.n → rent_fault h s.claim r ≡ false
  rents_right p r l = (or_parts _ _ (p.prices r l)).0

  -- Each test that finds nothing anywhere shows its condition: the rooms are shared, so the numbers certify them; the lengths come from persons before
  -- who end, since nobody stands on a circle; and no rent or cents differ.
  pub clean_shown : Whole h s.claim → Clean h s → Shown h s.claim × RightCents h s
  clean_shown w p =
      let c = s.claim in
      let housed = rooms_shared h c w p.rooms in
      let comes = λ (i : ℕ) (l : i < h.n). comes_from h c i (p.lengths i l) in (
        record {
          whole = w;
          housed = housed;
          certified = numbers_show h c housed p.numbers;
          rows = record {
            low = λ i l. low_from h c i (p.lengths i l);
            comes = comes;
            most = λ k i l m. less_false (number c.d i) (number c.d k +ℤ way h c.room k i) (p.ways k i l m);
            ends = (ends_from h c comes).0 p.circles;
          };
          rents = rents_from h c w housed (rents_right p);
        },
        λ r l. differs_false _ _ (or_parts (rent_fault h c r) (cents_fault h s r) (p.prices r l)).1,
      )

  module _ (shown : Shown h s.claim) (right : RightCents h s) where
    -- Each test finds nothing, so the judgement can be no other.
    pub shown_view : (j : Judgement) → View h s j → j ≡ accepted
    shown_view j (at_room i l t e) = absurd (both_ways _ (no_room_fault h s.claim shown.housed i l) t)
    shown_view j (at_number i r l m t e) = absurd (both_ways _ (no_number_fault h s.claim shown.certified i r l m) t)
    shown_view j (at_length i l t e) = absurd (both_ways _ (no_length_fault h s.claim i (shown.rows.low i l) (shown.rows.comes i l)) t)
    shown_view j (at_circle i l t e) = absurd (both_ways _ ((ends_from h s.claim shown.rows.comes).1 shown.rows.ends i l) t)
    shown_view j (at_way k i l m t e) =
        absurd (both_ways _ (false_less (number s.claim.d i) (number s.claim.d k +ℤ way h s.claim.room k i) (shown.rows.most k i l m)) t)
    shown_view j (at_rent f r l t e) = absurd (both_ways _ (no_rent_fault h s.claim shown.housed shown.rents r l) t)
    shown_view j (at_cents r l t e) = absurd (both_ways _ (false_differs _ _ (right r l)) t)
    shown_view j (clean p e) = e

pub accepted_shown : AcceptedShown
accepted_shown h s w e = by (judge_sheet h s) (view h s) e
  where
    by : (j : Judgement) → View h s j → j ≡ accepted → Shown h s.claim × RightCents h s
    by j (at_room i l t d) e = absurd (not_accepted j (7, i) d e)
    by j (at_number i r l m t d) e = absurd (not_accepted j (8, (place i r)) d e)
    by j (at_length i l t d) e = absurd (not_accepted j (9, i) d e)
    by j (at_circle i l t d) e = absurd (not_accepted j (9, i) d e)
    by j (at_way k i l m t d) e = absurd (not_accepted j (10, (place k i)) d e)
    by j (at_rent f r l t d) e = absurd (not_accepted j (11, r) d e)
    by j (at_cents r l t d) e = absurd (not_accepted j (11, (r + 32)) d e)
    by j (clean p d) e = clean_shown h s w p

pub shown_accepted : ShownAccepted
shown_accepted h s shown right = shown_view h s shown right (judge_sheet h s) (view h s)

-- ---- what a refusal names
module _ (h : House) (s : Sheet) where
  without : (i : ℕ) → i < h.n → room_fault h s.claim i ≡ true → WithoutRoom h s.claim i
  without i l t =
      let r = room_of s.claim.room i in
      let same = λ (k : ℕ). eqb (room_of s.claim.room k) r in (
        l,
        elim (or_cases (not (ltb r h.n)) (some same i) t) [
          | inl u ↦ inl (ltb-false _ _ (not-true _ u))
          | inr u ↦ let m = ltb-true _ _ u in inr (first same i, m, eqb-true _ _ (first_at same i m))
        ],
      )

  numbers_off : (i r : ℕ) → i < h.n → r < h.n → number_fault h s.claim i r ≡ true → NumbersOff h s.claim i r
  numbers_off i r l m t = (
    l,
    m,
    elim (or_cases _ _ t) [
      | inl u ↦ inl (less_true _ _ u)
      | inr u ↦ let q = and_parts _ _ u in inr (eqb-true _ _ q.0, less_true _ _ q.1)
    ],
  )

  row_off : (i : ℕ) → i < h.n → length_fault h s.claim i ≡ true → RowOff h s.claim i
  row_off i l t = (
    l,
    elim (cases_Bool (lt_z (number s.claim.d i) (pos 0))) [
      | inl u ↦ inl (less_true _ _ u)
      | inr u ↦ inr (inl (λ comes. both_ways _ (no_length_fault h s.claim i (less_false _ _ u) comes) t))
    ],
  )

  differs_true : (a b : ℤ) → differs a b ≡ true → a ≡ b → ⊥
  differs_true a b t e = both_ways _ (false_differs a b e) t

  -- The test that is true at the place says what is at fault there; and where its condition held, that test would be false everywhere.
  refused_view : (k p : ℕ) → Whole h s.claim → (j : Judgement) → View h s j → j ≡ faulty (k, p) → RefusedFor h s k p
  refused_view k p w j (at_room i l t d) e =
      rooms (apart j k 7 p i e d) (subst (λ (z : ℕ). WithoutRoom h s.claim z) (same_place j 7 k i p d e) (without i l t))
      (λ housed. both_ways _ (no_room_fault h s.claim housed i l) t)
  refused_view k p w j (at_number i r l m t d) e =
      numbers i r (apart j k 8 p (place i r) e d) (same_place j k 8 p (place i r) e d) (numbers_off i r l m t)
      (λ certified. both_ways _ (no_number_fault h s.claim certified i r l m) t)
  refused_view k p w j (at_length i l t d) e =
      rows (apart j k 9 p i e d) (subst (λ (z : ℕ). RowOff h s.claim z) (same_place j 9 k i p d e) (row_off i l t))
      (λ shown. both_ways _ (no_length_fault h s.claim i (shown.low i l) (shown.comes i l)) t)
  refused_view k p w j (at_circle i l t d) e =
      rows (apart j k 9 p i e d) (subst (λ (z : ℕ). RowOff h s.claim z) (same_place j 9 k i p d e) (l, inr (inr t)))
      (λ shown. both_ways _ ((ends_from h s.claim shown.comes).1 shown.ends i l) t)
  refused_view k p w j (at_way from to l m t d) e =
      ways from to (apart j k 10 p (place from to) e d) (same_place j k 10 p (place from to) e d) (l, m, less_true _ _ t)
      (λ shown. both_ways _ (false_less (number s.claim.d to) (number s.claim.d from +ℤ way h s.claim.room from to) (shown.most from to l m)) t)
  refused_view k p w j (at_rent f r l t d) e =
      rents (apart j k 11 p r e d)
      (subst (λ (z : ℕ). (z < h.n) × (rent_of s.claim.rents z ≡ due h s.claim.room s.claim.d (whose h s.claim.room z) → ⊥)) (same_place j 11 k r p d e)
      (l, differs_true _ _ t))
      (λ made. both_ways _ (no_rent_fault h s.claim (rooms_shared h s.claim w f) made r l) t)
  refused_view k p w j (at_cents r l t d) e =
      cents r (apart j k 11 p (r + 32) e d) (same_place j k 11 p (r + 32) e d) (l, differs_true _ _ t) (λ right. differs_true _ _ t (right r l))
  refused_view k p w j (clean q d) e = absurd (not_accepted j (k, p) e d)

pub refused_false : RefusedFalse
refused_false h s k p w e = refused_view h s k p w (judge_sheet h s) (view h s) e

-- ---- from bytes
pub sheet_whole : (h : House) (s : List ℕ) → Whole h (sheet_of h.n s).claim
unfolding sheet_of
sheet_whole h s =
    let n = h.n in
    let a = length-map-range_with_len (λ k. get_or s (0 + 10 * k) 0) 0 n in
    let b = length-map-range_with_len (λ k. get_or s (1 + 10 * k) 0) 0 n in
    let c = length-map-range_with_len (λ k. signed_at s (2 + 10 * k)) 0 n in
    let d = length-map-range_with_len (λ k. signed_at s (10 * n + 16 * k)) 0 n in
    let e = length-map-range_with_len (λ k. signed_at s (26 * n + 8 * k)) 0 n in
    let f = length-map-range_with_len (λ k. signed_at s (34 * n + 8 * k)) 0 n in
    record { room = omega arith; before = omega arith; d = omega arith; rents = omega arith; persons = omega arith; rooms = omega arith }

rents_long : (n : ℕ) (s : List ℕ) → length (sheet_of n s).claim.rents ≡ n
unfolding sheet_of
rents_long n s = length-map-range_with_len (λ k. signed_at s (10 * n + 16 * k)) 0 n

sheet_cents_long : (n : ℕ) (s : List ℕ) → length (sheet_of n s).cents ≡ n
unfolding sheet_of
sheet_cents_long n s = length-map-range_with_len (λ k. signed_at s (10 * n + 8 + 16 * k)) 0 n

-- Entries that were read from a sheet are those of everybody.
pub entered_whole : (h : House) (e : Entries) (s : List ℕ) (n : ℕ) → n ≡ h.n → entered n e ≡ sheet_of n s → entered h.n e ≡ sheet_of h.n s
entered_whole h e s n p q = ap (λ (m : ℕ). entered m e) (sym p) ∙ q ∙ ap (λ (m : ℕ). sheet_of m s) p

pub claimed_whole : (h : House) (e : Entries) (s : List ℕ) (n : ℕ) → n ≡ h.n → entered n e ≡ sheet_of n s → Whole h (claimed h e)
claimed_whole h e s n p q = subst (λ (z : Sheet). Whole h z.claim) (sym (entered_whole h e s n p q)) (sheet_whole h s)

module _ (group sheet : List ℕ) where
  pub judged_refused : (at : ℕ × ℕ) → read group ≡ refused at → faulty at ≡ judge group sheet
  unfolding judge
  judged_refused at e = sym (ap (λ (r : Reading). judge_read r sheet) e)

  pub judged_length : (h : House) → read group ≡ taken h → (length sheet ≡ sheet_length h.n → ⊥) → faulty (6, length sheet) ≡ judge group sheet
  unfolding judge
  judged_length h e l =
      sym (ap (λ (r : Reading). judge_read r sheet) e
      ∙ ap (λ (t : Bool). cond t (judge_sheet h (sheet_of h.n sheet)) (faulty (6, length sheet))) (ne_eqb (length sheet) (sheet_length h.n) l))

  pub judged_sheet : (h : House) → read group ≡ taken h → length sheet ≡ sheet_length h.n → judge_sheet h (sheet_of h.n sheet) ≡ judge group sheet
  unfolding judge
  judged_sheet h e l =
      sym (ap (λ (r : Reading). judge_read r sheet) e
      ∙ ap (λ (t : Bool). cond t (judge_sheet h (sheet_of h.n sheet)) (faulty (6, length sheet))) (eq-eqb (length sheet) (sheet_length h.n) l))

-- Bytes that are taken speak of a house within the bounds.
allowed_by : (s : List ℕ) (h : House) → read s ≡ taken h → Allowed h
allowed_by s h e =
    let p = passed s (ap is_taken e) in
    let t : read s ≡ taken (house_of s) = takes s p in
    let q : house_of s ≡ h = cc in
    subst Allowed q (allowed s p)

-- An accepted sheet was read with its group, is of the right length and passed all tests. Its rents are those of each room's tenant, so the list of
-- them is the one made from the rooms and rows, and its cents are those of that list.
pub accepted_fair : AcceptedFair
accepted_fair group sheet e = by (read group) refl
  where
    fair : (h : House) → read group ≡ taken h → length sheet ≡ sheet_length h.n → judge_sheet h (sheet_of h.n sheet) ≡ accepted → AcceptedMeans group sheet
    fair h r l a =
        let s = sheet_of h.n sheet in
        let n = h.n in
        let c = s.claim in
        let q = accepted_shown h s (sheet_whole h sheet) a in
        let t : c.rents ≡ rents_of h c.room c.d =
        ext_get_or (pos 0) c.rents (rents_of h c.room c.d) (rents_long n sheet ∙ sym (length-map-range_with_len (λ r. due h c.room c.d (whose h c.room r)) 0 n))
        (λ x m.
        let k : x < n = let z = rents_long n sheet in omega arith in
        differs_false _ _ (no_rent_fault h c q.0.housed q.0.rents x k) ∙ sym (rent_at h c q.0.housed (allowed_by group h r).some x k)) in
        record {
          house = h;
          taken_as = r;
          long = l;
          shown = q.0;
          means = shown_fairest h c (allowed_by group h r).some q.0;
          rents = t;
          cents =
              ext_get_or (pos 0) s.cents (cents_of n h.rent (rents_of h c.room c.d)) (sheet_cents_long n sheet ∙ sym (cents_long n h.rent (rents_of h c.room c.d)))
              (λ x m. q.1 x (let z = sheet_cents_long n sheet in omega arith))
              ∙ ap (cents_of n h.rent) (sym t);
        }

    by : (r : Reading) → read group ≡ r → AcceptedMeans group sheet
    by (refused at) r = absurd (not_accepted (judge group sheet) at (sym (judged_refused group sheet at r)) e)
    by (taken h) r = elim (cases_eq (length sheet) (sheet_length h.n)) [
      | inl l ↦ fair h r l (judged_sheet group sheet h r l ∙ e)
      | inr l ↦ absurd (not_accepted (judge group sheet) (6, length sheet) (sym (judged_length group sheet h r l)) e)
    ]

pub fair_accepted : FairAccepted
fair_accepted group sheet h e l shown right = sym (judged_sheet group sheet h e l) ∙ shown_accepted h (sheet_of h.n sheet) shown right

-- No row is longer than the highest worth: with the way back from its end to its beginning it is not above 0, and that way is at least what the room at
-- the end is not worth to who has it.
lengths_within : (h : House) (c : Claim) → Allowed h → Shown h c → Means h c → Lengths h c.d most_worth
unfolding way value
lengths_within h c a s m i l =
    let q = m.longest.reached i l in
    let r = certified_around h c.room c.persons c.rooms s.certified i q.0 q.1 in
    let w = a.small i (room_of c.room i) in
    let x = q.2 in
    (s.rows.low i l, omega (arith, ints))

-- Rents whose rows are no longer than the highest worth can be rounded, and the cents of an accepted sheet are those of its rents.
pub accepted_payable : AcceptedPayable
accepted_payable group sheet e =
    let m = accepted_fair group sheet e in
    let h = m.house in
    let c = (sheet_of h.n sheet).claim in
    let a = allowed_by group h m.taken_as in
    let r = rents_roundable h c.room c.d c.rents a m.shown.housed (lengths_within h c a m.shown m.means) m.shown.rents in
    record { house = h; taken_as = m.taken_as; settled = m.means.fairest.settled; rounded = subst (λ cs. Rounded h.n h.rent c.rents cs) (sym m.cents) (cents_rounded h.n h.rent c.rents r) }

-- What the verdict tells that is judged so.
module _ (group sheet : List ℕ) (v : Verdict) (judged : meaning v ≡ judge group sheet) where
  pub accepted_told : v ≡ Accepted → AcceptedMeans group sheet
  accepted_told e = accepted_fair group sheet (sym judged ∙ ap meaning e)

  pub payable_told : v ≡ Accepted → Payable group sheet
  payable_told e = accepted_payable group sheet (sym judged ∙ ap meaning e)
