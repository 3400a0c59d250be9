-- The share of any house within the bounds is fair, and the checker accepts its sheet.
use Rattle.std.proofs.Common.{◌≡◌, ℕ, ◌+◌, ◌-◌, ◌*◌, ◌<◌, ◌≤◌, Bool, true, false, cond, List, [], length, get_or, replicate, ℤ, pos, ◌≤ℤ◌, sym, refl, ap, ◌∙◌, subst, inl, inr, arith}
use lib.Signed.{lt_z}
use Rattle.std.proofs.lemmas.List.FromFn.{get_or-map-range_with_len, length-map-range_with_len}
use Rattle.std.proofs.lemmas.List.{append-nil, ext_get_or, length-append, length-map}
use Rattle.std.proofs.lemmas.Int.{ints}
use Rattle.rooms.specs.House.{House, Housed, rent_of}
use Rattle.rooms.specs.Rows.{Certified, number, signed}
use Rattle.rooms.specs.Before.{RowsShown, nobody, prior}
use Rattle.rooms.specs.Format.{Allowed, most_people, most_worth}
use Rattle.assignment.specs.Answer.{sharing_of, persons_of, prices_of, array_of}
use Rattle.assignment.specs.Promise.{Answered}
use Rattle.assignment.proofs.Shown.{answered, answered_front}
use Rattle.longest.specs.Run.{whole_run}
use Rattle.longest.proofs.Padded.{padded_reads}
use Rattle.longest.proofs.Slacks.{befores_long, number_signed, search_ends}
use Rattle.rents.specs.Shown.{Means, Shown}
use Rattle.rents.specs.Answer.{Lengths, Roundable, most_due}
use Rattle.rents.proofs.Sizes.{rents_roundable}
use Rattle.cents.specs.Cents.{Rounded, extra, missing_cents}
use Rattle.cents.proofs.Rounding.{cents_at, cents_rounded}
use Rattle.cents.proofs.Slice.{floor_small}
use Rattle.whole.specs.Bits.{Signed64}
use Rattle.whole.specs.Bounds.{Within}
use Rattle.rents.specs.Rents.{Made, spare}
use Rattle.rents.proofs.Fair.{least_spare, rents_exist}
use Rattle.rents.proofs.Shown.{shown_fairest}
use Rattle.sheet.specs.Format.{byte_column, column, sheet_bytes, sheet_of}
use Rattle.sheet.specs.Roundtrip.{SheetFits}
use Rattle.sheet.proofs.Roundtrips.{reads_back}
use Rattle.sheet.specs.Judge.{judge_sheet}
use Rattle.sheet.proofs.Meant.{shown_accepted}
use Rattle.sheet.specs.Share.{FairShare, LeastGain, fair_cents, fair_rents, lengths_of, priors_of, sheet_for}

module _ (h : House) (a : Allowed h) where
  found : Answered h
  found = answered h a

  padded_long : (xs : List ℕ) → length xs ≡ h.n → h.n ≤ length (array_of xs)
  padded_long xs e = let b = length-append xs (replicate (most_people - length xs) 0) in omega arith

  -- The numbers in arrays show the same.
  pub certified : Certified h (sharing_of h) (signed (array_of (persons_of h))) (signed (array_of (prices_of h)))
  certified =
      subst (λ rooms. Certified h rooms (signed (array_of (persons_of h))) (signed (array_of (prices_of h)))) (append-nil (sharing_of h))
      (answered_front h [] (replicate (most_people - length (persons_of h)) 0) (replicate (most_people - length (prices_of h)) 0) a).certified

  few_enough : h.n ≤ nobody
  few_enough = let f = a.few in omega arith

  pub rows : RowsShown h (sharing_of h) (signed (lengths_of h)) (priors_of h)
  rows =
      (search_ends h (sharing_of h) (array_of (persons_of h)) (array_of (prices_of h)) a.some few_enough
      (padded_long (persons_of h) found.all_persons) certified).0

  pub priors_long : length (priors_of h) ≡ h.n
  priors_long =
      befores_long h (sharing_of h) (array_of (persons_of h)) (array_of (prices_of h)) certified a.some few_enough
      (padded_long (persons_of h) found.all_persons)

  lengths_long : length (signed (lengths_of h)) ≡ h.n
  lengths_long = length-map (lengths_of h) pos ∙ length-map-range_with_len _ 0 h.n

  pub rents_long : length (fair_rents h) ≡ h.n
  rents_long = length-map-range_with_len _ 0 h.n

  persons_long : length (signed (persons_of h)) ≡ h.n
  persons_long = length-map (persons_of h) pos ∙ found.all_persons

  prices_long : length (signed (prices_of h)) ≡ h.n
  prices_long = length-map (prices_of h) pos ∙ found.all_prices

  at_most : (m : ℕ) → m ≡ h.n → h.n ≤ m
  at_most m e = omega arith

  -- The sharing is best by its numbers, the rows are longest by the persons before, and the rents are made from them.
  pub shown : Shown h (sheet_for h).claim
  shown = record {
    whole = record {
      room = at_most _ found.all_rooms;
      before = at_most _ priors_long;
      d = at_most _ lengths_long;
      rents = at_most _ rents_long;
      persons = at_most _ persons_long;
      rooms = at_most _ prices_long;
    };
    housed = found.solved.certified.housed;
    certified = found.solved.certified;
    rows = rows;
    rents = rents_exist h (sharing_of h) (signed (lengths_of h)) found.solved.certified.housed;
  }

  pub means : Means h (sheet_for h).claim
  means = shown_fairest h (sheet_for h).claim a.some shown

  -- No row is longer than the number of the person at its end.
  pub length_low : (i : ℕ) → i < h.n → get_or (lengths_of h) i 0 ≤ most_worth
  length_low i l =
      let u = array_of (persons_of h) in
      let x = found.solved.persons_low i l in
      let e : get_or u i 0 ≡ get_or (persons_of h) i 0 = padded_reads (persons_of h) (most_people - length (persons_of h)) 0 i in
      rw (get_or-map-range_with_len (λ i. get_or u i 0 - get_or (whole_run h (sharing_of h) u (array_of (prices_of h))).left i 0) 0 h.n i i 0 l (omega arith)) (omega arith)

  pub lengths_within : Lengths h (signed (lengths_of h)) most_worth
  lengths_within i l = let e = number_signed (lengths_of h) i in let b = length_low i l in (omega (arith, ints), omega (arith, ints))

  housed : Housed h (sharing_of h)
  housed = found.solved.certified.housed

  pub roundable : Roundable h.n h.rent (fair_rents h)
  roundable = rents_roundable h (sharing_of h) (signed (lengths_of h)) (fair_rents h) a housed lengths_within shown.rents

  pub cents : Rounded h.n h.rent (fair_rents h) (fair_cents h)
  cents = cents_rounded h.n h.rent (fair_rents h) roundable

  natural_64 : (xs : List ℕ) (i : ℕ) → get_or xs i 0 ≤ most_worth → Signed64 (number (signed xs) i)
  natural_64 xs i b = let e = number_signed xs i in record { low = omega (arith, ints); high = omega (arith, ints) }

  pub due_64 : (x : ℤ) → Within most_due x → Signed64 x
  due_64 x w = let l = w.low in let m = w.high in record { low = omega (arith, ints); high = omega (arith, ints) }

  pub cent_64 : (r : ℕ) → r < h.n → Signed64 (number (fair_cents h) r)
  cent_64 r l =
      let n = h.n in
      let e = cents_at n h.rent (fair_rents h) r l in
      let f = floor_small n h.rent (fair_rents h) roundable r l in
      let x = extra_small (missing_cents n h.rent (fair_rents h)) r in
      let u = f.low in let v = f.high in let y = x.0 in let z = x.1 in
      rw e (record { low = omega (arith, ints); high = omega (arith, ints) })
    where
      extra_small : (m : ℤ) (r : ℕ) → (pos 0 ≤ℤ extra m r) × (extra m r ≤ℤ pos 1)
      extra_small m r = go (lt_z (pos r) m)
        where
          go : (b : Bool) → (pos 0 ≤ℤ cond b (pos 1) (pos 0)) × (cond b (pos 1) (pos 0) ≤ℤ pos 1)
          go true = (omega (arith, ints), omega (arith, ints))
          go false = (omega (arith, ints), omega (arith, ints))

  prior_small : (i : ℕ) → i < h.n → prior (priors_of h) i < 256
  prior_small i l = let f = a.few in elim (rows.comes i l) [ inl p ↦ omega (arith, p.0) | inr p ↦ omega (arith, p.0) ]

  -- All numbers of the sheet fit their bytes.
  pub fits : SheetFits h.n (sheet_for h)
  fits = record {
    room = λ i l. let f = a.few in omega (arith, housed.each i l);
    before = prior_small;
    d = λ i l. natural_64 (lengths_of h) i (length_low i l);
    rents = λ r l. due_64 (rent_of (fair_rents h) r) (roundable.small r l);
    cents = cent_64;
    persons = λ i l. natural_64 (persons_of h) i (found.solved.persons_low i l);
    rooms = λ r l. natural_64 (prices_of h) r (found.solved.prices_low r l);
  }

  -- What is read back from the sheet's bytes is the sheet itself.
  pub read_back : sheet_of h.n (sheet_bytes h.n (sheet_for h)) ≡ sheet_for h
  unfolding sheet_of
  read_back =
      let b = sheet_bytes h.n (sheet_for h) in
      let n = h.n in
      let g = (reads_back n (sheet_for h) fits).1 in
      λ j. record {
        claim = record {
          room = same (byte_column b 0 10 n) (sharing_of h) 0 (length-map-range_with_len _ 0 n) found.all_rooms g.room j;
          before = same (byte_column b 1 10 n) (priors_of h) nobody (length-map-range_with_len _ 0 n) priors_long g.before j;
          d = same (column b 2 10 n) (signed (lengths_of h)) (pos 0) (length-map-range_with_len _ 0 n) lengths_long g.d j;
          rents = same (column b (10 * n) 16 n) (fair_rents h) (pos 0) (length-map-range_with_len _ 0 n) rents_long g.rents j;
          persons = same (column b (26 * n) 8 n) (signed (persons_of h)) (pos 0) (length-map-range_with_len _ 0 n) persons_long g.persons j;
          rooms = same (column b (34 * n) 8 n) (signed (prices_of h)) (pos 0) (length-map-range_with_len _ 0 n) prices_long g.rooms j;
        };
        cents = same (column b (10 * n + 8) 16 n) (fair_cents h) (pos 0) (length-map-range_with_len _ 0 n) (length-map-range_with_len _ 0 n) g.cents j;
      }
    where
      same : {X : Type 0} (xs ys : List X) (d : X) → length xs ≡ h.n → length ys ≡ h.n → ((i : ℕ) → i < h.n → get_or xs i d ≡ get_or ys i d) → xs ≡ ys
      same xs ys d p q e = ext_get_or d xs ys (p ∙ sym q) (λ i l. e i (omega arith))

  pub fair : FairShare h
  fair = record {
    best = means.best;
    fairest = means.fairest;
    cents = cents;
    few = found.few.cube;
    accepted = ap (judge_sheet h) read_back ∙ shown_accepted h (sheet_for h) shown (λ r l. refl);
  }

  made : Made h (sharing_of h) (signed (lengths_of h)) (fair_rents h)
  made = record { someone = a.some; housed = housed; best = means.best; longest = means.longest; rents = shown.rents }

  pub least_gain : LeastGain h (spare h (sharing_of h) (signed (lengths_of h)))
  least_gain =
      let l = least_spare h (sharing_of h) (signed (lengths_of h)) (fair_rents h) made in
      record { longest = means.longest; poorest = l.0; least = λ j p. (l.1 j p).1 }
