-- Tests that compute, and what they tell: of a sharing, of a settlement, of an entry of the table.
use Rattle.std.proofs.Common.{◌≡◌, ℕ, ◌<◌, Bool, true, false, not, ◌&&◌, eqb, ltb, leb, List, [], ◌∷◌, length, ℤ, pos, ◌*ℤ◌, ◌≤ℤ◌, inl, inr}
use lib.Signed.{lt_z}
use Rattle.std.proofs.lemmas.Bool.{and_cases, and_parts, both_ways, eq-eqb, eqb-true, leb-true, ltb-true, not-false, not-true}
use Rattle.rooms.specs.House.{House, Housed, Settled, gain, own_gain, room_of, total}
use Rattle.rooms.specs.Rows.{number}
use Rattle.rooms.specs.First.{some}
use Rattle.rooms.proofs.First.{some_false}
use Rattle.rents.specs.Faults.{differs, shows}
use Rattle.rents.proofs.Faults.{differs_false, less_false, shows_decides}
use Rattle.rents.proofs.Shown.{shown_fairest}
use Rattle.houses.specs.Shares.{Entry}
use Rattle.houses.specs.Table.{AllStand, Stands}

-- The test holds at no number below n, and at no two.
abbrev never : (ℕ → Bool) → ℕ → Bool
never t n = not (some t n)

never_true : (t : ℕ → Bool) (n : ℕ) → never t n ≡ true → (k : ℕ) → k < n → t k ≡ false
never_true t n e = some_false t n (not-true _ e)

abbrev never_two : (ℕ → ℕ → Bool) → ℕ → Bool
never_two t n = never (λ i. some (t i) n) n

never_two_true : (t : ℕ → ℕ → Bool) (n : ℕ) → never_two t n ≡ true → (i j : ℕ) → i < n → j < n → t i j ≡ false
never_two_true t n e i j l m = some_false (t i) n (never_true (λ i. some (t i) n) n e i l) j m

-- None of the first n of f is below a.
abbrev pub low : (ℕ → ℤ) → ℤ → ℕ → Bool
low f a n = never (λ k. lt_z (f k) a) n

pub low_true : (f : ℕ → ℤ) (a : ℤ) (n : ℕ) → low f a n ≡ true → (k : ℕ) → k < n → a ≤ℤ f k
low_true f a n e k l = less_false (f k) a (never_true (λ k. lt_z (f k) a) n e k l)

-- Everybody has a room, and no two have the same.
abbrev together : List ℕ → ℕ → ℕ → Bool
together room i j = eqb (room_of room i) (room_of room j) && not (eqb i j)

abbrev pub shared : ℕ → List ℕ → Bool
shared n room = leb n (length room) && never (λ i. not (ltb (room_of room i) n)) n && never_two (together room) n

pub shared_true : (h : House) (room : List ℕ) → shared h.n room ≡ true → Housed h room
shared_true h room t =
    let p = and_parts _ _ t in
    let q = and_parts _ _ p.0 in
    record {
      all = leb-true _ _ q.0;
      each = λ i l. ltb-true _ _ (not-false _ (never_true (λ i. not (ltb (room_of room i) h.n)) h.n q.1 i l));
      own = λ i j l m e.
          elim (and_cases _ _ (never_two_true (together room) h.n p.1 i j l m)) [
            | inl a ↦ absurd (both_ways _ a (eq-eqb _ _ e))
            | inr a ↦ eqb-true i j (not-false _ a)
          ];
    }

-- The rooms are shared, the rents add up, and nobody would gain more by another room.
abbrev envies : House → List ℕ → ℕ → List ℤ → ℕ → ℕ → Bool
envies h room d ps i r = lt_z (own_gain h room d ps i) (gain h d ps i r)

abbrev pub settles : House → List ℕ → ℕ → List ℤ → Bool
settles h room d ps =
    ltb 0 d && shared h.n room && leb h.n (length ps) && not (differs (total ps h.n) (pos h.rent *ℤ pos d))
    && never_two (envies h room d ps) h.n

pub settles_true : (h : House) (room : List ℕ) (d : ℕ) (ps : List ℤ) → settles h room d ps ≡ true → Settled h room d ps
settles_true h room d ps t =
    let p = and_parts _ _ t in
    let q = and_parts _ _ p.0 in
    let r = and_parts _ _ q.0 in
    let s = and_parts _ _ r.0 in
    record {
      scale = ltb-true _ _ s.0;
      housed = shared_true h room s.1;
      priced = leb-true _ _ r.1;
      sums = differs_false _ _ (not-true _ q.1);
      content = λ i k l m. less_false _ _ (never_two_true (envies h room d ps) h.n p.1 i k l m);
    }

-- There is somebody, the claim shows that the share is the fairest, and nobody's gain is other than written.
abbrev otherwise : Entry → ℕ → Bool
otherwise e i = differs (own_gain e.house e.claim.room e.house.n e.claim.rents i) (number e.gains i)

abbrev stands : Entry → Bool
stands e = ltb 0 e.house.n && shows e.house e.claim && never (otherwise e) e.house.n

stands_true : (e : Entry) → stands e ≡ true → Stands e
stands_true e t =
    let p = and_parts _ _ t in
    let q = and_parts _ _ p.0 in
    let s = (shows_decides e.house e.claim).0 q.1 in
    record {
      fairest = (shown_fairest e.house e.claim (ltb-true _ _ q.0) s).fairest;
      shown = s;
      gains = λ i l. differs_false _ _ (never_true (otherwise e) e.house.n p.1 i l);
    }

abbrev pub all_stand : List Entry → Bool
all_stand [] = true
all_stand (e ∷ es) = stands e && all_stand es

pub all_stand_true : (es : List Entry) → all_stand es ≡ true → AllStand es
all_stand_true [] t = tt
all_stand_true (e ∷ es) t = let p = and_parts (stands e) (all_stand es) t in (stands_true e p.0, all_stand_true es p.1)
