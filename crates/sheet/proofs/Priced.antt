-- The rents and cents of a claim, reckoned from one surplus.
use Rattle.std.proofs.Common.{◌≡◌, ℕ, ◌+◌, ◌<◌, ◌≤◌, cond, List, length, get_or, set, ℤ, pos, ◌+ℤ◌, ◌-ℤ◌, ◌*ℤ◌, neg_ℤ, sym, ap, ◌∙◌, arith, below_more}
use lib.Signed.{lt_z}
use Rattle.std.proofs.lemmas.List.FromFn.{get_or-map-range_with_len, length-map-range_with_len}
use Rattle.std.proofs.lemmas.List.{get_or-set_other, get_or-set_same}
use Rattle.std.proofs.lemmas.Int.{ints}
use Rattle.rooms.specs.Format.{most_people}
use Rattle.rooms.specs.House.{House, Housed, rent_of, room_of, sum, value, worth_at}
use Rattle.rooms.specs.Rows.{number}
use Rattle.rooms.proofs.Sharing.{holder, same_sum}
use Rattle.rooms.proofs.Sum.{sum_add, sum_const, sum_same, sum_sub}
use Rattle.whole.specs.Floor.{floor}
use Rattle.whole.proofs.Floors.{moved}
use Rattle.rents.specs.Rents.{due, rents_of, spare, whose}
use Rattle.rents.specs.Shown.{Claim}
use Rattle.rents.specs.Faults.{differs, rent_fault}
use Rattle.rents.proofs.Fair.{whose_own}
use Rattle.cents.specs.Cents.{cents_of, missing_cents}
use Rattle.sheet.specs.Format.{Sheet}
use Rattle.sheet.specs.Judge.{cents_fault}

-- What their room is worth to person i, less the length of their row.
abbrev pub own_part : House → Claim → ℕ → ℤ
own_part h c i = value h i (room_of c.room i) -ℤ number c.d i

-- What is read makes it up.
pub own_is : (h : House) (c : Claim) (i room w : ℕ) (x : ℤ) → room ≡ room_of c.room i → w ≡ worth_at h i room → x ≡ number c.d i →
    pos w -ℤ x ≡ own_part h c i
unfolding value
own_is h c i room w x a b d = rw (b, a, d)

-- Person i stands at their room r, and those before at theirs: no two have the same.
pub tenants_more : (h : House) (c : Claim) (i r : ℕ) (t : List ℕ) → h.n ≤ most_people → Housed h c.room → i < h.n → r ≡ room_of c.room i →
    length t ≡ most_people → ((k : ℕ) → k < i → get_or t (room_of c.room k) 0 ≡ k) →
    (k : ℕ) → k < i + 1 → get_or (set t r i) (room_of c.room k) 0 ≡ k
tenants_more h c i r t few s l a w f =
    let b : room_of c.room i < length t = omega (arith, s.each i l) in
    rw a (below_more _ _
    (λ k m. get_or-set_other t (room_of c.room i) (room_of c.room k) i 0 (λ q. omega (arith, s.own k i (omega arith) l q)) ∙ f k m)
    (get_or-set_same t (room_of c.room i) i 0 b))

pub tenants_all : (h : House) (c : Claim) (t : List ℕ) → Housed h c.room → ((k : ℕ) → k < h.n → get_or t (room_of c.room k) 0 ≡ k) →
    (r : ℕ) → r < h.n → get_or t r 0 ≡ whose h c.room r
tenants_all h c t s f r l =
    let k = holder h c.room s r l in
    rw (← k.2) (f k.0 k.1 ∙ sym (whose_own h c.room s k.0 k.1))

module _ (h : House) (c : Claim) where
  pub spare_is : spare h c.room c.d ≡ sum (own_part h c) h.n -ℤ pos h.rent
  unfolding spare
  spare_is =
      let a = sum_sub (λ i. value h i (room_of c.room i)) (λ i. number c.d i) h.n in
      omega (arith, ints)

  module _ (s : Housed h c.room) (some : 0 < h.n) where
    pub tenant_below : (r : ℕ) → r < h.n → whose h c.room r < h.n
    tenant_below r l =
        let k = holder h c.room s r l in
        let e : whose h c.room (room_of c.room k.0) ≡ k.0 = whose_own h c.room s k.0 k.1 in
        let f : whose h c.room (room_of c.room k.0) ≡ whose h c.room r = ap (whose h c.room) k.2 in
        let m = k.1 in
        omega arith

    -- What person i pays is the even part of the surplus less, and n times their own part more: the floor moves by just that.
    floor_due : (i : ℕ) → floor (due h c.room c.d i) h.n ≡ own_part h c i +ℤ floor (neg_ℤ (spare h c.room c.d)) h.n
    floor_due i =
        let S = spare h c.room c.d in
        let e : due h c.room c.d i ≡ neg_ℤ S +ℤ own_part h c i *ℤ pos h.n = omega (arith, ints) in
        ap (λ (z : ℤ). floor z h.n) e ∙ (moved (neg_ℤ S) (own_part h c i) h.n some).0 ∙ omega (arith, ints)

    pub rent_at : (r : ℕ) → r < h.n → rent_of (rents_of h c.room c.d) r ≡ due h c.room c.d (whose h c.room r)
    rent_at r l = get_or-map-range_with_len (λ r. due h c.room c.d (whose h c.room r)) 0 h.n r r (pos 0) l (omega arith)

    floor_rent : (r : ℕ) → r < h.n →
        floor (rent_of (rents_of h c.room c.d) r) h.n ≡ own_part h c (whose h c.room r) +ℤ floor (neg_ℤ (spare h c.room c.d)) h.n
    floor_rent r l = ap (λ (z : ℤ). floor z h.n) (rent_at r l) ∙ floor_due (whose h c.room r)

    -- The floors add up to all own parts and n times the even part; what is missing to the rent is what n even parts leave of the surplus.
    missing_is : missing_cents h.n h.rent (rents_of h c.room c.d) ≡
        neg_ℤ (spare h c.room c.d) -ℤ floor (neg_ℤ (spare h c.room c.d)) h.n *ℤ pos h.n
    unfolding missing_cents
    missing_is =
        let n = h.n in
        let F = floor (neg_ℤ (spare h c.room c.d)) n in
        let G : ℕ → ℤ = λ r. floor (rent_of (rents_of h c.room c.d) r) n in
        let a : sum G n ≡ sum (λ i. G (room_of c.room i)) n = sym (same_sum h c.room s G) in
        let b : sum (λ i. G (room_of c.room i)) n ≡ sum (λ i. own_part h c i +ℤ F) n =
        sum_same (λ i. G (room_of c.room i)) (λ i. own_part h c i +ℤ F) n
        (λ i l. floor_rent (room_of c.room i) (s.each i l) ∙ ap (λ (k : ℕ). own_part h c k +ℤ F) (whose_own h c.room s i l)) in
        let d = sum_add (own_part h c) (λ i. F) n in
        let f = sum_const F n in
        let g = spare_is in
        last (sum G n) (sum (λ i. G (room_of c.room i)) n) (sum (λ i. own_part h c i +ℤ F) n) (sum (own_part h c) n) (sum (λ i. F) n) (F *ℤ pos n)
        (spare h c.room c.d) (pos h.rent) a b d f g
      where
        last : (a b c d e f S R : ℤ) → a ≡ b → b ≡ c → c ≡ d +ℤ e → e ≡ f → S ≡ d -ℤ R → R -ℤ a ≡ neg_ℤ S -ℤ f
        last a b c d e f S R p q r t u = omega (arith, ints)

    pub cents_at : (r : ℕ) → r < h.n →
        number (cents_of h.n h.rent (rents_of h c.room c.d)) r ≡
        (own_part h c (whose h c.room r) +ℤ floor (neg_ℤ (spare h c.room c.d)) h.n)
        +ℤ cond (lt_z (pos r) (neg_ℤ (spare h c.room c.d) -ℤ floor (neg_ℤ (spare h c.room c.d)) h.n *ℤ pos h.n)) (pos 1) (pos 0)
    cents_at r l =
        let ps = rents_of h c.room c.d in
        let m = missing_cents h.n h.rent ps in
        get_or-map-range_with_len (λ r. floor (rent_of ps r) h.n +ℤ cond (lt_z (pos r) m) (pos 1) (pos 0)) 0 h.n r r (pos 0) l (omega arith)
        ∙ ap (λ (z : ℤ). z +ℤ cond (lt_z (pos r) m) (pos 1) (pos 0)) (floor_rent r l)
        ∙ ap (λ (z : ℤ). (own_part h c (whose h c.room r) +ℤ floor (neg_ℤ (spare h c.room c.d)) h.n) +ℤ cond (lt_z (pos r) z) (pos 1) (pos 0)) missing_is

pub cents_long : (n rent : ℕ) (ps : List ℤ) → length (cents_of n rent ps) ≡ n
cents_long n rent ps = length-map-range_with_len (λ r. floor (rent_of ps r) n +ℤ cond (lt_z (pos r) (missing_cents n rent ps)) (pos 1) (pos 0)) 0 n

-- ---- the tests of a rent and of cents, by what they are reckoned from
pub rent_test : (h : House) (c : Claim) (r m : ℕ) (a o t s d : ℤ) → a ≡ rent_of c.rents r → o ≡ own_part h c (whose h c.room r) → m ≡ h.n →
    t ≡ o *ℤ pos m → s ≡ spare h c.room c.d → d ≡ t -ℤ s → differs a d ≡ rent_fault h c r
rent_test h c r m a o t s d p q v w x y = cc

pub cents_test : (h : House) (sheet : Sheet) → Housed h sheet.claim.room → (r : ℕ) (a o f m x s z : ℤ) → r < h.n → a ≡ number sheet.cents r →
    o ≡ own_part h sheet.claim (whose h sheet.claim.room r) → f ≡ floor (neg_ℤ s) h.n → m ≡ neg_ℤ s -ℤ f *ℤ pos h.n →
    x ≡ cond (lt_z (pos r) m) (pos 1) (pos 0) → s ≡ spare h sheet.claim.room sheet.claim.d → z ≡ (o +ℤ f) +ℤ x → differs a z ≡ cents_fault h sheet r
cents_test h sheet housed r a o f m x s z l p q v w y e g =
    let some : 0 < h.n = omega arith in
    let n = cents_at h sheet.claim housed some r l in
    let zi : z ≡ number (cents_of h.n h.rent (rents_of h sheet.claim.room sheet.claim.d)) r = rw (n, g, q, y, w, v, e) in
    ap (λ (y : ℤ). differs y z) p ∙ ap (differs (number sheet.cents r)) zi
