-- What bytes that are taken as a house have passed, and that their house is within the bounds.
use Rattle.std.proofs.Common.{◌≡◌, ℕ, ◌+◌, ◌-◌, ◌*◌, ◌<◌, ◌≤◌, Bool, true, false, cond, ◌||◌, eqb, ltb, List, [], ◌++◌, map, length, get_or, take, drop, set, replicate, sym, refl, ap, ◌∙◌, inl, inr, arith, below_more}
use Rattle.std.specs.List.{range_with_len}
use Rattle.std.proofs.lemmas.Nat.{mul-add-lt}
use Rattle.std.proofs.lemmas.List.FromFn.{fill_by_all, length-map-range_with_len, get_or-map-range_with_len}
use Rattle.std.proofs.lemmas.List.{get_or_append_left, get_or-append_right, get_or_past, get_or-replicate, length-append, length-replicate, length-set, length-take-le, drop-replicate, get_or-set_same, get_or-set_other, ext_get_or}
use Rattle.std.proofs.lemmas.Bool.{ltb-false, le-ltb, eqb-false, ne_eqb, or_parts, or_from, both_ways, cases_lt}
use Rattle.rooms.specs.House.{House, worth_at}
use Rattle.rooms.specs.Format.{most_people, most_rent, most_worth, Allowed, word, group_length, worth_place, people, worth_word, house_of, row_of, first_large, read, is_taken}
use Rattle.rooms.specs.Format.Reading.{taken, refused}
use Rattle.rooms.proofs.Bytes.{from_more, from_none}
use Rattle.rooms.proofs.First.{first_none, none_first, first_le}

-- A word by its four bytes.
pub word_is : (s : List ℕ) (k : ℕ) → word s k ≡ get_or s k 0 + get_or s (k + 1) 0 * 256 + get_or s (k + 2) 0 * 65536 + get_or s (k + 3) 0 * 16777216
unfolding word
word_is s k =
    omega (
      arith,
      from_more 3 s k (k + 1) refl,
      from_more 2 s (k + 1) (k + 2) (omega arith),
      from_more 1 s (k + 2) (k + 3) (omega arith),
      from_more 0 s (k + 3) (k + 4) (omega arith),
      from_none s (k + 4),
    )

-- What every test of reading has found.
pub record Passed (s : List ℕ) : Type 0 where
  pub some : 0 < people s
  pub few : people s ≤ most_people
  pub long : length s ≡ group_length (people s)
  pub rent : word s 1 ≤ most_rent
  pub small : (k : ℕ) → k < people s * people s → worth_word s k ≤ most_worth

-- A chain of refusals is passed only where none of its tests holds.
chain : (a b c d e f : Bool) (p q r s t u : ℕ × ℕ) (h : House) →
    is_taken (cond a (refused p) (cond b (refused q) (cond c (refused r) (cond d (refused s) (cond e (refused t) (cond f (refused u) (taken h))))))) ≡ true →
    (b ≡ false) × (c ≡ false) × (d ≡ false) × (e ≡ false) × (f ≡ false)
chain true b c d e f p q r s t u h x = absurd (both_ways false refl x)
chain false true c d e f p q r s t u h x = absurd (both_ways false refl x)
chain false false true d e f p q r s t u h x = absurd (both_ways false refl x)
chain false false false true e f p q r s t u h x = absurd (both_ways false refl x)
chain false false false false true f p q r s t u h x = absurd (both_ways false refl x)
chain false false false false false true p q r s t u h x = absurd (both_ways false refl x)
chain false false false false false false p q r s t u h x = (refl, refl, refl, refl, refl)

pub passed : (s : List ℕ) → is_taken (read s) ≡ true → Passed s
unfolding first_large read
passed s x =
    let m = people s in
    let t = chain
    (eqb (length s) 0) (eqb m 0 || ltb most_people m) (ltb (length s) (group_length m)) (ltb (group_length m) (length s)) (ltb most_rent (word s 1))
    (ltb (first_large s m) (m * m)) (1, 0) (2, 0) (1, length s) (1, group_length m) (3, 1) (4, worth_place (first_large s m)) (house_of s) x in
    let few = or_parts (eqb m 0) (ltb most_people m) t.0 in
    let some = eqb-false m 0 few.0 in
    let long = ltb-false (length s) (group_length m) t.1 in
    let short = ltb-false (group_length m) (length s) t.2 in
    let none = ltb-false (first_large s m) (m * m) t.4 in
    let most = first_le (λ k. ltb most_worth (worth_word s k)) (m * m) in
    let all : first_large s m ≡ m * m = omega arith in
    record {
      some = omega arith;
      few = ltb-false most_people m few.1;
      long = omega arith;
      rent = ltb-false most_rent (word s 1) t.3;
      small = λ k l. ltb-false most_worth (worth_word s k) (none_first (λ k. ltb most_worth (worth_word s k)) (m * m) all k l);
    }

-- Bytes that pass are taken, as the house that they speak of.
pub takes : (s : List ℕ) → Passed s → read s ≡ taken (house_of s)
unfolding first_large read
takes s p =
    let long = p.long in
    let a : eqb (length s) 0 ≡ false = ne_eqb _ _ (λ e. omega arith) in
    let b : (eqb (people s) 0 || ltb most_people (people s)) ≡ false =
    or_from _ _ (ne_eqb _ _ (λ e. let q = p.some in omega arith)) (le-ltb _ _ p.few) in
    let c : ltb (length s) (group_length (people s)) ≡ false = le-ltb _ _ (omega arith) in
    let d : ltb (group_length (people s)) (length s) ≡ false = le-ltb _ _ (omega arith) in
    let e : ltb most_rent (word s 1) ≡ false = le-ltb _ _ p.rent in
    let f : first_large s (people s) ≡ people s * people s = first_none _ _ (λ k l. le-ltb _ _ (p.small k l)) in
    let g : ltb (first_large s (people s)) (people s * people s) ≡ false = le-ltb _ _ (omega arith) in
    simp (a, b, c, d, e, g)

-- The worth of person i for room r stands at its place.
pub worth_is : (s : List ℕ) (i r : ℕ) → i < people s → r < people s → worth_at (house_of s) i r ≡ worth_word s (i * people s + r)
unfolding house_of
worth_is s i r l m =
    ap (λ (row : List ℕ). get_or row r 0) (get_or-map-range_with_len (λ i. map (λ r. worth_word s (i * people s + r)) (range_with_len 0 (people s))) 0 (people s) i i [] l (omega arith))
    ∙ get_or-map-range_with_len (λ r. worth_word s (i * people s + r)) 0 (people s) r r 0 m (omega arith)

row_long : (s : List ℕ) (i : ℕ) → i < people s → length (get_or (house_of s).worth i []) ≡ people s
unfolding house_of
row_long s i l =
    ap length (get_or-map-range_with_len (λ i. map (λ r. worth_word s (i * people s + r)) (range_with_len 0 (people s))) 0 (people s) i i [] l (omega arith))
    ∙ length-map-range_with_len (λ r. worth_word s (i * people s + r)) 0 (people s)

rows_long : (s : List ℕ) → length (house_of s).worth ≡ people s
unfolding house_of
rows_long s = length-map-range_with_len (λ i. map (λ r. worth_word s (i * people s + r)) (range_with_len 0 (people s))) 0 (people s)

pub people_is : (s : List ℕ) → (house_of s).n ≡ people s
unfolding house_of
people_is s = refl

pub rent_is : (s : List ℕ) → (house_of s).rent ≡ word s 1
unfolding house_of
rent_is s = refl

-- Past the rooms nothing is written.
pub worth_past : (s : List ℕ) (i r : ℕ) → i < people s → people s ≤ r → worth_at (house_of s) i r ≡ 0
worth_past s i r l m = get_or_past (get_or (house_of s).worth i []) r 0 (let a = row_long s i l in omega arith)

pub allowed : (s : List ℕ) → Passed s → Allowed (house_of s)
unfolding house_of
allowed s p = record {
  some = p.some;
  few = p.few;
  rent = p.rent;
  rows = rows_long s;
  row = row_long s;
  small = λ i r. elim (cases_lt i (people s)) [
    | inl l ↦ elim (cases_lt r (people s)) [
      | inl m ↦ rw (worth_is s i r l m) (p.small (i * people s + r) (mul-add-lt i (people s) r (people s) l m))
      | inr m ↦ rw (worth_past s i r l m) (omega arith)
    ]
    | inr l ↦ rw (get_or_past (house_of s).worth i [] (let a = rows_long s in omega arith)) (omega arith)
  ];
}

-- One person's worths in an array, as far as they are written.
pub record Written (s : List ℕ) (i r : ℕ) (mine : List ℕ) : Type 0 where
  pub whole : length mine ≡ most_people
  pub each : (k : ℕ) → k < r → get_or mine k 0 ≡ worth_word s (i * people s + k)
  pub rest : (k : ℕ) → r ≤ k → get_or mine k 0 ≡ 0

pub written_none : (s : List ℕ) (i : ℕ) → Written s i 0 (replicate most_people 0)
written_none s i = record {
  whole = refl;
  each = λ k l. absurd (omega arith);
  rest = λ k l. elim (cases_lt k most_people) [ inl m ↦ get_or-replicate most_people k 0 0 m | inr m ↦ get_or_past (replicate most_people 0) k 0 m ];
}

pub written_more : (s : List ℕ) (i r : ℕ) (mine : List ℕ) (x : ℕ) → r < most_people → x ≡ worth_word s (i * people s + r) → Written s i r mine →
    Written s i (r + 1) (set mine r x)
written_more s i r mine x h e w =
    let lt : r < length mine = let a = w.whole in omega arith in
    record {
      whole = length-set mine r x ∙ w.whole;
      each = below_more _ _ (λ k l. get_or-set_other mine r k x 0 (λ q. omega arith) ∙ w.each k l) (get_or-set_same mine r x 0 lt ∙ e);
      rest = λ k l. get_or-set_other mine r k x 0 (λ q. omega arith) ∙ w.rest k (omega arith);
    }

pub written_each : (s : List ℕ) (i : ℕ) (mine : List ℕ) → i < people s → Written s i (people s) mine → (r : ℕ) → get_or mine r 0 ≡ worth_at (house_of s) i r
written_each s i mine l w r = elim (cases_lt r (people s)) [
  | inl m ↦ w.each r m ∙ sym (worth_is s i r l m)
  | inr m ↦ w.rest r m ∙ sym (worth_past s i r l m)
]

row_of_long : (s : List ℕ) (i : ℕ) → people s ≤ most_people → i < people s → length (row_of (house_of s) i) ≡ most_people
unfolding house_of
row_of_long s i few l =
    let row = get_or (house_of s).worth i [] in
    let a : length row ≡ people s = row_long s i l in
    let b : length (replicate {A = ℕ} (most_people - people s) 0) ≡ most_people - people s = length-replicate (most_people - people s) 0 in
    length-append row (replicate (most_people - people s) 0) ∙ omega arith

row_of_at : (s : List ℕ) (i k : ℕ) → i < people s → k < most_people → get_or (row_of (house_of s) i) k 0 ≡ worth_at (house_of s) i k
unfolding house_of
row_of_at s i k l m =
    let row = get_or (house_of s).worth i [] in
    let a : length row ≡ people s = row_long s i l in
    elim (cases_lt k (people s)) [
      | inl q ↦ get_or_append_left row (replicate (most_people - people s) 0) 0 k (omega arith)
      | inr q ↦
          get_or-append_right row (replicate (most_people - people s) 0) (people s) k 0 a q
          ∙ get_or-replicate (most_people - people s) (k - people s) 0 0 (omega arith)
          ∙ sym (worth_past s i k l q)
    ]

pub written_whole : (s : List ℕ) (i : ℕ) (mine : List ℕ) → people s ≤ most_people → i < people s → Written s i (people s) mine → mine ≡ row_of (house_of s) i
written_whole s i mine few l w =
    ext_get_or 0 mine (row_of (house_of s) i) (w.whole ∙ sym (row_of_long s i few l))
    (λ k m. written_each s i mine l w k ∙ sym (row_of_at s i k l (let a = w.whole in omega arith)))

-- Each of a person's worths in an array, and nothing past the rooms.
pub row_of_each : (s : List ℕ) (i r : ℕ) → people s ≤ most_people → i < people s → get_or (row_of (house_of s) i) r 0 ≡ worth_at (house_of s) i r
row_of_each s i r few l = elim (cases_lt r most_people) [
  | inl m ↦ row_of_at s i r l m
  | inr m ↦ get_or_past (row_of (house_of s) i) r 0 (omega (arith, row_of_long s i few l)) ∙ sym (worth_past s i r l (omega arith))
]

-- The front of an array of nothing is as long as there are rooms.
pub front_long : (n : ℕ) → n ≤ most_people → length (take (n - 0) (replicate {A = ℕ} most_people 0)) ≡ n
front_long n l = length-take-le (n - 0) (replicate {A = ℕ} most_people 0) (omega arith) ∙ omega arith

-- An array of nothing whose front is filled with a person's worths is their row.
pub row_of_filled : (s : List ℕ) (i n : ℕ) (worths : List ℕ) → n ≡ people s → i < people s → length worths ≡ n →
    ((k : ℕ) → k < n → get_or worths k 0 ≡ worth_word s (i * people s + k)) → worths ++ drop (n - 0) (replicate most_people 0) ≡ row_of (house_of s) i
unfolding house_of
row_of_filled s i n worths e l long h =
    let e1 : worths ≡ get_or (house_of s).worth i [] =
    fill_by_all (λ k. worth_word s (i * people s + k)) worths (people s) 0 (long ∙ e) (λ k m. h k (omega arith))
    ∙ sym (get_or-map-range_with_len (λ i. map (λ r. worth_word s (i * people s + r)) (range_with_len 0 (people s))) 0 (people s) i i [] l (omega arith)) in
    let e2 : drop (n - 0) (replicate {A = ℕ} most_people 0) ≡ replicate (most_people - people s) 0 =
    drop-replicate (n - 0) most_people 0 ∙ ap (λ k. replicate {A = ℕ} (most_people - k) 0) (omega arith) in
    ap (λ (xs : List ℕ). xs ++ drop (n - 0) (replicate {A = ℕ} most_people 0)) e1 ∙ ap (λ (ys : List ℕ). get_or (house_of s).worth i [] ++ ys) e2

-- The four bytes of a worth are there.
pub worth_within : (s : List ℕ) (n i r : ℕ) → Passed s → n ≡ (house_of s).n → i < (house_of s).n → r < n → worth_place (i * n + r) + 4 ≤ length s
unfolding house_of
worth_within s n i r p e l m =
    let a : i * people s + r < people s * people s = mul-add-lt i (people s) r (people s) l (omega arith) in
    rw e (let b = p.long in omega arith)
