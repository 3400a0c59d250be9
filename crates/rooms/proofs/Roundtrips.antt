-- The bytes of a house are read back as that house, and bytes that are taken are those of their house.
use Rattle.std.proofs.Common.{◌≡◌, ℕ, zero, suc, ◌+◌, ◌*◌, ◌/◌, ◌%◌, ◌^◌, ◌<◌, ◌≤◌, List, [], ◌∷◌, ◌++◌, map, length, get_or, take, drop, sym, refl, ap, ◌∙◌, inl, inr, append_assoc, suc-mul, div-lt_iff_lt-mul, add-mul, zero-mul, arith, take-add}
use lib.Seq.{drop-append-add}
use Rattle.std.specs.List.{range_with_len, flat_map}
use Rattle.std.proofs.lemmas.Nat.{div-add-mod', mod_below, mul-add-lt}
use Rattle.std.proofs.lemmas.List.FromFn.{fill_by_all}
use Rattle.std.proofs.lemmas.List.{get_or_append_left, get_or-append-add, get_or_past, length-append, take_at, take_all, drop-drop, length-drop, take-append-drop}
use Rattle.std.proofs.lemmas.Bool.{cases_lt}
use Rattle.rooms.specs.House.{House, worth_at}
use Rattle.rooms.specs.Bytes.{low_bytes, from_bytes, Bytes}
use Rattle.rooms.specs.Format.{most_worth, Allowed, word_bytes, word, bytes_of, group_length, worth_place, worth_word, house_of, is_taken}
use Rattle.rooms.specs.Format.Reading.{taken}
use Rattle.rooms.specs.Roundtrip.{ReadsBack, WritesBack}
use Rattle.rooms.proofs.Bytes.{low_length, from_low, low_part}
use Rattle.rooms.proofs.Taken.{Passed, passed, takes, allowed}

-- All the worths of a house in one list, person by person.
abbrev flat : List (List ℕ) → List ℕ
flat rows = flat_map (λ row. row) rows

word_append : (p q : List ℕ) (k : ℕ) → word (p ++ q) (length p + k) ≡ word q k
unfolding word
word_append p q k = ap (λ (s : List ℕ). from_bytes (take 4 s)) (drop-append-add p q k)

word_first : (x : ℕ) (rest : List ℕ) → x < 256 ^ 4 → word (word_bytes x ++ rest) 0 ≡ x
unfolding word
word_first x rest h = ap from_bytes (take_at (low_bytes 4 x) rest 4 (low_length 4 x)) ∙ from_low 4 x h

word_at_joined : (xs : List ℕ) (k : ℕ) → k < length xs → ((j : ℕ) → get_or xs j 0 < 256 ^ 4) → word (flat_map word_bytes xs) (4 * k) ≡ get_or xs k 0
word_at_joined [] k l h = absurd (omega arith)
word_at_joined (x ∷ xs) zero l h = word_first x (flat_map word_bytes xs) (h 0)
word_at_joined (x ∷ xs) (suc k) l h =
    let e : 4 * suc k ≡ length (word_bytes x) + 4 * k = let a = low_length 4 x in omega arith in
    ap (word (flat_map word_bytes (x ∷ xs))) e ∙ word_append (word_bytes x) (flat_map word_bytes xs) (4 * k)
    ∙ word_at_joined xs k (omega arith) (λ j. h (suc j))

joined_long : (xs : List ℕ) → length (flat_map word_bytes xs) ≡ 4 * length xs
joined_long [] = refl
joined_long (x ∷ xs) = let a = joined_long xs in let b = low_length 4 x in omega (arith, length-append (word_bytes x) (flat_map word_bytes xs))

joined_append : (xs ys : List ℕ) → flat_map word_bytes (xs ++ ys) ≡ flat_map word_bytes xs ++ flat_map word_bytes ys
joined_append [] ys = refl
joined_append (x ∷ xs) ys = ap (λ zs. word_bytes x ++ zs) (joined_append xs ys) ∙ sym (append_assoc (word_bytes x) (flat_map word_bytes xs) (flat_map word_bytes ys))

joined_flat : (rows : List (List ℕ)) → flat_map (λ row. flat_map word_bytes row) rows ≡ flat_map word_bytes (flat rows)
joined_flat [] = refl
joined_flat (row ∷ rows) = ap (λ zs. flat_map word_bytes row ++ zs) (joined_flat rows) ∙ sym (joined_append row (flat rows))

flat_long : (n : ℕ) (rows : List (List ℕ)) → ((i : ℕ) → i < length rows → length (get_or rows i []) ≡ n) → length (flat rows) ≡ length rows * n
flat_long n [] h = sym (zero-mul n)
flat_long n (row ∷ rows) h =
    let a = flat_long n rows (λ i l. h (suc i) (omega arith)) in
    let b : length row ≡ n = h 0 (omega arith) in
    omega (arith, length-append row (flat rows), suc-mul (length rows) n)

-- The worth of person i for room r stands at i times n and r, in rows of n.
flat_at : (n : ℕ) (rows : List (List ℕ)) → ((i : ℕ) → i < length rows → length (get_or rows i []) ≡ n) → (i r : ℕ) → i < length rows → r < n →
    get_or (flat rows) (i * n + r) 0 ≡ get_or (get_or rows i []) r 0
flat_at n [] h i r l m = absurd (omega arith)
flat_at n (row ∷ rows) h zero r l m =
    let b : length row ≡ n = h 0 (omega arith) in
    ap (λ (k : ℕ). get_or (row ++ flat rows) k 0) (omega (arith, zero-mul n)) ∙ get_or_append_left row (flat rows) 0 r (omega arith)
flat_at n (row ∷ rows) h (suc i) r l m =
    let b : length row ≡ n = h 0 (omega arith) in
    ap (λ (k : ℕ). get_or (row ++ flat rows) k 0) (omega (arith, suc-mul i n)) ∙ get_or-append-add row (flat rows) (i * n + r) 0
    ∙ flat_at n rows (λ i l. h (suc i) (omega arith)) i r (omega arith) m

abbrev worths : House → List ℕ
worths h = flat_map (λ row. flat_map word_bytes row) h.worth

abbrev front : House → List ℕ
front h = h.n ∷ word_bytes h.rent

module _ (h : House) (a : Allowed h) where
  shape : (i : ℕ) → i < length h.worth → length (get_or h.worth i []) ≡ h.n
  shape i l = a.row i (let e = a.rows in omega arith)

  all_worths : length (flat h.worth) ≡ h.n * h.n
  all_worths = flat_long h.n h.worth shape ∙ ap (λ m. m * h.n) a.rows

  flat_worth : (i r : ℕ) → i < h.n → r < h.n → get_or (flat h.worth) (i * h.n + r) 0 ≡ worth_at h i r
  flat_worth i r l m = flat_at h.n h.worth shape i r (let e = a.rows in omega arith) m

  flat_small : (k : ℕ) → get_or (flat h.worth) k 0 ≤ most_worth
  flat_small k = elim (cases_lt k (h.n * h.n)) [
    | inl l ↦
        let n = h.n in
        let i : k / n < n = (div-lt_iff_lt-mul a.some).1 l in
        let r : k % n < n = mod_below k n a.some in
        rw (← (div-add-mod' k n)) (rw (flat_worth (k / n) (k % n) i r) (a.small (k / n) (k % n)))
    | inr l ↦ rw (get_or_past (flat h.worth) k 0 (let e = all_worths in omega arith)) (omega arith)
  ]

  rent_read : word (bytes_of h) 1 ≡ h.rent
  rent_read = word_append (h.n ∷ []) (word_bytes h.rent ++ worths h) 0 ∙ word_first h.rent (worths h) (let r = a.rent in omega arith)

  front_long : length (front h) ≡ 5
  front_long = ap suc (low_length 4 h.rent)

  worth_read : (k : ℕ) → k < h.n * h.n → worth_word (bytes_of h) k ≡ get_or (flat h.worth) k 0
  unfolding worth_word
  worth_read k l =
      let e : worth_place k ≡ length (front h) + 4 * k = let b = front_long in omega arith in
      ap (word (bytes_of h)) e ∙ word_append (front h) (worths h) (4 * k) ∙ ap (λ (s : List ℕ). word s (4 * k)) (joined_flat h.worth)
      ∙ word_at_joined (flat h.worth) k (let f = all_worths in omega arith) (λ j. let f = flat_small j in omega arith)

  bytes_long : length (bytes_of h) ≡ group_length h.n
  bytes_long =
      length-append (front h) (worths h) ∙ (let b = front_long in let c = ap length (joined_flat h.worth) in let d = joined_long (flat h.worth) in let e = all_worths in omega arith)

  bytes_passed : Passed (bytes_of h)
  bytes_passed = record {
    some = a.some;
    few = a.few;
    long = bytes_long;
    rent = let e = rent_read in let r = a.rent in omega arith;
    small = λ k l. rw (worth_read k l) (flat_small k);
  }

  house_back : house_of (bytes_of h) ≡ h
  unfolding house_of
  house_back = λ j. record { n = h.n; worth = same_worths j; rent = rent_read j }
    where
      same_worths : map (λ i. map (λ r. worth_word (bytes_of h) (i * h.n + r)) (range_with_len 0 h.n)) (range_with_len 0 h.n) ≡ h.worth
      same_worths =
          sym (fill_by_all (λ i. map (λ r. worth_word (bytes_of h) (i * h.n + r)) (range_with_len 0 h.n)) h.worth h.n [] a.rows
          (λ i l. fill_by_all (λ r. worth_word (bytes_of h) (i * h.n + r)) (get_or h.worth i []) h.n 0 (a.row i l)
          (λ r m. sym (worth_read (i * h.n + r) (mul-add-lt i h.n r h.n l m) ∙ flat_worth i r l m))))

-- Each worth stands at its place, as four bytes that are that number again; so every test is passed, and the house is made of the same parts.
pub reads_back : ReadsBack
reads_back h a = takes (bytes_of h) (bytes_passed h a) ∙ ap taken (house_back h a)

-- Numbers read one after the other, written again, are the part that was read.
pieces : (s : List ℕ) (f : ℕ → ℕ) (o : ℕ) → Bytes s → ((k : ℕ) → f k ≡ o + 4 * k) → (a m : ℕ) → o + 4 * (a + m) ≤ length s →
    flat_map word_bytes (map (λ k. word s (f k)) (range_with_len a m)) ≡ take (4 * m) (drop (o + 4 * a) s)
unfolding word
pieces s f o b e a zero l = refl
pieces s f o b e a (suc m) l =
    let x : word_bytes (from_bytes (take 4 (drop (f a) s))) ≡ take 4 (drop (o + 4 * a) s) =
    low_part 4 s (f a) (let q = e a in omega arith) b ∙ ap (λ (p : ℕ). take 4 (drop p s)) (e a) in
    let y : flat_map word_bytes (map (λ k. from_bytes (take 4 (drop (f k) s))) (range_with_len (a + 1) m)) ≡ take (4 * m) (drop 4 (drop (o + 4 * a) s)) =
    pieces s f o b e (a + 1) m (omega arith) ∙ ap (take (4 * m)) (ap (λ (p : ℕ). drop p s) (omega arith) ∙ sym (drop-drop 4 (o + 4 * a) s)) in
    ap (λ zs. zs ++ flat_map word_bytes (map (λ k. from_bytes (take 4 (drop (f k) s))) (range_with_len (a + 1) m))) x ∙ ap (λ zs. take 4 (drop (o + 4 * a) s) ++ zs) y
    ∙ sym (take-add 4 (4 * m) (drop (o + 4 * a) s)) ∙ ap (λ (p : ℕ). take p (drop (o + 4 * a) s)) (omega arith)

-- The same row by row.
all_pieces : (s : List ℕ) (n : ℕ) → Bytes s → (a m : ℕ) → 5 + 4 * ((a + m) * n) ≤ length s →
    flat_map (λ row. flat_map word_bytes row) (map (λ i. map (λ r. worth_word s (i * n + r)) (range_with_len 0 n)) (range_with_len a m)) ≡ take (4 * (m * n)) (drop (5 + 4 * (a * n)) s)
unfolding worth_word
all_pieces s n b a zero l = ap (λ (p : ℕ). take (4 * p) (drop (5 + 4 * (a * n)) s)) (sym (zero-mul n))
all_pieces s n b a (suc m) l =
    let o = 5 + 4 * (a * n) in
    let p : (a + suc m) * n ≡ a * n + suc m * n = add-mul a (suc m) n in
    let q : suc m * n ≡ m * n + n = suc-mul m n in
    let t : (a + 1) * n ≡ a * n + n = omega (arith, add-mul a 1 n) in
    let u : (a + 1 + m) * n ≡ a * n + n + m * n = omega (arith, add-mul (a + 1) m n) in
    let x : flat_map word_bytes (map (λ r. word s (worth_place (a * n + r))) (range_with_len 0 n)) ≡ take (4 * n) (drop o s) =
    pieces s (λ r. worth_place (a * n + r)) o b (λ k. omega arith) 0 n (omega arith) ∙ ap (λ (p : ℕ). take (4 * n) (drop p s)) (omega arith) in
    let rest = flat_map (λ row. flat_map word_bytes row) (map (λ i. map (λ r. word s (worth_place (i * n + r))) (range_with_len 0 n)) (range_with_len (a + 1) m)) in
    let y : rest ≡ take (4 * (m * n)) (drop (4 * n) (drop o s)) =
    all_pieces s n b (a + 1) m (omega arith) ∙ ap (take (4 * (m * n))) (ap (λ (p : ℕ). drop p s) (omega arith) ∙ sym (drop-drop (4 * n) o s)) in
    ap (λ zs. zs ++ rest) x ∙ ap (λ zs. take (4 * n) (drop o s) ++ zs) y
    ∙ sym (take-add (4 * n) (4 * (m * n)) (drop o s)) ∙ ap (λ (p : ℕ). take p (drop o s)) (omega arith)

same_bytes : (s : List ℕ) → Bytes s → Passed s → bytes_of (house_of s) ≡ s
unfolding house_of word
same_bytes [] b p = absurd (let l = p.long in omega arith)
same_bytes (n ∷ s) b p =
    let z : 5 + 4 * (0 * n) ≡ 5 = omega (arith, zero-mul n) in
    let w : worths (house_of (n ∷ s)) ≡ drop 4 s =
    all_pieces (n ∷ s) n b 0 n (let l = p.long in omega arith) ∙ ap (λ (k : ℕ). take (4 * (n * n)) (drop k (n ∷ s))) z
    ∙ take_all (4 * (n * n)) (drop 4 s) (rw length-drop (let l = p.long in omega arith)) in
    let r : word_bytes (from_bytes (take 4 s)) ≡ take 4 s = low_part 4 s 0 (let l = p.long in omega arith) (λ k. b (suc k)) in
    ap (λ zs. n ∷ zs) (ap (λ zs. zs ++ worths (house_of (n ∷ s))) r ∙ ap (λ zs. take 4 s ++ zs) w ∙ take-append-drop 4 s)

-- What was read is the house of the bytes, whose parts, written again, are the parts that were read.
pub writes_back : WritesBack
writes_back s h b e =
    let p = passed s (ap is_taken e) in
    let f : taken h ≡ taken (house_of s) = sym e ∙ takes s p in
    let g : h ≡ house_of s = cc in
    rw g (allowed s p, same_bytes s b p)
