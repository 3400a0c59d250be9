-- A sheet's bytes part by part: how long each is, that they depend on what is said alone, and that they are what is written.
use Rattle.std.proofs.Common.{◌≡◌, ℕ, zero, suc, ◌+◌, ◌*◌, ◌^◌, ◌<◌, ◌≤◌, List, [], ◌∷◌, ◌++◌, map, length, get_or, take, drop, ℤ, pos, sym, refl, ap, ◌∙◌, append_assoc, zero-add, arith, w64, to_z, of_z}
use lib.Seq.{paste}
use Rattle.std.specs.List.{range_with_len, flat_map}
use Rattle.std.proofs.lemmas.List.Edits.{paste_all}
use Rattle.std.proofs.lemmas.List.{get_or-drop, get_or-take, length-append}
use Rattle.std.proofs.lemmas.Int.{of_z-to_z}
use Rattle.rooms.specs.Before.{prior}
use Rattle.rooms.specs.House.{rent_of, room_of}
use Rattle.rooms.specs.Rows.{number, signed}
use Rattle.rents.specs.Shown.{Claim}
use Rattle.whole.specs.Bytes.{bytes_of}
use Rattle.whole.proofs.Eight.{eight}
use Rattle.sheet.specs.Format.{Sheet, person_bytes, room_bytes, sheet_bytes, sheet_length, signed_bytes}
use Rattle.sheet.specs.Roundtrip.{Long, SameBytes}
use Rattle.sheet.specs.Write.{handed, number_part, person_part, room_part}
use Rattle.sheet.proofs.Pieces.{paste_after, pieces_long, pieces_same}

-- ---- lengths
pub person_part_long : (rooms before d : List ℕ) (i : ℕ) → length (person_part rooms before d i) ≡ 10
person_part_long rooms before d i = ap (λ (k : ℕ). suc (suc k)) (eight (get_or d i 0)).0

two_long : (x y : ℕ) → length (bytes_of x ++ bytes_of y) ≡ 16
two_long x y = let a = (eight x).0 in let b = (eight y).0 in length-append (bytes_of x) (bytes_of y) ∙ omega arith

pub room_part_long : (n : ℕ) (rents : List ℕ) (r : ℕ) → length (room_part n rents r) ≡ 16
room_part_long n rents r = two_long (get_or rents r 0) (get_or rents (n + r) 0)

pub signed_long : (x : ℤ) → length (signed_bytes x) ≡ 8
signed_long x = (eight (of_z w64 x)).0

pub person_long : (c : Claim) (i : ℕ) → length (person_bytes c i) ≡ 10
person_long c i = ap (λ (k : ℕ). suc (suc k)) (signed_long (number c.d i))

pub room_long : (s : Sheet) (r : ℕ) → length (room_bytes s r) ≡ 16
room_long s r = two_long (of_z w64 (rent_of s.claim.rents r)) (of_z w64 (number s.cents r))

-- The four parts of a sheet.
abbrev pub persons_part : ℕ → Sheet → List ℕ
persons_part n s = flat_map (person_bytes s.claim) (range_with_len 0 n)

abbrev pub rooms_part : ℕ → Sheet → List ℕ
rooms_part n s = flat_map (room_bytes s) (range_with_len 0 n)

abbrev pub numbers_part : ℕ → List ℤ → List ℕ
numbers_part n xs = flat_map (λ i. signed_bytes (number xs i)) (range_with_len 0 n)

module _ (n : ℕ) (s : Sheet) where
  pub persons_part_long : length (persons_part n s) ≡ 10 * n
  persons_part_long = pieces_long (person_bytes s.claim) 10 n (person_long s.claim)

  pub rooms_part_long : length (rooms_part n s) ≡ 16 * n
  rooms_part_long = pieces_long (room_bytes s) 16 n (room_long s)

pub numbers_part_long : (n : ℕ) (xs : List ℤ) → length (numbers_part n xs) ≡ 8 * n
numbers_part_long n xs = pieces_long (λ i. signed_bytes (number xs i)) 8 n (λ i. signed_long (number xs i))

pub long : Long
unfolding sheet_bytes
long n s =
    let a = persons_part n s in
    let b = rooms_part n s in
    let c = numbers_part n s.claim.persons in
    let d = numbers_part n s.claim.rooms in
    omega (
      arith,
      length-append a (b ++ (c ++ d)),
      length-append b (c ++ d),
      length-append c d,
      persons_part_long n s,
      rooms_part_long n s,
      numbers_part_long n s.claim.persons,
      numbers_part_long n s.claim.rooms,
    )

-- Only what is said of the n stands on the sheet.
pub same_bytes : SameBytes
unfolding sheet_bytes
same_bytes n s t a =
    let p : persons_part n s ≡ persons_part n t =
    pieces_same (person_bytes s.claim) (person_bytes t.claim) n (λ i l j. a.room i l j ∷ (a.before i l j ∷ signed_bytes (a.d i l j))) in
    let r : rooms_part n s ≡ rooms_part n t =
    pieces_same (room_bytes s) (room_bytes t) n (λ k l j. signed_bytes (a.rents k l j) ++ signed_bytes (a.cents k l j)) in
    let u : numbers_part n s.claim.persons ≡ numbers_part n t.claim.persons =
    pieces_same (λ i. signed_bytes (number s.claim.persons i)) (λ i. signed_bytes (number t.claim.persons i)) n (λ i l j. signed_bytes (a.persons i l j)) in
    let v : numbers_part n s.claim.rooms ≡ numbers_part n t.claim.rooms =
    pieces_same (λ r. signed_bytes (number s.claim.rooms r)) (λ r. signed_bytes (number t.claim.rooms r)) n (λ r l j. signed_bytes (a.rooms r l j)) in
    λ j. p j ++ (r j ++ (u j ++ v j))

-- ---- what was handed over is on the sheet
-- An element of a mapped list, also past the end where both have their defaults.
mapped : {X Y : Type 0} (f : X → Y) (xs : List X) (i : ℕ) (z : X) → get_or (map f xs) i (f z) ≡ f (get_or xs i z)
mapped f [] i z = refl
mapped f (x ∷ xs) zero z = refl
mapped f (x ∷ xs) (suc i) z = mapped f xs i z

-- Bits that are read as a signed number are its bits.
bits_back : (x y : ℕ) → x ≡ y → x < 2 ^ 64 → bytes_of x ≡ signed_bytes (to_z w64 y)
bits_back x y e h = ap bytes_of (sym (ap (λ (z : ℕ). of_z w64 (to_z w64 z)) (sym e) ∙ of_z-to_z w64 x h))

module _ (n : ℕ) (rooms before d rents persons prices : List ℕ) where
  abbrev meant : Sheet
  meant = handed n rooms before d rents persons prices

  handed_persons : flat_map (person_part rooms before d) (range_with_len 0 n) ≡ persons_part n meant
  handed_persons =
      pieces_same (person_part rooms before d) (person_bytes meant.claim) n
      (λ i l j. sym (get_or-take n rooms i 0 l) j ∷ (prior before i ∷ signed_bytes (sym (mapped pos d i 0) j)))

  handed_rooms : ((k : ℕ) → get_or rents k 0 < 2 ^ 64) → flat_map (room_part n rents) (range_with_len 0 n) ≡ rooms_part n meant
  handed_rooms h =
      pieces_same (room_part n rents) (room_bytes meant) n
      (λ r l j.
      (bits_back (get_or rents r 0) (get_or (take n rents) r 0) (sym (get_or-take n rents r 0 l)) (h r)
      ∙ ap signed_bytes (sym (mapped (to_z w64) (take n rents) r 0))) j
      ++ (bits_back (get_or rents (n + r) 0) (get_or (take n (drop n rents)) r 0) (sym (get_or-take n (drop n rents) r 0 l ∙ get_or-drop n rents r 0)) (h (n + r))
      ∙ ap signed_bytes (sym (mapped (to_z w64) (take n (drop n rents)) r 0))) j)

  handed_numbers : (xs : List ℕ) → flat_map (number_part xs) (range_with_len 0 n) ≡ numbers_part n (signed xs)
  handed_numbers xs = pieces_same (number_part xs) (λ i. signed_bytes (number (signed xs) i)) n (λ i l j. signed_bytes (sym (mapped pos xs i 0) j))

  -- The four parts, each written right after the one before, are the sheet; what lies past it is as it was.
  pub sheet_written : (old : List ℕ) → ((k : ℕ) → get_or rents k 0 < 2 ^ 64) → sheet_length n ≤ length old →
      paste (paste (paste (paste old 0 (flat_map (person_part rooms before d) (range_with_len 0 n)) (10 * n))
      (10 * n) (flat_map (room_part n rents) (range_with_len 0 n)) (16 * n))
      (26 * n) (flat_map (number_part persons) (range_with_len 0 n)) (8 * n))
      (34 * n) (flat_map (number_part prices) (range_with_len 0 n)) (8 * n) ≡ sheet_bytes n meant ++ drop (sheet_length n) old
  unfolding sheet_bytes
  sheet_written old h l =
      let p = persons_part n meant in
      let q = rooms_part n meant in
      let u = numbers_part n (signed persons) in
      let v = numbers_part n (signed prices) in
      let p_long = persons_part_long n meant in
      let q_long = rooms_part_long n meant in
      let u_long = numbers_part_long n (signed persons) in
      let v_long = numbers_part_long n (signed prices) in
      let pq_long : length (p ++ q) ≡ 26 * n = length-append p q ∙ omega arith in
      let pqu_long : length (p ++ q ++ u) ≡ 34 * n = length-append (p ++ q) u ∙ omega arith in
      let all_long : length (p ++ q ++ u ++ v) ≡ 42 * n = length-append (p ++ q ++ u) v ∙ omega arith in
      (λ j.
      paste (paste (paste (paste old 0 (handed_persons j) (10 * n)) (10 * n) (handed_rooms h j) (16 * n)) (26 * n) (handed_numbers persons j) (8 * n))
      (34 * n) (handed_numbers prices j) (8 * n))
      ∙ ap (λ (z : List ℕ). paste (paste z (26 * n) u (8 * n)) (34 * n) v (8 * n))
      (paste_after old 0 (10 * n) p q (10 * n) (16 * n) (26 * n) (sym p_long) (sym q_long) (omega arith) (omega arith) (omega arith))
      ∙ ap (λ (z : List ℕ). paste z (34 * n) v (8 * n))
      (paste_after old 0 (26 * n) (p ++ q) u (26 * n) (8 * n) (34 * n) (sym pq_long) (sym u_long) (omega arith) (omega arith) (omega arith))
      ∙ paste_after old 0 (34 * n) (p ++ q ++ u) v (34 * n) (8 * n) (42 * n) (sym pqu_long) (sym v_long) (omega arith) (omega arith) (omega arith)
      ∙ paste_all old 0 (p ++ q ++ u ++ v) (42 * n) (sym all_long)
      ∙ (λ j. (append_assoc (p ++ q) u v ∙ append_assoc p q (u ++ v)) j ++ drop (zero-add (42 * n) j) old)

-- What is handed over says of the n what another sheet says; then the bytes are that sheet's.
pub record Says (n : ℕ) (σ bs ds qs us vs : List ℕ) (t : Sheet) : Type 0 where
  pub room : (i : ℕ) → i < n → room_of σ i ≡ room_of t.claim.room i
  pub before : (i : ℕ) → i < n → prior bs i ≡ prior t.claim.before i
  pub d : (i : ℕ) → i < n → pos (get_or ds i 0) ≡ number t.claim.d i
  pub rents : (r : ℕ) → r < n → to_z w64 (get_or qs r 0) ≡ rent_of t.claim.rents r
  pub cents : (r : ℕ) → r < n → to_z w64 (get_or qs (n + r) 0) ≡ number t.cents r
  pub persons : (i : ℕ) → i < n → pos (get_or us i 0) ≡ number t.claim.persons i
  pub rooms : (r : ℕ) → r < n → pos (get_or vs r 0) ≡ number t.claim.rooms r

pub handed_says : (n : ℕ) (rooms before d rents persons prices : List ℕ) (t : Sheet) → Says n rooms before d rents persons prices t →
    sheet_bytes n (handed n rooms before d rents persons prices) ≡ sheet_bytes n t
handed_says n rooms before d rents persons prices t h = same_bytes n (handed n rooms before d rents persons prices) t (record {
  room = λ i l. get_or-take n rooms i 0 l ∙ h.room i l;
  before = h.before;
  d = λ i l. mapped pos d i 0 ∙ h.d i l;
  rents = λ r l. mapped (to_z w64) (take n rents) r 0 ∙ ap (to_z w64) (get_or-take n rents r 0 l) ∙ h.rents r l;
  cents = λ r l. mapped (to_z w64) (take n (drop n rents)) r 0 ∙ ap (to_z w64) (get_or-take n (drop n rents) r 0 l ∙ get_or-drop n rents r 0) ∙ h.cents r l;
  persons = λ i l. mapped pos persons i 0 ∙ h.persons i l;
  rooms = λ r l. mapped pos prices r 0 ∙ h.rooms r l;
})
