-- What is written on a sheet is read back, and what is read is written again.
use Rattle.std.proofs.Common.{◌≡◌, ℕ, zero, suc, ◌+◌, ◌*◌, ◌^◌, ◌<◌, ◌≤◌, List, [], ◌∷◌, ◌++◌, length, get_or, take, drop, ℤ, pos, sym, refl, ap, ◌∙◌, subst, arith, take-add, w64, to_z, of_z}
use Rattle.std.specs.List.{range_with_len, flat_map}
use Rattle.std.proofs.lemmas.List.FromFn.{get_or-map-range_with_len}
use Rattle.std.proofs.lemmas.List.{drop-drop, drop_more, length-drop, take_all, take-append-drop}
use Rattle.std.proofs.lemmas.Int.{ints}
use Rattle.rooms.specs.Before.{nobody, prior}
use Rattle.rooms.specs.Bytes.{Bytes, low_bytes}
use Rattle.rooms.specs.House.{rent_of, room_of}
use Rattle.rooms.specs.Rows.{number}
use Rattle.whole.specs.Bits.{Signed64}
use Rattle.whole.specs.Bytes.{bytes_of, eight_at, number_at, put}
use Rattle.whole.proofs.Eight.{below, eight, signed_back}
use Rattle.sheet.specs.Format.{Sheet, byte_column, column, person_bytes, room_bytes, sheet_bytes, sheet_length, sheet_of, signed_at, signed_bytes}
use Rattle.sheet.specs.Roundtrip.{Agree, ReadsBack, SheetFits, WritesBack}
use Rattle.sheet.proofs.Pieces.{Stands, pieces_cut, pieces_push, pieces_stand, stands_after, stands_before, stands_byte, stands_number}
use Rattle.sheet.proofs.Sheets.{numbers_part, numbers_part_long, person_long, persons_part, persons_part_long, room_long, rooms_part, rooms_part_long, signed_long}

-- ---- what was written is read back
-- Eight bytes written over themselves.
put_again : (x : ℕ) → put (bytes_of x) 0 x ≡ bytes_of x
unfolding put bytes_of low_bytes
put_again x = refl

signed_read : (x : ℤ) → Signed64 x → to_z w64 (number_at (signed_bytes x) 0) ≡ x
signed_read x h =
    ap (λ (s : List ℕ). to_z w64 (number_at s 0)) (sym (put_again (of_z w64 x)))
    ∙ signed_back.read (signed_bytes x) 0 x (let a = signed_long x in omega arith) h

-- A signed number that stands in a piece j bytes after its place.
read_signed : (b : List ℕ) (at : ℕ) (p : List ℕ) (j i : ℕ) (x : ℤ) → Stands b at p → j + 8 ≤ length p → at + j ≡ i → number_at p j ≡ number_at (signed_bytes x) 0 →
    Signed64 x → signed_at b i ≡ x
read_signed b at p j i x h l e q f = ap (to_z w64) (stands_number b at p j i h l e ∙ q) ∙ signed_read x f

-- The numbers within a person's and a room's bytes.
person_number : (r b : ℕ) (x : ℤ) → number_at (r ∷ (b ∷ signed_bytes x)) 2 ≡ number_at (signed_bytes x) 0
unfolding number_at
person_number r b x = refl

rent_number : (x y : ℤ) → number_at (signed_bytes x ++ signed_bytes y) 0 ≡ number_at (signed_bytes x) 0
unfolding number_at bytes_of low_bytes
rent_number x y = refl

cents_number : (x y : ℤ) → number_at (signed_bytes x ++ signed_bytes y) 8 ≡ number_at (signed_bytes y) 0
unfolding number_at bytes_of low_bytes
cents_number x y = refl

module _ (n : ℕ) (s : Sheet) where
  abbrev tail_of : List ℕ
  tail_of = numbers_part n s.claim.persons ++ numbers_part n s.claim.rooms

  person_stands : (i : ℕ) → i < n → Stands (sheet_bytes n s) (10 * i) (person_bytes s.claim i)
  unfolding sheet_bytes
  person_stands i l =
      stands_before (persons_part n s) (rooms_part n s ++ tail_of) (10 * i) (person_bytes s.claim i)
      (pieces_stand (person_bytes s.claim) 10 n i (person_long s.claim) l)

  room_stands : (r : ℕ) → r < n → Stands (sheet_bytes n s) (10 * n + 16 * r) (room_bytes s r)
  unfolding sheet_bytes
  room_stands r l =
      stands_after (persons_part n s) (rooms_part n s ++ tail_of) (16 * r) (10 * n + 16 * r) (room_bytes s r)
      (let a = persons_part_long n s in omega arith)
      (stands_before (rooms_part n s) tail_of (16 * r) (room_bytes s r) (pieces_stand (room_bytes s) 16 n r (room_long s) l))

  -- What comes after the persons' and the rooms' parts.
  tail_stands : (p : List ℕ) (at there : ℕ) → 26 * n + at ≡ there → Stands tail_of at p → Stands (sheet_bytes n s) there p
  unfolding sheet_bytes
  tail_stands p at there e h =
      stands_after (persons_part n s) (rooms_part n s ++ tail_of) (16 * n + at) there p (let a = persons_part_long n s in omega arith)
      (stands_after (rooms_part n s) tail_of at (16 * n + at) p (let a = rooms_part_long n s in omega arith) h)

  number_stands : (xs : List ℤ) (i : ℕ) → i < n → Stands (numbers_part n xs) (8 * i) (signed_bytes (number xs i))
  number_stands xs i l = pieces_stand (λ k. signed_bytes (number xs k)) 8 n i (λ k. signed_long (number xs k)) l

  persons_stand : (i : ℕ) → i < n → Stands (sheet_bytes n s) (26 * n + 8 * i) (signed_bytes (number s.claim.persons i))
  persons_stand i l =
      let x = signed_bytes (number s.claim.persons i) in
      tail_stands x (8 * i) (26 * n + 8 * i) refl
      (stands_before (numbers_part n s.claim.persons) (numbers_part n s.claim.rooms) (8 * i) x (number_stands s.claim.persons i l))

  prices_stand : (r : ℕ) → r < n → Stands (sheet_bytes n s) (34 * n + 8 * r) (signed_bytes (number s.claim.rooms r))
  prices_stand r l =
      let x = signed_bytes (number s.claim.rooms r) in
      tail_stands x (8 * n + 8 * r) (34 * n + 8 * r) (omega arith)
      (stands_after (numbers_part n s.claim.persons) (numbers_part n s.claim.rooms) (8 * r) (8 * n + 8 * r) x
      (let a = numbers_part_long n s.claim.persons in omega arith) (number_stands s.claim.rooms r l))

-- An entry of a column is what stands at its place.
byte_entry : (b : List ℕ) (at step n i d : ℕ) → i < n → get_or (byte_column b at step n) i d ≡ get_or b (at + step * i) 0
byte_entry b at step n i d l = get_or-map-range_with_len (λ k. get_or b (at + step * k) 0) 0 n i i d l (omega arith)

pub column_entry : (b : List ℕ) (at step n i : ℕ) → i < n → number (column b at step n) i ≡ signed_at b (at + step * i)
column_entry b at step n i l = get_or-map-range_with_len (λ k. signed_at b (at + step * k)) 0 n i i (pos 0) l (omega arith)

-- What fits is written as bytes.
bytes_append : (a b : List ℕ) → Bytes a → Bytes b → Bytes (a ++ b)
bytes_append [] b h g k = g k
bytes_append (x ∷ a) b h g zero = h 0
bytes_append (x ∷ a) b h g (suc k) = bytes_append a b (λ i. h (suc i)) g k

pieces_bytes : (f : ℕ → List ℕ) (n : ℕ) → ((i : ℕ) → i < n → Bytes (f i)) → Bytes (flat_map f (range_with_len 0 n))
pieces_bytes f zero h = λ k. omega arith
pieces_bytes f (suc n) h =
    subst Bytes (sym (pieces_push f n)) (bytes_append (flat_map f (range_with_len 0 n)) (f n) (pieces_bytes f n (λ i l. h i (omega arith))) (h n (omega arith)))

signed_small : (x : ℤ) → Bytes (signed_bytes x)
signed_small x = (eight (of_z w64 x)).1

person_small : (r b x : ℕ) → r < 256 → b < 256 → Bytes (r ∷ (b ∷ bytes_of x))
person_small r b x h g zero = h
person_small r b x h g (suc zero) = g
person_small r b x h g (suc (suc k)) = (eight x).1 k

sheet_small : (n : ℕ) (s : Sheet) → SheetFits n s → Bytes (sheet_bytes n s)
unfolding sheet_bytes
sheet_small n s f =
    let c = s.claim in
    let number_small : (xs : List ℤ) → Bytes (numbers_part n xs) =
    λ xs. pieces_bytes (λ i. signed_bytes (number xs i)) n (λ i l. signed_small (number xs i)) in
    bytes_append (persons_part n s) (rooms_part n s ++ tail_of n s)
    (pieces_bytes (person_bytes c) n (λ i l. person_small (room_of c.room i) (prior c.before i) (of_z w64 (number c.d i)) (f.room i l) (f.before i l)))
    (bytes_append (rooms_part n s) (tail_of n s)
    (pieces_bytes (room_bytes s) n
    (λ r l. bytes_append (signed_bytes (rent_of c.rents r)) (signed_bytes (number s.cents r)) (signed_small (rent_of c.rents r)) (signed_small (number s.cents r))))
    (bytes_append (numbers_part n c.persons) (numbers_part n c.rooms) (number_small c.persons) (number_small c.rooms)))

-- Every piece stands at its place: the pieces before it are as many as are counted, and each is as long. So what is read there is what the piece was
-- made of: a byte is itself, and the eight bytes of a number that fits are that number.
read_agrees : (n : ℕ) (s : Sheet) → SheetFits n s → Agree n (sheet_of n (sheet_bytes n s)) s
unfolding sheet_of
read_agrees n s f =
    let b = sheet_bytes n s in
    let c = s.claim in
    record {
      room = λ i l. byte_entry b 0 10 n i 0 l
          ∙ stands_byte b (10 * i) (person_bytes c i) 0 (0 + 10 * i) (person_stands n s i l) (let a = person_long c i in omega arith) (omega arith);
      before = λ i l. byte_entry b 1 10 n i nobody l
          ∙ stands_byte b (10 * i) (person_bytes c i) 1 (1 + 10 * i) (person_stands n s i l) (let a = person_long c i in omega arith) (omega arith);
      d = λ i l. column_entry b 2 10 n i l
          ∙ read_signed b (10 * i) (person_bytes c i) 2 (2 + 10 * i) (number c.d i) (person_stands n s i l) (let a = person_long c i in omega arith) (omega arith)
          (person_number (room_of c.room i) (prior c.before i) (number c.d i)) (f.d i l);
      rents = λ r l. column_entry b (10 * n) 16 n r l
          ∙ read_signed b (10 * n + 16 * r) (room_bytes s r) 0 (10 * n + 16 * r) (rent_of c.rents r) (room_stands n s r l) (let a = room_long s r in omega arith) (omega arith)
          (rent_number (rent_of c.rents r) (number s.cents r)) (f.rents r l);
      cents = λ r l. column_entry b (10 * n + 8) 16 n r l
          ∙ read_signed b (10 * n + 16 * r) (room_bytes s r) 8 (10 * n + 8 + 16 * r) (number s.cents r) (room_stands n s r l) (let a = room_long s r in omega arith) (omega arith)
          (cents_number (rent_of c.rents r) (number s.cents r)) (f.cents r l);
      persons = λ i l. column_entry b (26 * n) 8 n i l
          ∙ read_signed b (26 * n + 8 * i) (signed_bytes (number c.persons i)) 0 (26 * n + 8 * i) (number c.persons i) (persons_stand n s i l)
          (let a = signed_long (number c.persons i) in omega arith) (omega arith) refl (f.persons i l);
      rooms = λ r l. column_entry b (34 * n) 8 n r l
          ∙ read_signed b (34 * n + 8 * r) (signed_bytes (number c.rooms r)) 0 (34 * n + 8 * r) (number c.rooms r) (prices_stand n s r l)
          (let a = signed_long (number c.rooms r) in omega arith) (omega arith) refl (f.rooms r l);
    }

pub reads_back : ReadsBack
reads_back n s f = (sheet_small n s f, read_agrees n s f)

-- ---- what is read is written again
signed_again : (b : List ℕ) (at step n i : ℕ) → Bytes b → at + step * i + 8 ≤ length b → i < n → signed_bytes (number (column b at step n) i) ≡ eight_at b (at + step * i)
signed_again b at step n i h fits l = ap signed_bytes (column_entry b at step n i l) ∙ signed_back.again b (at + step * i) fits h

-- Two bytes and the eight after them are ten.
ten : (b : List ℕ) (i : ℕ) → i + 10 ≤ length b → get_or b i 0 ∷ (get_or b (i + 1) 0 ∷ eight_at b (i + 2)) ≡ take 10 (drop i b)
ten b i h =
    let e : i + 1 + 1 ≡ i + 2 = omega arith in
    sym (ap (take 10) (drop_more b i 0 (omega arith) ∙ ap (λ (t : List ℕ). get_or b i 0 ∷ t)
    (drop_more b (i + 1) 0 (omega arith) ∙ ap (λ (k : ℕ). get_or b (i + 1) 0 ∷ drop k b) e)))

-- Eight and eight are sixteen.
sixteen : (b : List ℕ) (i j : ℕ) → i + 8 ≡ j → eight_at b i ++ eight_at b j ≡ take 16 (drop i b)
sixteen b i j e =
    ap (λ (t : List ℕ). eight_at b i ++ take 8 t) (ap (λ (k : ℕ). drop k b) (sym e) ∙ sym (drop-drop 8 i b)) ∙ sym (take-add 8 8 (drop i b))

-- A part and all that comes after it.
onward : (b : List ℕ) (i m j : ℕ) → i + m ≡ j → take m (drop i b) ++ drop j b ≡ drop i b
onward b i m j e =
    ap (λ (t : List ℕ). take m (drop i b) ++ t) (ap (λ (k : ℕ). drop k b) (sym e) ∙ sym (drop-drop m i b)) ∙ take-append-drop m (drop i b)

-- Bits as a signed number fit.
signed_fits : (x : ℕ) → x < 2 ^ 64 → Signed64 (to_z w64 x)
signed_fits x h = record { low = omega (arith, ints); high = omega (arith, ints) }

entry_fits : (b : List ℕ) (at step n i : ℕ) → Bytes b → i < n → Signed64 (number (column b at step n) i)
entry_fits b at step n i h l = rw (column_entry b at step n i l) (signed_fits (number_at b (at + step * i)) (below b (at + step * i) h))

module _ (n : ℕ) (b : List ℕ) (h : Bytes b) (e : length b ≡ sheet_length n) where
  abbrev said : Sheet
  said = sheet_of n b

  persons_again : persons_part n said ≡ take (10 * n) (drop 0 b)
  unfolding sheet_of
  persons_again = pieces_cut (person_bytes said.claim) b 0 10 n each
    where
      each : (i : ℕ) → i < n → person_bytes said.claim i ≡ take 10 (drop (0 + 10 * i) b)
      each i l =
          let p : 1 + 10 * i ≡ 0 + 10 * i + 1 = omega arith in
          let q : 2 + 10 * i ≡ 0 + 10 * i + 2 = omega arith in
          (λ j. byte_entry b 0 10 n i 0 l j ∷ ((byte_entry b 1 10 n i nobody l ∙ ap (λ (k : ℕ). get_or b k 0) p) j
          ∷ (signed_again b 2 10 n i h (omega arith) l ∙ ap (eight_at b) q) j)) ∙ ten b (0 + 10 * i) (omega arith)

  rooms_again : rooms_part n said ≡ take (16 * n) (drop (10 * n) b)
  unfolding sheet_of
  rooms_again =
      pieces_cut (room_bytes said) b (10 * n) 16 n
      (λ r l.
      (λ j. signed_again b (10 * n) 16 n r h (omega arith) l j ++ signed_again b (10 * n + 8) 16 n r h (omega arith) l j)
      ∙ sixteen b (10 * n + 16 * r) (10 * n + 8 + 16 * r) (omega arith))

  numbers_again : (at : ℕ) → at + 8 * n ≤ length b → numbers_part n (column b at 8 n) ≡ take (8 * n) (drop at b)
  numbers_again at fits = pieces_cut (λ i. signed_bytes (number (column b at 8 n) i)) b at 8 n (λ i l. signed_again b at 8 n i h (omega arith) l)

  -- A byte that is read is itself, and the number of eight bytes has those eight bytes. So each piece is what stands at its place, each of the four
  -- parts is what it was read from, and as long as the sheet is, the four parts are all of it.
  again : sheet_bytes n said ≡ b
  unfolding sheet_bytes sheet_of
  again =
      let last : take (8 * n) (drop (34 * n) b) ≡ drop (34 * n) b = take_all (8 * n) (drop (34 * n) b) (rw length-drop (omega arith)) in
      (λ j. persons_again j ++ (rooms_again j ++ (numbers_again (26 * n) (omega arith) j ++ (numbers_again (34 * n) (omega arith) ∙ last) j)))
      ∙ ap (λ (t : List ℕ). take (10 * n) b ++ (take (16 * n) (drop (10 * n) b) ++ t)) (onward b (26 * n) (8 * n) (34 * n) (omega arith))
      ∙ ap (λ (t : List ℕ). take (10 * n) b ++ t) (onward b (10 * n) (16 * n) (26 * n) (omega arith))
      ∙ onward b 0 (10 * n) (10 * n) (omega arith)

  said_fits : SheetFits n said
  unfolding sheet_of
  said_fits = record {
    room = λ i l. rw (byte_entry b 0 10 n i 0 l) (h (0 + 10 * i));
    before = λ i l. rw (byte_entry b 1 10 n i nobody l) (h (1 + 10 * i));
    d = λ i l. entry_fits b 2 10 n i h l;
    rents = λ r l. entry_fits b (10 * n) 16 n r h l;
    cents = λ r l. entry_fits b (10 * n + 8) 16 n r h l;
    persons = λ i l. entry_fits b (26 * n) 8 n i h l;
    rooms = λ r l. entry_fits b (34 * n) 8 n r h l;
  }

pub writes_back : WritesBack
writes_back n b h e = (again n b h e, said_fits n b h e)
