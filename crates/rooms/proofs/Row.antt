-- Rows: where they end and begin, how long they are in a certified sharing, and a row taken apart at somebody who stands in it.
use Rattle.std.proofs.Common.{◌≡◌, ℕ, ◌<◌, ◌⊎◌, List, [], ◌∷◌, ℤ, ◌+ℤ◌, ◌≤ℤ◌, sym, ap, subst, inl, inr, arith}
use Rattle.std.proofs.lemmas.Int.{ints}
use Rattle.std.proofs.lemmas.Bool.{cases_eq}
use Rattle.rooms.specs.House.{House, room_of}
use Rattle.rooms.specs.Rows.{Apart, Certified, Row, begin, long, number, way}
use Rattle.rooms.specs.Sharing.{CertifiedAround, RowWithin}

pub row_end : (n i : ℕ) (xs : List ℕ) → Row n i xs → i < n
row_end n i [] r = r
row_end n i (k ∷ xs) r = r.0

pub row_begin : (n i : ℕ) (xs : List ℕ) → Row n i xs → begin i xs < n
row_begin n i [] r = r
row_begin n i (k ∷ xs) r = row_begin n k xs r.2

-- Who is none of a row is not who begins it.
pub apart_begin : (i k : ℕ) (xs : List ℕ) → Apart i (k ∷ xs) → ¬ (i ≡ begin k xs)
apart_begin i k [] a = a.0
apart_begin i k (x ∷ xs) a = apart_begin i x xs a.1

-- A way is at most what the numbers rise on it: i's number and the room's together are at least i's worth, k's just k's.
pub certified_way : (h : House) (room : List ℕ) (u v : List ℤ) → Certified h room u v → (k i : ℕ) → k < h.n → i < h.n →
    (number u k +ℤ way h room k i) ≤ℤ number u i
unfolding way
certified_way h room u v c k i l m =
    let a = c.cover i (room_of room k) m (c.housed.each k l) in
    let b = c.tight k l in
    omega (arith, ints)

-- Along a row that telescopes.
certified_row : (h : House) (room : List ℕ) (u v : List ℤ) → Certified h room u v → (i : ℕ) (xs : List ℕ) → Row h.n i xs →
    (number u (begin i xs) +ℤ long h room i xs) ≤ℤ number u i
unfolding long
certified_row h room u v c i [] r = omega (arith, ints)
certified_row h room u v c i (k ∷ xs) r =
    let a = certified_row h room u v c k xs r.2 in
    let b = certified_way h room u v c k i (row_end h.n k xs r.2) r.0 in
    omega (arith, ints)

-- So a row is at most as long as the number at its end is above the one at its beginning, and around it is at most 0.
pub row_within : RowWithin
row_within h room u v t c low i xs r =
    let a = certified_row h room u v c i xs r in
    let b = low (begin i xs) (row_begin h.n i xs r) in
    omega (arith, ints)

pub certified_around : CertifiedAround
certified_around h room u v c i xs r =
    let a = certified_row h room u v c i xs r in
    let b = certified_way h room u v c i (begin i xs) (row_end h.n i xs r) (row_begin h.n i xs r) in
    omega (arith, ints)

-- A row that ends at k taken apart at i: the row that ends at i, and the row from i to k. They are as long together.
pub record Parted (h : House) (room : List ℕ) (i k : ℕ) (xs : List ℕ) : Type 0 where
  pub until : List ℕ
  pub since : List ℕ
  pub row_until : Row h.n i until
  pub row_since : Row h.n k since
  pub begins : begin k since ≡ i
  pub adds : long h room k xs ≡ long h room i until +ℤ long h room k since
  pub within : (j : ℕ) → Apart j (k ∷ xs) → Apart j (k ∷ since)

parted_end : (h : House) (room : List ℕ) (i k : ℕ) (xs : List ℕ) → Row h.n k xs → i ≡ k → Parted h room i k xs
unfolding long
parted_end h room i k xs r e = record {
  until = xs;
  since = [];
  row_until = subst (λ z. Row h.n z xs) (sym e) r;
  row_since = row_end h.n k xs r;
  begins = sym e;
  adds = let a : long h room i xs ≡ long h room k xs = ap (λ z. long h room z xs) e in omega (arith, ints);
  within = λ j a. (a.0, tt);
}

parted_on : (h : House) (room : List ℕ) (i j k : ℕ) (xs : List ℕ) → j < h.n → Apart j (k ∷ xs) → Parted h room i k xs → Parted h room i j (k ∷ xs)
unfolding long
parted_on h room i j k xs l a p = record {
  until = p.until;
  since = k ∷ p.since;
  row_until = p.row_until;
  row_since = (l, p.within j a, p.row_since);
  begins = p.begins;
  adds = let b = p.adds in omega (arith, ints);
  within = λ q b. (b.0, p.within q b.1);
}

-- Somebody stands in a row or is none of it.
pub part : (h : House) (room : List ℕ) (i k : ℕ) (xs : List ℕ) → Row h.n k xs → Apart i (k ∷ xs) ⊎ Parted h room i k xs
part h room i k [] r = elim (cases_eq i k) [ inl e ↦ inr (parted_end h room i k [] r e) | inr e ↦ inl (e, tt) ]
part h room i k (x ∷ xs) r = go (cases_eq i k) (part h room i x xs r.2)
  where
    go : (i ≡ k) ⊎ (i ≡ k → ⊥) → Apart i (x ∷ xs) ⊎ Parted h room i x xs → Apart i (k ∷ x ∷ xs) ⊎ Parted h room i k (x ∷ xs)
    go (inl e) p = inr (parted_end h room i k (x ∷ xs) r e)
    go (inr e) (inl a) = inl (e, a)
    go (inr e) (inr p) = inr (parted_on h room i k x xs r.0 r.1 p)
