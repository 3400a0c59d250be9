-- Pieces of bytes one after the other, all as long: what they are together, where each stands, and how a loop writes them.
use Rattle.std.proofs.Common.{◌≡◌, ℕ, zero, suc, ◌+◌, ◌*◌, ◌<◌, ◌≤◌, List, [], ◌∷◌, ◌++◌, length, get_or, take, drop, set, sym, refl, ap, ◌∙◌, subst, inl, inr, append_assoc, append-nil, mul-zero, mul-suc, arith, take-add}
use lib.Seq.{drop-append-add, paste}
use Rattle.std.specs.List.{range_with_len, flat_map}
use Rattle.std.proofs.lemmas.List.Edits.{paste_all, paste-paste}
use Rattle.std.proofs.lemmas.List.{drop-append-le, drop-drop, get_or-append-add, get_or_append_left, length-append, length-drop, length-set, set_split, take-append-le}
use Rattle.std.proofs.lemmas.Bool.{cases_lt}
use Rattle.rooms.specs.Bytes.{from_bytes}
use Rattle.whole.specs.Bytes.{bytes_of, number_at, put}
use Rattle.whole.proofs.Eight.{eight}

-- The last piece stands at the end.
push_from : (f : ℕ → List ℕ) (a n j : ℕ) → a + n ≡ j → flat_map f (range_with_len a (suc n)) ≡ flat_map f (range_with_len a n) ++ f j
push_from f a zero j e = append-nil (f a) ∙ ap f (omega arith)
push_from f a (suc n) j e =
    ap (λ zs. f a ++ zs) (push_from f (a + 1) n j (omega arith)) ∙ sym (append_assoc (f a) (flat_map f (range_with_len (a + 1) n)) (f j))

pub pieces_push : (f : ℕ → List ℕ) (n : ℕ) → flat_map f (range_with_len 0 (suc n)) ≡ flat_map f (range_with_len 0 n) ++ f n
pieces_push f n = push_from f 0 n n (omega arith)

pub pieces_same : (f g : ℕ → List ℕ) (n : ℕ) → ((i : ℕ) → i < n → f i ≡ g i) → flat_map f (range_with_len 0 n) ≡ flat_map g (range_with_len 0 n)
pieces_same f g zero h = refl
pieces_same f g (suc n) h =
    pieces_push f n ∙ (λ j. pieces_same f g n (λ i l. h i (omega arith)) j ++ h n (omega arith) j) ∙ sym (pieces_push g n)

pub pieces_long : (f : ℕ → List ℕ) (w n : ℕ) → ((i : ℕ) → length (f i) ≡ w) → length (flat_map f (range_with_len 0 n)) ≡ w * n
pieces_long f w zero h = sym (mul-zero w)
pieces_long f w (suc n) h =
    ap length (pieces_push f n) ∙ length-append (flat_map f (range_with_len 0 n)) (f n)
    ∙ (let a = pieces_long f w n h in let b = h n in omega (arith, mul-suc w n))

-- Pieces that were cut out of a list one after the other are, together, the part that they were cut out of.
pub pieces_cut : (f : ℕ → List ℕ) (s : List ℕ) (base w n : ℕ) → ((i : ℕ) → i < n → f i ≡ take w (drop (base + w * i) s)) →
    flat_map f (range_with_len 0 n) ≡ take (w * n) (drop base s)
pieces_cut f s base w zero h = ap (λ (m : ℕ). take m (drop base s)) (sym (mul-zero w))
pieces_cut f s base w (suc n) h =
    pieces_push f n
    ∙ (λ j. pieces_cut f s base w n (λ i l. h i (omega arith)) j ++ (h n (omega arith) ∙ ap (take w) (sym (drop-drop (w * n) base s))) j)
    ∙ sym (take-add (w * n) w (drop base s)) ∙ ap (λ (m : ℕ). take m (drop base s)) (sym (mul-suc w n))

-- ---- writing: one byte, or eight, over what stood there
set_paste : (s : List ℕ) (at b : ℕ) → at < length s → set s at b ≡ paste s at (b ∷ []) 1
set_paste s at b h =
    let e : suc at ≡ at + 1 = omega arith in
    set_split s at b h ∙ ap (λ (k : ℕ). take at s ++ b ∷ drop k s) e ∙ sym (paste_all s at (b ∷ []) 1 refl)

pub put_paste : (s : List ℕ) (at x : ℕ) → put s at x ≡ paste s at (bytes_of x) 8
unfolding put
put_paste s at x = sym (paste_all s at (bytes_of x) 8 (sym (eight x).0))

-- Written right after what was written.
pub paste_after : (s : List ℕ) (at there : ℕ) (p q : List ℕ) (n m k : ℕ) → n ≡ length p → m ≡ length q → at + n ≡ there → n + m ≡ k → at ≤ length s →
    paste (paste s at p n) there q m ≡ paste s at (p ++ q) k
paste_after s at there p q n m k a b e f l =
    ap (λ (t : ℕ). paste (paste s at p n) t q m) (sym e) ∙ paste-paste s at p q n m a b l ∙ ap (paste s at (p ++ q)) f

-- Two bytes and a number, one after the other; and two numbers.
pub person_paste : (s : List ℕ) (at a b x : ℕ) → at + 10 ≤ length s → put (set (set s at a) (at + 1) b) (at + 2) x ≡ paste s at (a ∷ b ∷ bytes_of x) 10
person_paste s at a b x h =
    let two : set (set s at a) (at + 1) b ≡ paste s at (a ∷ b ∷ []) 2 =
    set_paste (set s at a) (at + 1) b (rw length-set (omega arith)) ∙ ap (λ (t : List ℕ). paste t (at + 1) (b ∷ []) 1) (set_paste s at a (omega arith))
    ∙ paste_after s at (at + 1) (a ∷ []) (b ∷ []) 1 1 2 refl refl refl refl (omega arith) in
    put_paste (set (set s at a) (at + 1) b) (at + 2) x ∙ ap (λ (t : List ℕ). paste t (at + 2) (bytes_of x) 8) two
    ∙ paste_after s at (at + 2) (a ∷ b ∷ []) (bytes_of x) 2 8 10 refl (sym (eight x).0) refl refl (omega arith)

pub room_paste : (s : List ℕ) (at x y : ℕ) → at + 16 ≤ length s → put (put s at x) (at + 8) y ≡ paste s at (bytes_of x ++ bytes_of y) 16
room_paste s at x y h =
    put_paste (put s at x) (at + 8) y ∙ ap (λ (t : List ℕ). paste t (at + 8) (bytes_of y) 8) (put_paste s at x)
    ∙ paste_after s at (at + 8) (bytes_of x) (bytes_of y) 8 8 16 (sym (eight x).0) (sym (eight y).0) refl refl (omega arith)

-- A loop writes one more piece, right after those before it.
pub pieces_more : (f : ℕ → List ℕ) (s : List ℕ) (base w k there : ℕ) → ((i : ℕ) → length (f i) ≡ w) → base + w * k ≡ there → base ≤ length s →
    paste (paste s base (flat_map f (range_with_len 0 k)) (w * k)) there (f k) w ≡ paste s base (flat_map f (range_with_len 0 (k + 1))) (w * (k + 1))
pieces_more f s base w k there h e l =
    let o : suc k ≡ k + 1 = omega arith in
    let p : flat_map f (range_with_len 0 k) ++ f k ≡ flat_map f (range_with_len 0 (k + 1)) = sym (pieces_push f k) ∙ ap (λ (n : ℕ). flat_map f (range_with_len 0 n)) o in
    let q : w * k + w ≡ w * (k + 1) = sym (mul-suc w k) ∙ ap (λ (n : ℕ). w * n) o in
    paste_after s base there (flat_map f (range_with_len 0 k)) (f k) (w * k) w (w * (k + 1)) (sym (pieces_long f w k h)) (sym (h k)) e q l
    ∙ ap (λ (zs : List ℕ). paste s base zs (w * (k + 1))) p

-- ---- reading: a piece stands at a place
pub record Stands (s : List ℕ) (at : ℕ) (piece : List ℕ) : Type 0 where
  pub front : List ℕ
  pub back : List ℕ
  pub whole : s ≡ front ++ (piece ++ back)
  pub place : length front ≡ at

pub stands_before : (s t : List ℕ) (at : ℕ) (p : List ℕ) → Stands s at p → Stands (s ++ t) at p
stands_before s t at p h = record {
  front = h.front;
  back = h.back ++ t;
  whole =
      ap (λ (z : List ℕ). z ++ t) h.whole ∙ append_assoc h.front (p ++ h.back) t ∙ ap (λ (z : List ℕ). h.front ++ z) (append_assoc p h.back t);
  place = h.place;
}

pub stands_after : (s t : List ℕ) (at there : ℕ) (p : List ℕ) → length s + at ≡ there → Stands t at p → Stands (s ++ t) there p
stands_after s t at there p e h = record {
  front = s ++ h.front;
  back = h.back;
  whole = ap (λ (z : List ℕ). s ++ z) h.whole ∙ sym (append_assoc s h.front (p ++ h.back));
  place = let q = h.place in length-append s h.front ∙ omega arith;
}

pub stands_byte : (s : List ℕ) (at : ℕ) (p : List ℕ) (j i : ℕ) → Stands s at p → j < length p → at + j ≡ i → get_or s i 0 ≡ get_or p j 0
stands_byte s at p j i h l e =
    let q : i ≡ length h.front + j = let r = h.place in omega arith in
    (λ k. get_or (h.whole k) (q k) 0) ∙ get_or-append-add h.front (p ++ h.back) j 0 ∙ get_or_append_left p h.back 0 j l

pub stands_number : (s : List ℕ) (at : ℕ) (p : List ℕ) (j i : ℕ) → Stands s at p → j + 8 ≤ length p → at + j ≡ i → number_at s i ≡ number_at p j
unfolding number_at
stands_number s at p j i h l e =
    let q : i ≡ length h.front + j = let r = h.place in omega arith in
    ap from_bytes ((λ k. take 8 (drop (q k) (h.whole k))) ∙ ap (take 8) (drop-append-add h.front (p ++ h.back) j ∙ drop-append-le j p h.back (omega arith))
    ∙ take-append-le 8 (drop j p) h.back (rw length-drop (omega arith)))

pub pieces_stand : (f : ℕ → List ℕ) (w n k : ℕ) → ((i : ℕ) → length (f i) ≡ w) → k < n → Stands (flat_map f (range_with_len 0 n)) (w * k) (f k)
pieces_stand f w zero k h l = absurd (omega arith)
pieces_stand f w (suc n) k h l = subst (λ (z : List ℕ). Stands z (w * k) (f k)) (sym (pieces_push f n)) (elim (cases_lt k n) [
  | inl m ↦ stands_before (flat_map f (range_with_len 0 n)) (f n) (w * k) (f k) (pieces_stand f w n k h m)
  | inr m ↦
      let e : n ≡ k = omega arith in
      subst (λ (i : ℕ). Stands (flat_map f (range_with_len 0 n) ++ f n) (w * i) (f i)) e (record {
        front = flat_map f (range_with_len 0 n);
        back = [];
        whole = ap (λ (z : List ℕ). flat_map f (range_with_len 0 n) ++ z) (sym (append-nil (f n)));
        place = pieces_long f w n h;
      })
])
