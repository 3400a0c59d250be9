-- Eight bytes at a place, and the number that they are: nothing is lost either way.
use Rattle.std.proofs.Common.{◌≡◌, ℕ, ◌+◌, ◌-◌, ◌*◌, ◌/◌, ◌%◌, ◌^◌, ◌<◌, ◌≤◌, List, [], ◌∷◌, ◌++◌, length, get_or, take, drop, ℤ, pos, negsuc, sym, refl, ap, ◌∙◌, inl, inr, append_assoc, arith, length-append, length-drop, take-append-drop, length-take, w64, SFits, to_z, of_z}
use Rattle.std.proofs.lemmas.List.{take_at, take-take, drop_at, take-append-le, drop-append-le, length-take-le, get_or-take, get_or_append_left, get_or-append_right, get_or-drop}
use Rattle.std.proofs.lemmas.Slice.{drop-append-drop}
use Rattle.std.proofs.lemmas.Int.{ints, to_z-of_z, of_z-to_z}
use Rattle.rooms.specs.Bytes.{low_bytes, from_bytes}
use Rattle.rooms.proofs.Bytes.{low_length, low_small, from_low, from_below, low_part, part_bytes, from_more, from_none}
use Rattle.whole.specs.Bytes.{bytes_of, eight_at, number_at, put, Eight, ReadBack, Kept, Below, BytesBack, SignedBytesBack}

-- What lies within the front of a list does not depend on what follows.
in_front : (u t t' : List ℕ) (p : ℕ) → p + 8 ≤ length u → eight_at (u ++ t) p ≡ eight_at (u ++ t') p
in_front u t t' p h =
    let a : p ≤ length u = omega arith in
    let b : 8 ≤ length (drop p u) = rw length-drop (omega arith) in
    rw (drop-append-le p u t a, drop-append-le p u t' a, take-append-le 8 (drop p u) t b, take-append-le 8 (drop p u) t' b)

module _ (s : List ℕ) (at x : ℕ) (fits : at + 8 ≤ length s) where
  pub at_put : eight_at (put s at x) at ≡ bytes_of x
  unfolding put bytes_of
  at_put =
      let e : length (take at s) ≡ at = length-take-le at s (omega arith) in
      rw (drop_at (take at s) (low_bytes 8 x ++ drop (at + 8) s) at e) (take_at (low_bytes 8 x) (drop (at + 8) s) 8 (low_length 8 x))

  pub before_put : (p : ℕ) → p + 8 ≤ at → eight_at (put s at x) p ≡ eight_at s p
  unfolding put
  before_put p h =
      let e : length (take at s) ≡ at = length-take-le at s (omega arith) in
      in_front (take at s) (bytes_of x ++ drop (at + 8) s) (drop at s) p (omega arith) ∙ rw take-append-drop

  pub after_put : (p : ℕ) → at + 8 ≤ p → eight_at (put s at x) p ≡ eight_at s p
  unfolding put bytes_of
  after_put p h =
      let e : length (take at s ++ low_bytes 8 x) ≡ at + 8 =
      rw (length-append, low_length, length-take-le at s (omega arith)) in
      ap (take 8)
      (ap (drop p) (sym (append_assoc (take at s) (low_bytes 8 x) (drop (at + 8) s)))
      ∙ drop-append-drop (at + 8) s (take at s ++ low_bytes 8 x) p h e)

  pub byte_before_put : (k : ℕ) → k < at → get_or (put s at x) k 0 ≡ get_or s k 0
  unfolding put
  byte_before_put k h =
      let e : k < length (take at s) = rw (length-take-le at s (omega arith)) h in
      get_or_append_left (take at s) (bytes_of x ++ drop (at + 8) s) 0 k e ∙ get_or-take at s k 0 h

  pub byte_after_put : (k : ℕ) → at + 8 ≤ k → get_or (put s at x) k 0 ≡ get_or s k 0
  unfolding put bytes_of
  byte_after_put k h =
      let e : length (take at s ++ low_bytes 8 x) ≡ at + 8 =
      rw (length-append, low_length, length-take-le at s (omega arith)) in
      let m : at + 8 + (k - (at + 8)) ≡ k = omega arith in
      rw (← append_assoc, get_or-append_right (take at s ++ low_bytes 8 x) (drop (at + 8) s) (at + 8) k 0 e h, get_or-drop, m)

  pub length_put : length (put s at x) ≡ length s
  unfolding put bytes_of
  length_put =
      simp (length-append, length-take, length-drop, low_length) (omega arith)

pub eight : Eight
unfolding bytes_of
eight x = (low_length 8 x, low_small 8 x)

pub read_back : ReadBack
unfolding number_at bytes_of
read_back s at x h l = ap from_bytes (at_put s at x h) ∙ from_low 8 x l

pub kept : Kept
unfolding number_at
kept s at x h = (
  length_put s at x h,
  λ k d. elim d [ inl l ↦ byte_before_put s at x h k l | inr l ↦ byte_after_put s at x h k l ],
  λ p d. elim d [ inl l ↦ ap from_bytes (before_put s at x h p l) | inr l ↦ ap from_bytes (after_put s at x h p l) ],
)

pub below : Below
unfolding number_at
below s at h = from_below 8 (eight_at s at) (simp (length-take, length-drop) (omega arith)) (part_bytes 8 s at h)

pub bytes_back : BytesBack
unfolding number_at bytes_of
bytes_back s at h b = low_part 8 s at h b

ofZ_below : (x : ℤ) → SFits w64 x → of_z w64 x < 2 ^ 64
ofZ_below (pos n) f = let h = f.sfits in omega arith
ofZ_below (negsuc n) f = omega arith

pub signed_back : SignedBytesBack
signed_back = record {
  read = λ s at x h f.
      let g : SFits w64 x = omega (arith, ints) in
      let l : of_z w64 x < 2 ^ 64 = ofZ_below x g in
      ap (to_z w64) (read_back s at (of_z w64 x) h l) ∙ to_z-of_z w64 x g;
  again = λ s at h b. ap bytes_of (of_z-to_z w64 (number_at s at) (below s at b)) ∙ bytes_back s at h b;
}

-- ---- the same, with the eight bytes written out
pub number_is :
    (s : List ℕ) (at : ℕ) → number_at s at ≡ get_or s at 0 + get_or s (at + 1) 0 * 256 + get_or s (at + 2) 0 * 65536 + get_or s (at + 3) 0 * 16777216
    + get_or s (at + 4) 0 * 4294967296 + get_or s (at + 5) 0 * 1099511627776 + get_or s (at + 6) 0 * 281474976710656 + get_or s (at + 7) 0 * 72057594037927936
unfolding number_at
number_is s at =
    let z = from_none s (at + 8) in
    omega (
      arith,
      from_more 7 s at (at + 1) refl,
      from_more 6 s (at + 1) (at + 2) (omega arith),
      from_more 5 s (at + 2) (at + 3) (omega arith),
      from_more 4 s (at + 3) (at + 4) (omega arith),
      from_more 3 s (at + 4) (at + 5) (omega arith),
      from_more 2 s (at + 5) (at + 6) (omega arith),
      from_more 1 s (at + 6) (at + 7) (omega arith),
      from_more 0 s (at + 7) (at + 8) (omega arith),
    )

-- So of a list that is those eight bytes.
pub number_of :
    (s : List ℕ) (at : ℕ) (e : List ℕ) → e ≡ eight_at s at → get_or e 0 0 + get_or e 1 0 * 256 + get_or e 2 0 * 65536 + get_or e 3 0 * 16777216
    + get_or e 4 0 * 4294967296 + get_or e 5 0 * 1099511627776 + get_or e 6 0 * 281474976710656 + get_or e 7 0 * 72057594037927936 ≡ number_at s at
unfolding number_at
number_of s at e h = sym (number_is e 0) ∙ ap from_bytes (rw h (take-take 8 8 (drop at s) (omega arith)))

pub bytes_are :
    (x : ℕ) → bytes_of x ≡ x % 256 ∷ x / 256 % 256 ∷ x / 65536 % 256 ∷ x / 16777216 % 256 ∷ x / 4294967296 % 256 ∷ x / 1099511627776 % 256 ∷
    x / 281474976710656 % 256 ∷ x / 72057594037927936 % 256 ∷ []
unfolding bytes_of low_bytes
bytes_are x =
    let a : x / 256 / 256 ≡ x / 65536 = omega arith in
    let b : x / 65536 / 256 ≡ x / 16777216 = omega arith in
    let c : x / 16777216 / 256 ≡ x / 4294967296 = omega arith in
    let d : x / 4294967296 / 256 ≡ x / 1099511627776 = omega arith in
    let e : x / 1099511627776 / 256 ≡ x / 281474976710656 = omega arith in
    let f : x / 281474976710656 / 256 ≡ x / 72057594037927936 = omega arith in
    rw (a, b, c, d, e, f)
