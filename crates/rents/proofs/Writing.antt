-- What a slice holds when everybody's rent has been written at their room, and an array when everybody's gain has.
use Rattle.std.proofs.Common.{◌≡◌, ℕ, suc, ◌+◌, ◌-◌, ◌^◌, ◌<◌, ◌≤◌, List, [], ◌∷◌, ◌++◌, map, length, get_or, drop, set, replicate, ℤ, pos, sym, refl, ap, ◌∙◌, ap₂, inl, inr, arith, w64, SFits, to_z, of_z, below_more}
use Rattle.std.specs.List.{range_with_len as counting}
use Rattle.std.proofs.lemmas.List.FromFn.{fill_by_all, get_or-map-range_with_len, length-map-range_with_len}
use Rattle.std.proofs.lemmas.List.{ext_get_or, get_or_append_left, get_or-append_right, get_or-drop, get_or-map, get_or_past, get_or-replicate, get_or-set_other, get_or-set_same, length-append, length-drop, drop-replicate, length-map, length-replicate, length-set, take_at}
use Rattle.std.proofs.lemmas.Int.{ints, to_z-of_z}
use Rattle.std.proofs.lemmas.Bool.{cases_lt}
use Rattle.rooms.specs.House.{House, Housed, rent_of, room_of}
use Rattle.rooms.specs.Format.{most_people}
use Rattle.rooms.proofs.Sharing.{holder}
use Rattle.whole.specs.Bounds.{Within}
use Rattle.rents.specs.Rents.{due, rents_of}
use Rattle.rents.specs.Answer.{bits, held}
use Rattle.rents.proofs.Fair.{rents_exist}

-- The rents of the first i people are written at their rooms; past the rooms all is as it was.
pub record Paid (h : House) (room : List ℕ) (d : List ℤ) (before : List ℕ) (i : ℕ) (rents : List ℕ) : Type 0 where
  pub whole : length rents ≡ length before
  pub each : (k : ℕ) → k < i → get_or rents (room_of room k) 0 ≡ of_z w64 (due h room d k)
  pub past : (r : ℕ) → h.n ≤ r → get_or rents r 0 ≡ get_or before r 0

module _ (h : House) (room : List ℕ) (d : List ℤ) (before : List ℕ) (housed : Housed h room) (fits : h.n ≤ length before) where
  pub paid_none : Paid h room d before 0 before
  paid_none = record { whole = refl; each = λ k l. absurd (omega arith); past = λ r l. refl }

  -- Nobody before has i's room, so theirs stay as written.
  pub paid_more : (i : ℕ) (rents : List ℕ) (x : ℕ) → i < h.n → x ≡ of_z w64 (due h room d i) → Paid h room d before i rents →
      Paid h room d before (i + 1) (set rents (room_of room i) x)
  paid_more i rents x l e p =
      let a : room_of room i < h.n = housed.each i l in
      let b : room_of room i < length rents = let q = p.whole in omega arith in
      record {
        whole = length-set rents (room_of room i) x ∙ p.whole;
        each = below_more _ _
            (λ k m. get_or-set_other rents (room_of room i) (room_of room k) x 0 (λ q. apart k m (housed.own k i (omega arith) l q)) ∙ p.each k m)
            (get_or-set_same rents (room_of room i) x 0 b ∙ e);
        past = λ r m. get_or-set_other rents (room_of room i) r x 0 (λ q. omega arith) ∙ p.past r m;
      }
    where
      apart : (k : ℕ) → k < i → k ≡ i → ⊥
      apart k m q = omega arith

  long : length (bits (rents_of h room d)) ≡ h.n
  long = length-map (rents_of h room d) (of_z w64) ∙ length-map-range_with_len _ 0 h.n

  -- Each room is somebody's, so each has its rent.
  pub paid_all : (rents : List ℕ) → Paid h room d before h.n rents → rents ≡ bits (rents_of h room d) ++ drop h.n before
  paid_all rents p =
      ext_get_or 0 rents (bits (rents_of h room d) ++ drop h.n before)
      (let a = long in
      let b = length-drop h.n before in
      p.whole ∙ sym (length-append (bits (rents_of h room d)) (drop h.n before) ∙ omega arith))
      (λ r l. elim (cases_lt r h.n) [ inl m ↦ room_at r m | inr m ↦ past_at r m ])
    where
      room_at : (r : ℕ) → r < h.n → get_or rents r 0 ≡ get_or (bits (rents_of h room d) ++ drop h.n before) r 0
      room_at r m =
          let k = holder h room housed r m in
          let a : get_or rents r 0 ≡ of_z w64 (due h room d k.0) = ap (λ q. get_or rents q 0) (sym k.2) ∙ p.each k.0 k.1 in
          let b : due h room d k.0 ≡ rent_of (rents_of h room d) r =
          sym ((rents_exist h room d housed).each k.0 k.1) ∙ ap (λ q. rent_of (rents_of h room d) q) k.2 in
          let g : r < length (rents_of h room d) = let q = (rents_exist h room d housed).priced in omega arith in
          a ∙ ap (of_z w64) b ∙ sym (get_or-map (of_z w64) (rents_of h room d) r (pos 0) 0 g)
          ∙ sym (get_or_append_left (bits (rents_of h room d)) (drop h.n before) 0 r (let q = long in omega arith))

      past_at : (r : ℕ) → h.n ≤ r → get_or rents r 0 ≡ get_or (bits (rents_of h room d) ++ drop h.n before) r 0
      past_at r m =
          p.past r m ∙ ap (λ q. get_or before q 0) (omega arith) ∙ sym (get_or-drop h.n before (r - h.n) 0)
          ∙ sym (get_or-append_right (bits (rents_of h room d)) (drop h.n before) h.n r 0 long m)

-- Numbers within the bound are read back from their bits.
pub held_back : (b : ℕ) (zs : List ℤ) → b < 2 ^ 63 → ((k : ℕ) → k < length zs → Within b (get_or zs k (pos 0))) → map (to_z w64) (bits zs) ≡ zs
held_back b [] o w = refl
held_back b (z ∷ zs) o w =
    let a = w 0 (omega arith) in
    let f : SFits w64 z = omega (arith, ints) in
    ap₂ ◌∷◌ (to_z-of_z w64 z f) (held_back b zs o (λ k l. w (suc k) (omega arith)))

pub held_front : (b : ℕ) (zs : List ℤ) (after : List ℕ) (n : ℕ) → b < 2 ^ 63 → length zs ≡ n → ((k : ℕ) → k < n → Within b (get_or zs k (pos 0))) →
    held n (bits zs ++ after) ≡ zs
held_front b zs after n o e w =
    ap (map (to_z w64)) (take_at (bits zs) after n (length-map zs (of_z w64) ∙ e)) ∙ held_back b zs o (λ k l. w k (omega arith))

-- The numbers f of the first i people are written into an array, and nothing else.
pub record Filled (f : ℕ → ℤ) (i : ℕ) (xs : List ℤ) : Type 0 where
  pub whole : length xs ≡ most_people
  pub each : (k : ℕ) → k < i → get_or xs k (pos 0) ≡ f k
  pub past : (k : ℕ) → i ≤ k → get_or xs k (pos 0) ≡ pos 0

pub filled_none : (f : ℕ → ℤ) → Filled f 0 (replicate most_people (pos 0))
filled_none f = record {
  whole = refl;
  each = λ k l. absurd (omega arith);
  past = λ k l. elim (cases_lt k most_people) [
    | inl m ↦ get_or-replicate most_people k (pos 0) (pos 0) m
    | inr m ↦ get_or_past (replicate most_people (pos 0)) k (pos 0) m
  ];
}

pub filled_more : (f : ℕ → ℤ) (i : ℕ) (xs : List ℤ) (x : ℤ) → i < most_people → x ≡ f i → Filled f i xs → Filled f (i + 1) (set xs i x)
filled_more f i xs x l e g =
    let lt : i < length xs = let a = g.whole in omega arith in
    record {
      whole = length-set xs i x ∙ g.whole;
      each = below_more _ _ (λ k m. get_or-set_other xs i k x (pos 0) (λ q. omega arith) ∙ g.each k m) (get_or-set_same xs i x (pos 0) lt ∙ e);
      past = λ k m. get_or-set_other xs i k x (pos 0) (λ q. omega arith) ∙ g.past k (omega arith);
    }

pub filled_all : (f : ℕ → ℤ) (n : ℕ) (xs : List ℤ) → n ≤ most_people → Filled f n xs →
    xs ≡ map f (counting 0 n) ++ replicate (most_people - n) (pos 0)
filled_all f n xs few g =
    ext_get_or (pos 0) xs (map f (counting 0 n) ++ replicate (most_people - n) (pos 0))
    (g.whole ∙ sym (length-append (map f (counting 0 n)) (replicate (most_people - n) (pos 0)) ∙ (let a = long in let b = rest_long in omega arith)))
    (λ k l. elim (cases_lt k n) [ inl m ↦ front_at k m | inr m ↦ past_at k m (let a = g.whole in omega arith) ])
  where
    long : length (map f (counting 0 n)) ≡ n
    long = length-map-range_with_len f 0 n

    rest_long : length (replicate (most_people - n) (pos 0)) ≡ most_people - n
    rest_long = length-replicate (most_people - n) (pos 0)

    front_at : (k : ℕ) → k < n → get_or xs k (pos 0) ≡ get_or (map f (counting 0 n) ++ replicate (most_people - n) (pos 0)) k (pos 0)
    front_at k m =
        g.each k m ∙ sym (get_or-map-range_with_len f 0 n k k (pos 0) m (omega arith))
        ∙ sym (get_or_append_left (map f (counting 0 n)) (replicate (most_people - n) (pos 0)) (pos 0) k (let a = long in omega arith))

    past_at : (k : ℕ) → n ≤ k → k < most_people → get_or xs k (pos 0) ≡ get_or (map f (counting 0 n) ++ replicate (most_people - n) (pos 0)) k (pos 0)
    past_at k m l =
        g.past k m ∙ sym (get_or-replicate (most_people - n) (k - n) (pos 0) (pos 0) (omega arith))
        ∙ sym (get_or-append_right (map f (counting 0 n)) (replicate (most_people - n) (pos 0)) n k (pos 0) long m)

-- An array of nothing whose front is filled with the numbers f.
pub front_filled : (f : ℕ → ℤ) (n : ℕ) (xs : List ℤ) → length xs ≡ n → ((k : ℕ) → k < n → get_or xs k (pos 0) ≡ f k) →
    xs ++ drop n (replicate most_people (pos 0)) ≡ map f (counting 0 n) ++ replicate (most_people - n) (pos 0)
front_filled f n xs l e = ap₂ ◌++◌ (fill_by_all f xs n (pos 0) l e) (drop-replicate n most_people (pos 0))
