-- Every house with somebody in it has a fairest share: turn the sharing along rows around until none is longer than nothing.
use Rattle.std.proofs.Common.{ℕ, zero, suc, ◌<◌, ◌⊎◌, List, map, ℤ, pos, ◌+ℤ◌, nat_abs, ◌≤ℤ◌, ◌<ℤ◌, inl, inr, arith}
use Rattle.std.specs.List.{range_with_len}
use Rattle.std.proofs.lemmas.Int.{ints}
use Rattle.rooms.specs.House.{House, Housed, joint, room_of, sum, value}
use Rattle.rooms.specs.Promise.{Always}
use Rattle.rooms.specs.Rows.{Longest, number, way}
use Rattle.rooms.proofs.Longest.{Circle, longest_or_circle}
use Rattle.rooms.proofs.Sharing.{best}
use Rattle.rooms.proofs.Sum.{sum_le, term_le}
use Rattle.rooms.proofs.Turn.{listed, turned}
use Rattle.rents.specs.Rents.{rents_of}
use Rattle.rents.proofs.Fair.{made_fairest, rents_exist, rents_settle}

-- A sharing in which no way leads to more than the longest rows.
record Still (h : House) : Type 0 where
  room : List ℕ
  d : List ℤ
  housed : Housed h room
  longest : Longest h room d
  most : (k i : ℕ) → k < h.n → i < h.n → (number d k +ℤ way h room k i) ≤ℤ number d i

module _ (h : House) where
  worth_some : (i r : ℕ) → pos 0 ≤ℤ value h i r
  unfolding value
  worth_some i r = omega (arith, ints)

  -- What all rooms are worth to everybody.
  all_worth : ℤ
  all_worth = sum (λ i. sum (value h i) h.n) h.n

  joint_within : (room : List ℕ) → Housed h room → joint h room ≤ℤ all_worth
  unfolding all_worth
  joint_within room s =
      sum_le (λ i. value h i (room_of room i)) (λ i. sum (value h i) h.n) h.n (λ i l. (term_le (value h i) h.n (λ r q. worth_some i r)).1 (room_of room i) (s.each i l))

  joint_some : (room : List ℕ) → pos 0 ≤ℤ joint h room
  joint_some room = (term_le (λ i. value h i (room_of room i)) h.n (λ i l. worth_some i (room_of room i))).0

  -- At each turn the joint worth rises, and it is never above what all rooms are worth to everybody.
  repeat : (f : ℕ) (room : List ℕ) → Housed h room → all_worth <ℤ (pos f +ℤ joint h room) → Still h
  repeat zero room s b = let a = joint_within room s in absurd (omega (arith, ints))
  repeat (suc f) room s b = last (longest_or_circle h room) (repeat f)
    where
      last : ((d : List ℤ) × Longest h room d × ((k i : ℕ) → k < h.n → i < h.n → (number d k +ℤ way h room k i) ≤ℤ number d i)) ⊎ Circle h room →
          ((other : List ℕ) → Housed h other → all_worth <ℤ (pos f +ℤ joint h other) → Still h) → Still h
      last (inl d) again = record { room = room; d = d.0; housed = s; longest = d.1; most = d.2 }
      last (inr c) again =
          let t = turned h room s c.i c.xs c.row in
          let e = t.2 in
          let u = c.above in
          again t.0 t.1 (omega (arith, ints))

  enough : (z j : ℤ) → pos 0 ≤ℤ j → z <ℤ (pos (suc (nat_abs z)) +ℤ j)
  enough z j p = omega (arith, ints)

  still : Still h
  still =
      let first_come = (listed h (λ i. i) (record { each = λ i l. l; own = λ i j l m e. e })).0 in
      repeat (suc (nat_abs all_worth)) (map (λ i. i) (range_with_len 0 h.n)) first_come (enough all_worth (joint h (map (λ i. i) (range_with_len 0 h.n))) (joint_some (map (λ i. i) (range_with_len 0 h.n))))

-- The rents made from the longest rows settle that sharing, so it is best, and they are the fairest.
pub always : Always
always h o =
    let s = still h in
    let rents = rents_exist h s.room s.d s.housed in
    let ps = rents_of h s.room s.d in
    let settled = rents_settle h s.room s.d ps o s.housed rents s.most in (
      s.room,
      h.n,
      ps,
      made_fairest h s.room s.d ps (record { someone = o; housed = s.housed; best = best h s.room h.n ps settled; longest = s.longest; rents = rents }),
    )
