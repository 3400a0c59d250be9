-- One more turn of a round: the nearest room is reached, and its holder looks at every room.
use Rattle.std.proofs.Common.{◌≡◌, ℕ, ◌+◌, ◌<◌, ◌≤◌, true, false, ltb, ◌⊎◌, sym, ap, ◌∙◌, inl, inr, ⊎_elim, arith}
use Rattle.std.proofs.lemmas.Bool.{cases_eq, cases_Bool, ltb-true, ltb-false, eq-eqb, ne_eqb, cond-true, cond-false}
use Rattle.assignment.specs.Search.{offer_of}
use Rattle.assignment.specs.Run.{sum_of}
use Rattle.assignment.specs.Between.{Dual, Placed}
use Rattle.assignment.proofs.Invariant.{Looked, Started, Comes, mark, Grown, Marked}
use Rattle.assignment.proofs.Near.{Nearest}
use Rattle.assignment.proofs.Sums.{sum_none, sum_one, sum_most}

-- What a look does to one room: a lower distance, by way of the one who looks, or nothing.
abbrev pub Look : (ℕ → ℕ → ℕ) → (u v : ℕ → ℕ) → ℕ → ℕ → (b f b' f' : ℕ → ℕ) → ℕ → Type 0
Look W u v i dist b f b' f' r =
    ((b' r + W i r ≡ dist + u i + v r) × (b' r < b r) × (f' r ≡ i))
    ⊎ ((b r + W i r ≤ dist + u i + v r) × (b' r ≡ b r) × (f' r ≡ f r))

pub look_cases : {H : ℕ} (n : ℕ) (W : ℕ → ℕ → ℕ) (u v : ℕ → ℕ) (i dist : ℕ) (b f b' f' : ℕ → ℕ) → Dual n H W u v → i < n → Looked n W u v i dist b f b' f' →
    (r : ℕ) → r < n → Look W u v i dist b f b' f' r
look_cases n W u v i dist b f b' f' pr hi x r l =
    ⊎_elim
    (λ (t : ltb (offer_of W u v i dist r) (b r) ≡ true).
    let e : b' r ≡ offer_of W u v i dist r = x.near r l ∙ cond-true _ _ _ t in
    let g : f' r ≡ i = x.parent r l ∙ cond-true _ _ _ t in
    inl (omega (arith, pr.cover i r hi l), omega (arith, ltb-true _ _ t), g))
    (λ (t : ltb (offer_of W u v i dist r) (b r) ≡ false).
    let e : b' r ≡ b r = x.near r l ∙ cond-false _ _ _ t in
    let g : f' r ≡ f r = x.parent r l ∙ cond-false _ _ _ t in
    inr (omega (arith, pr.cover i r hi l, ltb-false _ _ t), e, g))
    (cases_Bool (ltb (offer_of W u v i dist r) (b r)))

pub unmarked : (x : ℕ) → x ≡ 0 → mark x ≡ 0
unmarked x e = cond-true _ _ _ (eq-eqb x 0 e)

pub marks : (x : ℕ) → 0 < x → mark x ≡ 1
marks x h = cond-false _ _ _ (ne_eqb x 0 (λ (e : x ≡ 0). omega arith))

-- The first look, of p: no room is reached.
pub grown_none : {H : ℕ} (n : ℕ) (W : ℕ → ℕ → ℕ) (p : ℕ) (u v room holder b f s : ℕ → ℕ) → p < n → Placed n H W p u v room holder → Started n W u v p b f s →
    Grown n W p u v room holder b f s 0
grown_none n W p u v room holder b f s hp pl st = record {
  near = λ r l. omega (arith, pl.dual.cover p r hp l, st.near r l);
  looked = λ i r li lr z. absurd (omega (arith, st.fresh (room i) (pl.held.into i (omega arith))));
  comes = λ r l. inl (st.parent r l, omega (arith, pl.dual.cover p r hp l, st.near r l));
  order = λ r t lr lt z y. absurd (omega (arith, st.fresh r lr));
  taken = λ r l z. absurd (omega (arith, st.fresh r l));
  within = λ r l. omega (arith, st.fresh r l);
  count = sum_none _ p (λ i l. unmarked _ (st.fresh (room i) (pl.held.into i (omega arith))));
}

-- The nearest room m is reached, and is held by a placed person. Offers from there are at least m's distance, so rooms reached before are left as they
-- are, and no room not reached comes nearer than m.
module _ {H : ℕ} (n : ℕ) (W : ℕ → ℕ → ℕ) (p : ℕ) (u v room holder b f s : ℕ → ℕ) (k : ℕ) (b' f' z : ℕ → ℕ) (m : ℕ)
    (hp : p < n) (pl : Placed n H W p u v room holder) (g : Grown n W p u v room holder b f s k) (nr : Nearest n b s m)
    (mk : Marked s z m (k + 1)) (ow : holder m < p) (rx : Looked n W u v (holder m) (b m) b f b' f') where
  hm : m < n
  hm = nr.here

  back_m : room (holder m) ≡ m
  back_m = pl.held.forth m nr.here

  look : (r : ℕ) → r < n → Look W u v (holder m) (b m) b f b' f' r
  look = look_cases n W u v (holder m) (b m) b f b' f' pl.dual (omega arith) rx

  -- A room that is reached is no farther than m.
  reached : (r : ℕ) → r < n → 0 < z r → b r ≤ b m
  reached r l h =
      ⊎_elim (λ (e : r ≡ m). grind arith)
      (λ (ne : r ≡ m → ⊥). g.order r m l nr.here (omega (arith, mk.others r ne)) nr.fresh)
      (cases_eq r m)

  -- So the look leaves it.
  stays : (r : ℕ) → r < n → 0 < z r → (b' r ≡ b r) × (f' r ≡ f r)
  stays r l h =
      ⊎_elim
      (λ (x : (b' r + W (holder m) r ≡ b m + u (holder m) + v r) × (b' r < b r) × (f' r ≡ holder m)).
      absurd (omega (arith, reached r l h, pl.dual.cover (holder m) r (omega arith) l)))
      (λ (x : (b r + W (holder m) r ≤ b m + u (holder m) + v r) × (b' r ≡ b r) × (f' r ≡ f r)). (x.1, x.2))
      (look r l)

  lower : (r : ℕ) → r < n → b' r ≤ b r
  lower r l = grind (arith, look r l)

  by_m : (r : ℕ) → r < n → b' r + W (holder m) r ≤ b m + u (holder m) + v r
  by_m r l = grind (arith, look r l)

  -- Reached before: it is not m, and keeps its turn.
  before : (r : ℕ) → 0 < s r → z r ≡ s r
  before r h = mk.others r (λ e. grind (arith, nr.fresh))

  looked' : (i r : ℕ) → i < p → r < n → 0 < z (room i) → b' r + W i r ≤ b' (room i) + u i + v r
  looked' i r li lr h =
      ⊎_elim
      (λ (e : room i ≡ m). let q : i ≡ holder m = sym (pl.held.back i (omega arith)) ∙ ap holder e in
      let st : b' m ≡ b m = (stays m nr.here (omega (arith, mk.here))).0 in
      rw (e, st, q) (by_m r lr))
      (λ (ne : room i ≡ m → ⊥).
      omega (arith, (stays (room i) (pl.held.into i (omega arith)) h).0, lower r lr, g.looked i r li lr (omega (arith, mk.others (room i) ne))))
      (cases_eq (room i) m)

  comes_new : (r : ℕ) → r < n → (b' r + W (holder m) r ≡ b m + u (holder m) + v r) × (b' r < b r) × (f' r ≡ holder m) → Comes W p u v room b' f' z r
  comes_new r l x =
      let st : b' m ≡ b m = (stays m nr.here (omega (arith, mk.here))).0 in
      inr (rw x.2 (ow, rw back_m (omega (arith, mk.here)), rw (back_m, st) x.0, λ h. absurd (omega (arith, (stays r l h).0))))

  comes_old : (r : ℕ) → r < n → (b r + W (holder m) r ≤ b m + u (holder m) + v r) × (b' r ≡ b r) × (f' r ≡ f r) → Comes W p u v room b f s r → Comes W p u v room b' f' z r
  comes_old r l y (inl q) = inl (y.2 ∙ q.0, omega arith)
  comes_old r l y (inr q) =
      let lf : room (f r) < n = pl.held.into (f r) (omega arith) in
      let zr : z (room (f r)) ≡ s (room (f r)) = before _ q.1 in
      let st : b' (room (f r)) ≡ b (room (f r)) = (stays (room (f r)) lf (omega arith)).0 in
      let wi : s (room (f r)) ≤ k = g.within (room (f r)) lf in
      inr (rw y.2 (
        q.0,
        omega arith,
        omega arith,
        λ h. ⊎_elim (λ (e : r ≡ m). grind (arith, mk.here)) (λ (ne : r ≡ m → ⊥). omega (arith, mk.others r ne, q.3 (omega (arith, mk.others r ne)))) (cases_eq r m),
      ))

  comes' : (r : ℕ) → r < n → Comes W p u v room b' f' z r
  comes' r l = ⊎_elim (comes_new r l) (λ y. comes_old r l y (g.comes r l)) (look r l)

  order' : (r t : ℕ) → r < n → t < n → 0 < z r → z t ≡ 0 → b' r ≤ b' t
  order' r t lr lt h o =
      let so : s t ≡ 0 = ⊎_elim (λ (e : t ≡ m). absurd (grind (arith, mk.here))) (λ (ne : t ≡ m → ⊥). omega (arith, mk.others t ne)) (cases_eq t m) in
      let low : b m ≤ b t = nr.least t lt so in
      let re : b r ≤ b m = reached r lr h in
      let st : b' r ≡ b r = (stays r lr h).0 in
      let co : W (holder m) t ≤ u (holder m) + v t = pl.dual.cover (holder m) t (omega arith) lt in
      grind (arith, look t lt)

  -- One more room is reached, and only m's holder holds it.
  count' : sum_of (λ i. mark (z (room i))) p ≡ k + 1
  count' =
      let e : mark (z (room (holder m))) ≡ 1 = marks _ (rw back_m (omega (arith, mk.here))) in
      let o : mark (s (room (holder m))) ≡ 0 = unmarked _ (rw back_m nr.fresh) in
      sum_one (λ i. mark (s (room i))) (λ i. mark (z (room i))) (holder m) p ow (omega arith)
      (λ i l ne. ap mark (mk.others (room i) (λ (q : room i ≡ m). ne (sym (pl.held.back i (omega arith)) ∙ ap holder q))))
      ∙ ap (λ x. x + 1) g.count

  pub grown_more : Grown n W p u v room holder b' f' z (k + 1)
  grown_more = record {
    near = λ r l. omega (arith, lower r l, g.near r l);
    looked = looked';
    comes = comes';
    order = order';
    taken = λ r l h. ⊎_elim (λ (e : r ≡ m). rw e ow) (λ (ne : r ≡ m → ⊥). g.taken r l (omega (arith, mk.others r ne))) (cases_eq r m);
    within = λ r l. ⊎_elim (λ (e : r ≡ m). grind (arith, mk.here)) (λ (ne : r ≡ m → ⊥). omega (arith, mk.others r ne, g.within r l)) (cases_eq r m);
    count = count';
  }

-- The rooms reached are held by different placed persons, so there are at most p.
pub grown_few : {n : ℕ} {W : ℕ → ℕ → ℕ} {p : ℕ} {u v room holder b f s : ℕ → ℕ} {k : ℕ} → Grown n W p u v room holder b f s k → k ≤ p
grown_few {p = p} {room = room} {s = s} g = omega (arith, g.count, sum_most (λ i. mark (s (room i))) 1 p (λ i l. one (s (room i))))
  where
    one : (x : ℕ) → mark x ≤ 1
    one x = ⊎_elim (λ (e : x ≡ 0). omega (arith, unmarked x e)) (λ (ne : x ≡ 0 → ⊥). omega (arith, marks x (omega arith))) (cases_eq x 0)
