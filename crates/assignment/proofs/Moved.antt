-- The numbers moved at the end of a round, whose last room is m at distance b m.
use Rattle.std.proofs.Common.{◌≡◌, ℕ, ◌+◌, ◌<◌, ◌≤◌, sym, ap, ◌∙◌, inl, inr, ⊎_elim, arith}
use Rattle.std.proofs.lemmas.Bool.{cases_eq, cases_lt, cases_order}
use Rattle.assignment.specs.Between.{Dual, Placed}
use Rattle.assignment.proofs.Invariant.{Comes, Ended, Moved, Link}

module _ {n H : ℕ} {W : ℕ → ℕ → ℕ} {p : ℕ} {u v room holder b f z : ℕ → ℕ} {m : ℕ}
    (hp : p < n) (pl : Placed n H W p u v room holder) (en : Ended n W p u v room holder b f z m) where
  hm : m < n
  hm = en.nearest.here

  free_m : v m ≡ 0
  free_m = pl.free m hm en.over

  inn : (i : ℕ) → i < p → room i < n
  inn i l = pl.held.into i (omega arith)

  -- Whoever is placed does not hold m.
  other : (i : ℕ) → i < p → room i ≡ m → ⊥
  other i l e = let q : i ≡ holder m = sym (pl.held.back i (omega arith)) ∙ ap holder e in let o = en.over in omega arith

  earlier : (i : ℕ) → i < p → z (room i) ≡ en.s (room i)
  earlier i l = en.marked.others (room i) (other i l)

  reached : (r : ℕ) → r < n → 0 < z r → b r ≤ b m
  reached r l h =
      ⊎_elim (λ (e : r ≡ m). rw e (omega arith))
      (λ (ne : r ≡ m → ⊥). en.grown.order r m l hm (omega (arith, en.marked.others r ne)) en.nearest.fresh)
      (cases_eq r m)

  -- Nobody's number falls below nothing: m's number is 0, and whoever joined looked at m.
  pub down_fits : (i : ℕ) → i < p → b m ≤ b (room i) + u i
  down_fits i l =
      ⊎_elim
      (λ (x : 0 < en.s (room i)). omega (arith, en.grown.looked i m l hm x, free_m))
      (λ (x : en.s (room i) ≤ 0). omega (arith, en.nearest.least (room i) (inn i l) (omega arith)))
      (cases_lt 0 (en.s (room i)))

  pub own_fits : b m ≤ u p
  own_fits = omega (arith, en.grown.near m hm, free_m)

  pub parent_fits : (r : ℕ) → r < n → f r < n
  parent_fits r l = go (en.grown.comes r l)
    where
      go : Comes W p u v room b f en.s r → f r < n
      go (inl x) = omega arith
      go (inr x) = omega arith

  module _ {u' v' : ℕ → ℕ} (small : (i r : ℕ) → i < n → r < n → W i r ≤ H) (mo : Moved n p (b m) u v room b u' v') where
    -- The numbers still cover every worth: of who joined, by their look; of who did not, the number did not fall.
    cover' : (i r : ℕ) → i < n → r < n → W i r ≤ u' i + v' r
    cover' i r li lr =
        ⊎_elim
        (λ (e : i ≡ p). rw e (omega (arith, mo.own, mo.up r lr, en.grown.near r lr, own_fits)))
        (⊎_elim
        (λ (x : i < p). ⊎_elim
        (λ (y : 0 < en.s (room i)). omega (arith, mo.down i x, mo.up r lr, en.grown.looked i r x lr y, down_fits i x, reached (room i) (inn i x) (omega (arith, earlier i x))))
        (λ (y : en.s (room i) ≤ 0). omega (arith, mo.down i x, mo.up r lr, en.nearest.least (room i) (inn i x) (omega arith), pl.dual.cover i r li lr))
        (cases_lt 0 (en.s (room i))))
        (λ (x : p < i). omega (arith, mo.rest i li x, mo.up r lr, pl.dual.cover i r li lr)))
        (cases_order i p)

    -- A placed person's number falls by as much as their room's rises.
    tight' : (i : ℕ) → i < p → u' i + v' (room i) ≡ W i (room i)
    tight' i l = omega (arith, mo.down i l, mo.up (room i) (inn i l), down_fits i l, pl.tight i l)

    -- A room that nobody placed holds is no nearer than m, so its number stays 0.
    free' : (r : ℕ) → r < n → p ≤ holder r → v' r ≡ 0
    free' r l o =
        ⊎_elim
        (λ (e : r ≡ m). rw e (omega (arith, mo.up m hm, free_m)))
        (λ (ne : r ≡ m → ⊥). ⊎_elim
        (λ (y : 0 < en.s r). absurd (omega (arith, en.grown.taken r l y)))
        (λ (y : en.s r ≤ 0). omega (arith, mo.up r l, en.nearest.least r l (omega arith), pl.free r l o))
        (cases_lt 0 (en.s r)))
        (cases_eq r m)

    persons' : (i : ℕ) → i < n → u' i ≤ H
    persons' i l =
        ⊎_elim
        (λ (e : i ≡ p). rw e (omega (arith, mo.own, pl.dual.persons p hp)))
        (⊎_elim
        (λ (x : i < p). omega (arith, mo.down i x, pl.dual.persons i l))
        (λ (x : p < i). omega (arith, mo.rest i l x, pl.dual.persons i l)))
        (cases_order i p)

    -- No room's number passes H: it is 0 or, with its holder's, just a worth.
    prices' : (r : ℕ) → r < n → v' r ≤ H
    prices' r l =
        ⊎_elim
        (λ (x : holder r < p).
        let e = pl.held.forth r l in
        let q = small (holder r) r (omega arith) l in
        let t = tight' (holder r) x in
        let t' : u' (holder r) + v' r ≡ W (holder r) r = rw e at t in omega arith)
        (λ (x : p ≤ holder r). omega (arith, free' r l x))
        (cases_lt (holder r) p)

    dual' : Dual n H W u' v'
    dual' = record { cover = cover'; persons = persons'; prices = prices' }

    later : (r : ℕ) → r < n → 0 < z r → (t : ℕ) → t < n → en.s t ≤ en.k → (0 < en.s r → en.s t < en.s r) → en.s t < z r
    later r l h t lt w q =
        ⊎_elim (λ (e : r ≡ m). rw e (omega (arith, en.marked.here)))
        (λ (ne : r ≡ m → ⊥). omega (arith, en.marked.others r ne, q (omega (arith, en.marked.others r ne))))
        (cases_eq r m)

    -- Along the tree the numbers now add up to just the worth.
    link_of : (r : ℕ) → r < n → 0 < z r → Comes W p u v room b f en.s r → Link W p u' v' room f z r
    link_of r l h (inl q) = inl (q.0, omega (arith, mo.own, mo.up r l, own_fits, reached r l h))
    link_of r l h (inr q) =
        let zr : z (room (f r)) ≡ en.s (room (f r)) = earlier (f r) q.0 in
        let lf : room (f r) < n = inn (f r) q.0 in
        let re : b (room (f r)) ≤ b m = reached (room (f r)) lf (omega arith) in
        let la : en.s (room (f r)) < z r = later r l h (room (f r)) lf (en.grown.within (room (f r)) lf) q.3 in
        inr (
          q.0,
          omega arith,
          omega arith,
          omega (arith, mo.down (f r) q.0, mo.up r l, down_fits (f r) q.0, reached r l h),
        )

    pub moved : Dual n H W u' v' × ((i : ℕ) → i < p → u' i + v' (room i) ≡ W i (room i)) × ((r : ℕ) → r < n → p ≤ holder r → v' r ≡ 0)
        × ((r : ℕ) → r < n → 0 < z r → Link W p u' v' room f z r) × (0 < z m)
    moved = (dual', tight', free', λ r l h. link_of r l h (en.grown.comes r l), omega (arith, en.marked.here))
