-- What holds within a round: while the tree grows, after the numbers are moved, and while rooms are handed on. Of a room r, b r is the distance, f r the
-- parent and s r the turn at which it was reached, 0 where it is not yet.
use Rattle.std.proofs.Common.{◌≡◌, ℕ, ◌+◌, ◌-◌, ◌<◌, ◌≤◌, cond, eqb, ltb, ◌⊎◌}
use Rattle.assignment.specs.Search.{offer_of}
use Rattle.assignment.specs.Run.{sum_of}
use Rattle.assignment.specs.Between.{Dual, Held}
use Rattle.assignment.proofs.Near.{Nearest}

-- Person i has looked at every room from distance d: distances and parents before and after.
pub record Looked (n : ℕ) (W : ℕ → ℕ → ℕ) (u v : ℕ → ℕ) (i d : ℕ) (b f b' f' : ℕ → ℕ) : Type 0 where
  pub near : (r : ℕ) → r < n → b' r ≡ cond (ltb (offer_of W u v i d r) (b r)) (offer_of W u v i d r) (b r)
  pub parent : (r : ℕ) → r < n → f' r ≡ cond (ltb (offer_of W u v i d r) (b r)) i (f r)

-- Person p has looked first.
pub record Started (n : ℕ) (W : ℕ → ℕ → ℕ) (u v : ℕ → ℕ) (p : ℕ) (b f s : ℕ → ℕ) : Type 0 where
  pub near : (r : ℕ) → r < n → b r ≡ offer_of W u v p 0 r
  pub parent : (r : ℕ) → r < n → f r ≡ p
  pub fresh : (r : ℕ) → r < n → s r ≡ 0

-- Where the distance of room r comes from: straight from p, or through a placed person whose room was reached before.
abbrev pub Comes : (ℕ → ℕ → ℕ) → ℕ → (u v room b f s : ℕ → ℕ) → ℕ → Type 0
Comes W p u v room b f s r =
    ((f r ≡ p) × (b r + W p r ≡ u p + v r))
    ⊎ ((f r < p) × (0 < s (room (f r))) × (b r + W (f r) r ≡ b (room (f r)) + u (f r) + v r) × (0 < s r → s (room (f r)) < s r))

-- 1 for a room that is reached, else 0.
abbrev pub mark : ℕ → ℕ
mark x = cond (eqb x 0) 0 1

-- After k turns: everybody who joined has looked at every room, every distance comes from somebody who joined, rooms reached are no farther than the
-- others, and are held by k of the placed persons.
pub record Grown (n : ℕ) (W : ℕ → ℕ → ℕ) (p : ℕ) (u v room holder b f s : ℕ → ℕ) (k : ℕ) : Type 0 where
  pub near : (r : ℕ) → r < n → b r + W p r ≤ u p + v r
  pub looked : (i r : ℕ) → i < p → r < n → 0 < s (room i) → b r + W i r ≤ b (room i) + u i + v r
  pub comes : (r : ℕ) → r < n → Comes W p u v room b f s r
  pub order : (r t : ℕ) → r < n → t < n → 0 < s r → s t ≡ 0 → b r ≤ b t
  pub taken : (r : ℕ) → r < n → 0 < s r → holder r < p
  pub within : (r : ℕ) → r < n → s r ≤ k
  pub count : sum_of (λ i. mark (s (room i))) p ≡ k

-- z is s with k at m.
pub record Marked (s z : ℕ → ℕ) (m k : ℕ) : Type 0 where
  pub here : z m ≡ k
  pub others : (t : ℕ) → (t ≡ m → ⊥) → z t ≡ s t

-- The growth has ended: the nearest room m is held by nobody placed. z has the turns with m's.
pub record Ended (n : ℕ) (W : ℕ → ℕ → ℕ) (p : ℕ) (u v room holder b f z : ℕ → ℕ) (m : ℕ) : Type 0 where
  pub s : ℕ → ℕ
  pub k : ℕ
  pub grown : Grown n W p u v room holder b f s k
  pub nearest : Nearest n b s m
  pub marked : Marked s z m (k + 1)
  pub over : p ≤ holder m

-- The numbers moved, where the last room is at distance d.
pub record Moved (n p d : ℕ) (u v room b u' v' : ℕ → ℕ) : Type 0 where
  pub up : (r : ℕ) → r < n → v' r ≡ v r + (d - b r)
  pub own : u' p ≡ u p - d
  pub down : (i : ℕ) → i < p → u' i ≡ u i - (d - b (room i))
  pub rest : (i : ℕ) → i < n → p < i → u' i ≡ u i

-- The parent of room r could have it for just its worth; and is p, or held a room, by base, that was reached before.
abbrev pub Link : (ℕ → ℕ → ℕ) → ℕ → (u v base f s : ℕ → ℕ) → ℕ → Type 0
Link W p u v base f s r =
    ((f r ≡ p) × (u p + v r ≡ W p r))
    ⊎ ((f r < p) × (0 < s (base (f r))) × (s (base (f r)) < s r) × (u (f r) + v r ≡ W (f r) r))

-- While rooms are handed on: p holds a room of the tree that is not for its worth yet, everybody before p has theirs for its worth, and who held rooms
-- reached earlier (by base, what was held when it began) still holds them.
pub record Handing (n H : ℕ) (W : ℕ → ℕ → ℕ) (p : ℕ) (u v f s base room holder : ℕ → ℕ) : Type 0 where
  pub dual : Dual n H W u v
  pub held : Held n room holder
  pub tight : (i : ℕ) → i < p → u i + v (room i) ≡ W i (room i)
  pub free : (r : ℕ) → r < n → p < holder r → v r ≡ 0
  pub hole : 0 < s (room p)
  pub link : (r : ℕ) → r < n → 0 < s r → Link W p u v base f s r
  pub same : (i : ℕ) → i < p → s (base i) < s (room p) → room i ≡ base i
