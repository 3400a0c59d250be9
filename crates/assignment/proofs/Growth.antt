-- The growth of a round's tree, on lists.
use Rattle.std.proofs.Common.{◌≡◌, ℕ, zero, suc, ◌+◌, ◌-◌, ◌<◌, ◌≤◌, List, length, set, sym, refl, ◌∙◌, ⊎_elim, arith, length-set, get_or-set_other, get_or-set_same}
use Rattle.std.proofs.lemmas.Bool.{cases_lt, le-leb, lt-leb, cond-true, cond-false}
use Rattle.std.proofs.lemmas.List.FromFn.{length-map-range_with_len, get_or-map-range_with_len}
use Rattle.assignment.specs.Search.{at, list_of, offer_of, offers, nearer, parents, nearest_of, Tree, tree, grow_from, tree_of}
use Rattle.assignment.specs.Between.{Placed}
use Rattle.assignment.specs.declared.slices.Standing.{Standing}
use Rattle.assignment.specs.declared.slices.Tree.{Tree as TreeSlices}
use Rattle.assignment.proofs.Invariant.{Looked, Started, Grown, Marked, Ended}
use Rattle.assignment.proofs.Near.{Nearest, nearest_is}
use Rattle.assignment.proofs.Step.{grown_none, grown_more, grown_few}

pub at_list : (f : ℕ → ℕ) (n k : ℕ) → k < n → at (list_of f n) k ≡ f k
at_list f n k l = get_or-map-range_with_len f 0 n k k 0 l (omega arith)

pub long_list : (f : ℕ → ℕ) (n : ℕ) → length (list_of f n) ≡ n
long_list f n = length-map-range_with_len f 0 n

pub marked : (s : List ℕ) (m x : ℕ) → m < length s → Marked (at s) (at (set s m x)) m x
marked s m x l = record { here = rw get_or-set_same; others = λ t ne. get_or-set_other s m t x 0 ne }

-- The lists of the definition, at each place.
pub looked_of : (W : ℕ → ℕ → ℕ) (n : ℕ) (u v : List ℕ) (i d : ℕ) (b f : List ℕ) →
    Looked n W (at u) (at v) i d (at b) (at f) (at (nearer n (offers W n u v i d) b)) (at (parents n i (offers W n u v i d) b f))
looked_of W n u v i d b f = record {
  near = λ r l. at_list _ n r l ∙ rw (at_list (offer_of W (at u) (at v) i d) n r l) refl;
  parent = λ r l. at_list _ n r l ∙ rw (at_list (offer_of W (at u) (at v) i d) n r l) refl;
}

pub started_of : (W : ℕ → ℕ → ℕ) (n : ℕ) (u v : List ℕ) (p : ℕ) → Started n W (at u) (at v) p (at (offers W n u v p 0)) (at (list_of (λ _. p) n)) (at (list_of (λ _. 0) n))
started_of W n u v p = record { near = at_list _ n; parent = at_list _ n; fresh = at_list _ n }

-- What is known where the growth ends.
pub record Grew (n : ℕ) (W : ℕ → ℕ → ℕ) (p : ℕ) (u v room holder : List ℕ) (g : Tree) : Type 0 where
  pub ended : Ended n W p (at u) (at v) (at room) (at holder) (at g.distances) (at g.parent) (at g.turns) g.last
  pub joins : g.joined ≤ p + 1
  pub turn : at g.turns g.last ≤ n
  pub long_distances : length g.distances ≡ n
  pub long_parent : length g.parent ≡ n
  pub long_turns : length g.turns ≡ n

-- One turn of the definition.
module _ (W : ℕ → ℕ → ℕ) (n p : ℕ) (u v holder : List ℕ) where
  next : (k : ℕ) → k < n → n - k ≡ suc (n - (k + 1))
  next k h = omega arith

  pub grow_stop : (b f s : List ℕ) (k m : ℕ) → k < n → m ≡ nearest_of n (at b) (at s) n → p ≤ at holder m →
      grow_from W n p u v holder (n - k) b f s k ≡ tree m (k + 1) b f (set s m (k + 1))
  unfolding grow_from
  grow_stop b f s k m h e o = rw (next k h, e) (cond-true _ _ _ (le-leb _ _ (rw e at o)))

  pub grow_on : (b f s : List ℕ) (k m : ℕ) → k < n → m ≡ nearest_of n (at b) (at s) n → at holder m < p →
      grow_from W n p u v holder (n - k) b f s k
      ≡ grow_from W n p u v holder (n - (k + 1)) (nearer n (offers W n u v (at holder m) (at b m)) b)
      (parents n (at holder m) (offers W n u v (at holder m) (at b m)) b f) (set s m (k + 1)) (k + 1)
  unfolding grow_from
  grow_on b f s k m h e o = rw (next k h, e) (cond-false _ _ _ (lt-leb _ _ (rw e at o)))

module _ {H : ℕ} (W : ℕ → ℕ → ℕ) (n p : ℕ) (u v room holder : List ℕ) (hp : p < n) (pl : Placed n H W p (at u) (at v) (at room) (at holder)) where
  abbrev GrownTo : (b f s : List ℕ) → ℕ → Type 0
  GrownTo b f s k = Grown n W p (at u) (at v) (at room) (at holder) (at b) (at f) (at s) k

  -- The room that p holds is never reached before the end, since p is not placed.
  pub own_fresh : (b f s : List ℕ) (k : ℕ) → GrownTo b f s k → at s (at room p) ≡ 0
  own_fresh b f s k g =
      ⊎_elim
      (λ (x : 0 < at s (at room p)). absurd (omega (arith, g.taken (at room p) (pl.held.into p hp) x, pl.held.back p hp)))
      (λ (x : at s (at room p) ≤ 0). omega arith)
      (cases_lt 0 (at s (at room p)))

  pub nearest : (b f s : List ℕ) (k : ℕ) → GrownTo b f s k → Nearest n (at b) (at s) (nearest_of n (at b) (at s) n)
  nearest b f s k g = nearest_is n (at b) (at s) (at room p) (pl.held.into p hp) (own_fresh b f s k g)

  -- The growth ends at a room that nobody placed holds: at most p rooms are reached before, and there are n turns.
  pub grow_ends : (t : ℕ) (b f s : List ℕ) (k : ℕ) → k + t ≡ n → length b ≡ n → length f ≡ n → length s ≡ n → GrownTo b f s k →
      Grew n W p u v room holder (grow_from W n p u v holder t b f s k)
  unfolding grow_from
  grow_ends zero b f s k e lb lf ls g = absurd (omega (arith, grown_few g))
  grow_ends (suc t) b f s k e lb lf ls g =
      let nr = nearest b f s k g in
      let hm : nearest_of n (at b) (at s) n < length s = rw ls nr.here in
      let mk = marked s (nearest_of n (at b) (at s) n) (k + 1) hm in
      ⊎_elim
      (λ (x : at holder (nearest_of n (at b) (at s) n) < p). rw (lt-leb _ _ x)
      (grow_ends t _ _ _ (k + 1) (omega arith) (long_list _ n) (long_list _ n) (length-set s _ _ ∙ ls)
      (grown_more n W p (at u) (at v) (at room) (at holder) (at b) (at f) (at s) k _ _ _ _ hp pl g nr mk x (looked_of W n u v _ _ b f))))
      (λ (x : p ≤ at holder (nearest_of n (at b) (at s) n)). rw (le-leb _ _ x) (record {
        ended = record { s = at s; k = k; grown = g; nearest = nr; marked = mk; over = x };
        joins = omega (arith, grown_few g);
        turn = omega (arith, mk.here);
        long_distances = lb;
        long_parent = lf;
        long_turns = length-set s _ _ ∙ ls;
      }))
      (cases_lt (at holder (nearest_of n (at b) (at s) n)) p)

  pub grew : Grew n W p u v room holder (tree_of W n p u v holder)
  unfolding tree_of
  grew =
      grow_ends n (offers W n u v p 0) (list_of (λ _. p) n) (list_of (λ _. 0) n) 0 (omega arith) (long_list _ n) (long_list _ n) (long_list _ n)
      (grown_none n W p _ _ _ _ _ _ _ hp pl (started_of W n u v p))

pub grew_by : {n H : ℕ} {W : ℕ → ℕ → ℕ} {p : ℕ} {u v room holder : List ℕ} {g : Tree} → p < n → Placed n H W p (at u) (at v) (at room) (at holder) → g ≡ tree_of W n p u v holder →
    Grew n W p u v room holder g
grew_by hp pl e = rw e (grew _ _ _ _ _ _ _ hp pl)

-- What the loop of the growth keeps: the tree so far, and that what is left of the definition from here is the whole.
pub record Growing (n : ℕ) (W : ℕ → ℕ → ℕ) (p : ℕ) (u v room holder b f s : List ℕ) (k : ℕ) : Type 0 where
  pub grown : Grown n W p (at u) (at v) (at room) (at holder) (at b) (at f) (at s) k
  pub model : grow_from W n p u v holder (n - k) b f s k ≡ tree_of W n p u v holder

module _ {n H : ℕ} {W : ℕ → ℕ → ℕ} {p : ℕ} {u v room holder : List ℕ} (hp : p < n) (pl : Placed n H W p (at u) (at v) (at room) (at holder)) where
  pub growing_none : (b f s : List ℕ) → b ≡ offers W n u v p 0 → f ≡ list_of (λ _. p) n → s ≡ list_of (λ _. 0) n → Growing n W p u v room holder b f s 0
  unfolding tree_of
  growing_none b f s eb ef es =
      let e0 : n - 0 ≡ n = omega arith in
      record { grown = rw (eb, ef, es) (grown_none n W p _ _ _ _ _ _ _ hp pl (started_of W n u v p)); model = rw (e0, eb, ef, es) refl }

  pub growing_fresh : (b f s : List ℕ) (k : ℕ) → Growing n W p u v room holder b f s k → (q : ℕ) × (q < n) × (at s q ≡ 0)
  growing_fresh b f s k g = (at room p, pl.held.into p hp, own_fresh W n p u v room holder hp pl b f s k g.grown)

  pub growing_stop : (b f s : List ℕ) (k m : ℕ) → Growing n W p u v room holder b f s k → k < n → m ≡ nearest_of n (at b) (at s) n → p ≤ at holder m →
      tree m (k + 1) b f (set s m (k + 1)) ≡ tree_of W n p u v holder
  growing_stop b f s k m g h e o = sym (grow_stop W n p u v holder b f s k m h e o) ∙ g.model

  pub growing_more : (b f s : List ℕ) (k m : ℕ) (row b' f' : List ℕ) → Growing n W p u v room holder b f s k → k < n → length s ≡ n →
      m ≡ nearest_of n (at b) (at s) n → at holder m < p → row ≡ offers W n u v (at holder m) (at b m) → b' ≡ nearer n row b → f' ≡ parents n (at holder m) row b f →
      Growing n W p u v room holder b' f' (set s m (k + 1)) (k + 1)
  growing_more b f s k m row b' f' g h ls e o er eb ef =
      let nr : Nearest n (at b) (at s) m = rw e (nearest W n p u v room holder hp pl b f s k g.grown) in
      let lm : m < length s = rw ls nr.here in
      record {
        grown = rw (eb, ef, er) (grown_more n W p (at u) (at v) (at room) (at holder) (at b) (at f) (at s) k _ _ _ m hp pl g.grown nr (marked s m (k + 1) lm) o (looked_of W n u v (at holder m) (at b m) b f));
        model = rw (eb, ef, er) (sym (grow_on W n p u v holder b f s k m h e o) ∙ g.model);
      }

  pub growing_never : (b f s : List ℕ) (k : ℕ) → Growing n W p u v room holder b f s k → n ≤ k → ⊥
  growing_never b f s k g h = omega (arith, grown_few g.grown)

-- The same of the slices, with their lengths.
pub record GrowingTree (n : ℕ) (W : ℕ → ℕ → ℕ) (p : ℕ) (x : Standing) (t : TreeSlices) (k : ℕ) : Type 0 where
  pub people : t.n ≡ n
  pub growing : Growing n W p x.persons.now x.prices.now x.rooms.room.now x.rooms.holder.now t.distance.now t.parent.now t.turn.now k
