-- What the search finds, in the lengths of ways: a way is what the numbers rise on it, less its slack.
use Rattle.std.proofs.Common.{◌≡◌, ℕ, zero, suc, ◌+◌, ◌-◌, ◌<◌, ◌≤◌, List, [], ◌∷◌, length, pos, ◌+ℤ◌, ◌≤ℤ◌, refl, ap, subst, inl, inr, arith}
use Rattle.std.proofs.lemmas.Int.{ints}
use Rattle.std.proofs.lemmas.List.FromFn.{get_or-map-range_with_len}
use Rattle.rooms.specs.House.{House, worth_at, room_of, value}
use Rattle.rooms.specs.Rows.{Certified, number, signed, way}
use Rattle.rooms.specs.Before.{nobody, prior, Ends, Comes, RowsShown}
use Rattle.assignment.specs.Search.{at}
use Rattle.longest.specs.Run.{slack, whole_run}
use Rattle.longest.specs.Promise.{longest_of, before_of, rounds_of, SearchEnds, SameRun, OneLongest}
use Rattle.longest.proofs.Growth.{ends_up, fewer}
use Rattle.longest.proofs.Rounds.{Ended, ended, whole_same}

-- A natural number of a list, as a signed one.
pub number_signed : (xs : List ℕ) (i : ℕ) → number (signed xs) i ≡ pos (at xs i)
number_signed [] i = refl
number_signed (x ∷ xs) zero = refl
number_signed (x ∷ xs) (suc i) = number_signed xs i

module _ (h : House) (room u v : List ℕ) (c : Certified h room (signed u) (signed v)) where
  pub covers : (i r : ℕ) → i < h.n → r < h.n → worth_at h i r ≤ at u i + at v r
  unfolding value
  covers i r hi hr = omega (arith, ints, c.cover i r hi hr, number_signed u i, number_signed v r)

  meets : (i : ℕ) → i < h.n → at u i + at v (room_of room i) ≡ worth_at h i (room_of room i)
  unfolding value
  meets i hi = omega (arith, ints, c.tight i hi, number_signed u i, number_signed v (room_of room i))

  way_is : (k i : ℕ) → k < h.n → i < h.n → (way h room k i +ℤ pos (at u k)) +ℤ pos (slack h room u v k i) ≡ pos (at u i)
  unfolding way value
  way_is k i hk hi = omega (arith, ints, covers i (room_of room k) hi (c.housed.each k hk), meets k hk)

  module _ (some : 0 < h.n) (few : h.n ≤ nobody) (fits : h.n ≤ length u) where
    pub end : Ended h.n (slack h room u v) u (whole_run h room u v)
    unfolding whole_run
    end = ended h.n some few (slack h room u v) u fits

    pub left_within : (i : ℕ) → i < h.n → at (whole_run h room u v).left i ≤ at u i
    left_within = end.grown.low

    number_is : (i : ℕ) → i < h.n → number (signed (longest_of h room u v)) i +ℤ pos (at (whole_run h room u v).left i) ≡ pos (at u i)
    number_is i l =
        let e = get_or-map-range_with_len (λ i. at u i - at (whole_run h room u v).left i) 0 h.n i i 0 l (omega arith) in
        omega (arith, ints, number_signed (longest_of h room u v) i, left_within i l)

    comes : (i : ℕ) → i < h.n → Comes h room (signed (longest_of h room u v)) (before_of h room u v) i
    comes i l = elim (end.grown.since i l) [
      | inl p ↦ inl (p.0, omega (arith, ints, number_is i l, p.1))
      | inr p ↦ inr (
        p.0,
        omega (arith, ints, number_is i l, number_is (prior (before_of h room u v) i) p.0, way_is (prior (before_of h room u v) i) i p.0 l, p.1),
        λ e. omega (arith, p.0),
      )
    ]

    -- i has left at most what is offered, and that is at most what a row through k leaves.
    most : (k i : ℕ) → k < h.n → i < h.n → (number (signed (longest_of h room u v)) k +ℤ way h room k i) ≤ℤ number (signed (longest_of h room u v)) i
    most k i hk hi =
        omega (arith, ints, number_is i hi, number_is k hk, way_is k i hk hi, end.over i hi, end.grown.offered.least k i hk hi)

    pub rounds_few : rounds_of h room u v < h.n
    rounds_few = fewer h.n few (slack h room u v) u _ _ _ _ _ _ end.grown some

    pub run_shown : RowsShown h room (signed (longest_of h room u v)) (before_of h room u v)
    run_shown = record {
      low = λ i l. omega (arith, ints, number_signed (longest_of h room u v) i);
      comes = comes;
      most = most;
      ends = λ i l. subst (λ m. Ends (before_of h room u v) m i) (omega (arith, rounds_few))
          (ends_up (before_of h room u v) (suc (rounds_of h room u v)) (h.n - suc (rounds_of h room u v)) i (end.grown.ends i l));
    }

-- Everybody has a person before, or nobody.
pub befores_long : (h : House) (room u v : List ℕ) → Certified h room (signed u) (signed v) → 0 < h.n → h.n ≤ nobody → h.n ≤ length u →
    length (before_of h room u v) ≡ h.n
befores_long h room u v c some few fits = (end h room u v c some few fits).grown.sizes

pub search_ends : SearchEnds
search_ends h room u v some few fits c = (run_shown h room u v c some few fits, rounds_few h room u v c some few fits)

pub same_run : SameRun
unfolding whole_run
same_run h room other u v e =
    whole_same h.n (slack h room u v) (slack h other u v) (λ k i hk hi. ap (λ r. at u i + at v r - worth_at h i r) (e k hk)) u

-- Each is the length of a row, and so at most the other.
pub one_longest : OneLongest
one_longest h room d e p q i l =
    let x = p.reached i l in
    let y = q.reached i l in
    omega (arith, ints, x.2, y.2, q.most i x.0 l x.1, p.most i y.0 l y.1)
