-- What is handed back: the run's, in arrays.
use Rattle.std.proofs.Common.{◌≡◌, ℕ, zero, suc, ◌-◌, ◌<◌, ◌≤◌, List, ◌++◌, map, length, take, replicate, ℤ, pos, ◌+ℤ◌, ◌≤ℤ◌, sym, ap, ◌∙◌, subst, inl, inr, arith}
use Rattle.std.specs.List.{range_with_len}
use Rattle.std.proofs.lemmas.List.{get_or_past, length-append, length-map}
use Rattle.std.proofs.lemmas.List.FromFn.{get_or-map-range_with_len, length-map-range_with_len}
use Rattle.std.proofs.lemmas.Int.{ints}
use Rattle.std.proofs.lemmas.Bool.{cases_lt}
use Rattle.rooms.specs.House.{House}
use Rattle.rooms.specs.Format.{most_people, most_worth, Allowed}
use Rattle.rooms.specs.Rows.{Longest, number, signed, way}
use Rattle.rooms.specs.Before.{nobody, prior, Ends, RowsShown}
use Rattle.assignment.specs.Search.{at}
use Rattle.longest.specs.Run.{slack, in_table, State, run, start, whole_run}
use Rattle.longest.specs.View.{lefts, befores, standing}
use Rattle.longest.specs.declared.Row.{Row}
use Rattle.assignment.specs.Promise.{Solved}
use Rattle.longest.specs.Promise.{Found, longest_of, before_of}
use Rattle.longest.proofs.Lines.{Filled}
use Rattle.longest.proofs.Rounds.{start_take, whole_same}
use Rattle.longest.proofs.Slacks.{number_signed, left_within, run_shown, rounds_few}
use Rattle.rooms.proofs.Before.{shown_longest}
use Rattle.longest.proofs.Padded.{padded_reads}

module _ (h : House) (room u v : List ℕ) (q : Solved h most_worth room u v) (n : ℕ) (e : n ≡ h.n) (table : List ℕ) (filled : Filled n (slack h room u v) n table)
    (alone rows others : List Row) (m : ℕ) (numbers : lefts alone ≡ take (n - 0) u)
    (x : standing rows others m ≡ run (in_table table n) n n (start (in_table table n) n (lefts alone))) where
  whole : standing rows others m ≡ whole_run h room u v
  unfolding whole_run
  whole =
      x ∙ ap (λ w. run (in_table table n) n n (start (in_table table n) n w)) (numbers ∙ ap (λ j. take j u) (omega arith))
      ∙ ap (run (in_table table n) n n) (start_take (in_table table n) n u) ∙ whole_same n (in_table table n) (slack h room u v) filled u
      ∙ ap (λ j. run (slack h room u v) j j (start (slack h room u v) j u)) e

  reads : (i : ℕ) → at (lefts rows) i ≡ at (whole_run h room u v).left i
  reads i = ap (λ (y : State). at y.left i) whole

  pub within : 0 < n → n ≤ nobody → n ≤ length u → (i : ℕ) → i < n → at (lefts rows) i ≤ at u i
  within some few fits i hi = omega (arith, reads i, left_within h room u v q.certified (omega arith) (omega arith) (omega arith) i (omega arith))

  pub found : (d w : List ℕ) → d ≡ map (λ i. at u i - at (lefts rows) i) (range_with_len 0 n) ++ replicate (most_people - n) 0 →
      w ≡ befores rows ++ replicate (most_people - n) nobody → Found h room u v d w m
  found d w ed ew = record {
    lengths = ed ∙ ap (λ (y : State). map (λ i. at u i - at y.left i) (range_with_len 0 n) ++ replicate (most_people - n) 0) whole
        ∙ ap (λ j. map (λ i. at u i - at (whole_run h room u v).left i) (range_with_len 0 j) ++ replicate (most_people - j) 0) e;
    priors = ew ∙ ap (λ (y : State). y.before ++ replicate (most_people - n) nobody) whole ∙ ap (λ j. before_of h room u v ++ replicate (most_people - j) nobody) e;
    count = ap (λ (y : State). y.rounds) whole;
  }

-- What reads the same is shown the same.
ends_same : (b w : List ℕ) → ((i : ℕ) → prior w i ≡ prior b i) → (m i : ℕ) → Ends b m i → Ends w m i
unfolding Ends
ends_same b w q zero i e = e
ends_same b w q (suc m) i (inl e) = inl (q i ∙ e)
ends_same b w q (suc m) i (inr e) = inr (subst (λ k. Ends w m k) (sym (q i)) (ends_same b w q m (prior b i) e))

shown_same : (h : House) (room b w : List ℕ) (d e : List ℤ) → ((i : ℕ) → number e i ≡ number d i) → ((i : ℕ) → prior w i ≡ prior b i) → RowsShown h room d b → RowsShown h room e w
shown_same h room b w d e p q f = record {
  low = λ i l. subst (λ z. pos 0 ≤ℤ z) (sym (p i)) (f.low i l);
  comes = λ i l. elim (f.comes i l) [
    | inl x ↦ inl (q i ∙ x.0, p i ∙ x.1)
    | inr x ↦ inr (
      subst (λ z. z < h.n) (sym (q i)) x.0,
      p i ∙ x.1 ∙ ap (λ z. z +ℤ way h room (prior b i) i) (sym (p (prior b i))) ∙ ap (λ k. number e k +ℤ way h room k i) (sym (q i)),
      λ z. x.2 (sym (q i) ∙ z),
    )
  ];
  most = λ k i hk hi. omega (arith, ints, f.most k i hk hi, p i, p k);
  ends = λ i l. ends_same b w q h.n i (f.ends i l);
}

module _ (h : House) (room u v : List ℕ) (q : Solved h most_worth room u v) (a : Allowed h) (fits : h.n ≤ length u) (d w : List ℕ) (m : ℕ) (f : Found h room u v d w m) where
  pub found_shown : RowsShown h room (signed d) w
  found_shown = shown_same h room (before_of h room u v) w (signed (longest_of h room u v)) (signed d)
      (λ i. number_signed d i ∙ ap pos (ap (λ x. at x i) f.lengths ∙ padded_reads (longest_of h room u v) (most_people - h.n) 0 i) ∙ sym (number_signed (longest_of h room u v) i))
      (λ i. ap (λ x. prior x i) f.priors ∙ padded_reads (before_of h room u v) (most_people - h.n) nobody i)
      (run_shown h room u v q.certified a.some (omega (arith, a.few)) fits)

  pub found_longest : Longest h room (signed d)
  found_longest = shown_longest h room w (signed d)
      (omega (arith, length-map d pos, ap length f.lengths, length-append (longest_of h room u v) (replicate (most_people - h.n) 0), length-map-range_with_len (λ i. at u i - at (whole_run h room u v).left i) 0 h.n))
      found_shown

  pub found_high : (i : ℕ) → at d i ≤ most_worth
  found_high i =
      let e = ap (λ x. at x i) f.lengths ∙ padded_reads (longest_of h room u v) (most_people - h.n) 0 i in
      let g = λ (j : ℕ). at u j - at (whole_run h room u v).left j in
      elim (cases_lt i h.n) [
        | inl l ↦ omega (arith, e, get_or-map-range_with_len g 0 h.n i i 0 l (omega arith), q.persons_low i l)
        | inr l ↦ omega (arith, e, get_or_past (longest_of h room u v) i 0 (omega (arith, length-map-range_with_len g 0 h.n)))
      ]

  pub found_few : m < h.n
  found_few = omega (arith, f.count, rounds_few h room u v q.certified a.some (omega (arith, a.few)) fits)
