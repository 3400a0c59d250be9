use Rattle.std.proofs.Common.{◌≡◌, ℕ, ◌<◌, ◌≤◌, ◌≢◌, Some, None, get_or, sym, refl, arith, rules, tests}
use Rattle.std.proofs.lemmas.Option.{MatchOption-at_some, MatchOption-at_none}
use Rattle.rooms.specs.Format.{most_worth}
use Rattle.longest.specs.Run.{nearest}
use Rattle.longest.proofs.Nearest.{Taken, leads_takes, leads_keeps}
use Rattle.longest.proofs.Rounds.{run_break, run_all, rest_small, left_small, round_more}
use Rattle.longest.proofs.Views.{nothing}
use Rattle.longest.proofs.Ways.lengthen.Goals as goal
use Rattle.longest.proofs.Ways.lengthen.Goals.{In-Some, then-offer-rows+then-is_none_or, else-offer-rows, else-offer-rows-via-then-offer-rows+else-is_none_or, else-offer-rows-via-else-offer-rows}

pub loop-i-init : goal.loop-i-init
unfolding nearest
loop-i-init c = refl

pub loop-i-preserved : goal.loop-i-preserved
loop-i-preserved c =
    let found = c.loop-i.next in
    let here = get_or c.longer.offers c.loop-i.i nothing in
    elim c.if-offer-rows.branch [
      | then-offer-rows+then-is_none_or w ↦
          let below : (p : ℕ × ℕ) → found ≡ Some p → here.left < p.1 = λ p e.
          let given = MatchOption-at_some _ _ p e w.is_none_or.ensures in search (rules, tests) in
          rw w.next-is (leads_takes _ _ _ _ found c.loop-i.invariant (omega arith) w.if-offer-rows.true below)
      | else-offer-rows w ↦ rw w.next-is (elim w.else-offer-rows.branch [
        | else-offer-rows-via-then-offer-rows+else-is_none_or x ↦
            let some : found ≢ None = λ e. let given = MatchOption-at_none _ _ e x.is_none_or.ensures in search (rules, tests) in
            let above : (p : ℕ × ℕ) → found ≡ Some p → p.1 ≤ here.left = λ p e.
            let given = MatchOption-at_some _ _ p e x.is_none_or.ensures in search (rules, tests) in
            leads_keeps _ _ _ _ found c.loop-i.invariant (λ lt. (some, above))
        | else-offer-rows-via-else-offer-rows x ↦ leads_keeps _ _ _ _ found c.loop-i.invariant (λ lt. absurd (omega (arith, x.if-offer-rows.false)))
      ])
    ]

taken : (c : In-Some) → Taken c.args.self.now.n c.longer.rows c.longer.offers c.in-Some.to c.in-Some.rest
taken c =
    let e : c.loop-i.i ≡ c.args.self.now.n = omega arith in
    MatchOption-at_some _ _ _ c.in-Some.is (rw e at c.loop-i.invariant)

pub offer_through-requires : goal.offer_through-requires
offer_through-requires c =
    let t = taken (goal.at.offer_through-requires c).In-Some in
    (omega arith, t.0, rest_small _ _ _ _ _ t most_worth c.longer.invariant.2)

pub longer-preserved : goal.longer-preserved
longer-preserved c =
    let t = taken (goal.at.longer-preserved c).In-Some in (
      round_more _ _ _ _ _ t _ _ _ _ c.offer_through.new.offers (omega arith) c.longer.invariant.0 c.longer.invariant.1 c.longer-test.true c.offer_through.ensures,
      refl,
      left_small _ _ _ _ _ t most_worth (omega arith) c.longer.invariant.2,
    )

pub returns-after-longer : goal.returns-after-longer
returns-after-longer c = run_all _ _ _ _ _ c.longer.invariant.0 c.longer-test.false

pub returns-in_default : goal.returns-in_default
returns-in_default c =
    let e : c.loop-i.i ≡ c.args.self.now.n = omega arith in
    run_break _ _ _ _ _ c.longer.invariant.0 c.longer-test.true (sym (MatchOption-at_none _ _ c.in_default.is (rw e at c.loop-i.invariant)))
