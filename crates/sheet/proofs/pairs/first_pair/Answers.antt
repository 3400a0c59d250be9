use Rattle.std.proofs.Common.{sym, ◌∙◌, arith, below_more, rules, tests}
use Rattle.rooms.specs.First.{some}
use Rattle.sheet.proofs.Found.{found_at, found_is, found_none, found_within, no_pair, none_found, pair_is}
use Rattle.sheet.proofs.pairs.first_pair.Goals as goal

pub returns-in-Some : goal.returns-in-Some
returns-in-Some g c = λ t test.
    let i = c.loop-i.i-counter in
    let n = c.args.n in
    let row = sym c.in-Some.is ∙ found_within (t i) n _ _ _ c.find-found.ensures.ran (λ x b q k. (search (rules, tests), λ l. test i x b c.loop-i-test.true l (search (rules, tests)))) in
    pair_is t n i _ (found_is (λ i. some (t i) n) n i c.loop-i-test.true (found_at (t i) n _ row).0 (c.loop-i.invariant t test)) row

pub loop-i-preserved : goal.loop-i-preserved
loop-i-preserved g c = λ t test.
    let i = c.loop-i.i-counter in
    let n = c.args.n in
    below_more _ _ (c.loop-i.invariant t test) (found_none (t i) n (sym c.in_default.is ∙ found_within (t i) n _ _ _ c.find-found.ensures.ran (λ x b q k. (search (rules, tests), λ l. test i x b c.loop-i-test.true l (search (rules, tests))))))

pub returns : goal.returns
returns g c = λ t test. no_pair t c.args.n (none_found (λ i. some (t i) c.args.n) c.args.n (λ k l. c.loop-i.invariant t test k (omega arith)))
