use Rattle.std.proofs.Common.{◌≡◌, ℕ, ◌+◌, ◌*◌, ◌++◌, get_or, drop, replicate, ap, ◌∙◌, arith}
use Rattle.std.proofs.lemmas.List.{length-take-le}
use Rattle.rooms.specs.Format.{most_people}
use Rattle.sheet.proofs.Padded.{padded, padded_front, padded_each, padded_within}
use Rattle.sheet.proofs.columns.column.Goals as goal

pub returns : goal.returns
returns g c =
    let n = c.args.n in
    let z = g.E.Entry.NOTHING in
    let f = λ (k : ℕ). g.E.Entry.stands c.args.sheet.now (c.args.at + c.args.step * k) in
    let nothing = c.NOTHING-entries.result in
    let long = length-take-le n (replicate most_people nothing) (omega (arith, c.requires.few)) in
    let e : c.loop-k.entry-items ++ drop n (replicate most_people nothing) ≡ padded f z most_people n =
    ap (λ v. c.loop-k.entry-items ++ drop n (replicate most_people v)) c.NOTHING-entries.ensures
    ∙ padded_front f z most_people n c.loop-k.entry-items (c.loop-k.auto.entry-items ∙ long) (λ k l. c.loop-k.invariant k (let t = c.loop-k-test.false in omega arith)) in
    record {
      whole = e;
      each = λ k. ap (λ xs. get_or xs k z) e ∙ padded_each f z most_people n k;
      within = λ k d h. ap (λ xs. get_or xs k d) e ∙ padded_within f z most_people n k d h;
    }
