use Rattle.std.proofs.Common.{sym, ap, ◌∙◌, arith}
use Rattle.std.proofs.lemmas.List.{take_all}
use Rattle.longest.specs.Run.{in_table, run}
use Rattle.longest.specs.View.{lefts}
use Rattle.longest.proofs.Rounds.{start_is}
use Rattle.longest.proofs.Views.{lefts_long}
use Rattle.longest.proofs.Ways.search.Goals as goal

pub returns : goal.returns
returns c =
    let n = c.args.self.now.n in
    let s = in_table c.args.self.now.slacks.now n in
    let rows = c.args.rows.now in
    c.lengthen.ensures ∙ ap (run s n n) (start_is s n (lefts rows) _ _ _ _ (sym (take_all n (lefts rows) (omega (arith, lefts_long rows)))) c.requires.alone c.first_offers.ensures)
