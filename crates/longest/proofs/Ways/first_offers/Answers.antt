use Rattle.std.proofs.Common.{◌≡◌, take, sym, refl, ap, ◌∙◌, add-one, arith, rules}
use Rattle.std.proofs.lemmas.List.{take_all}
use Rattle.longest.specs.Run.{through, first_offers}
use Rattle.longest.specs.View.{lefts, offered}
use Rattle.longest.proofs.Passing.{offers_same}
use Rattle.longest.proofs.Views.{lefts_long, left_at}
use Rattle.longest.proofs.Ways.first_offers.Goals as goal

pub loop-k-init : goal.loop-k-init
unfolding first_offers
loop-k-init c =
    let rows = c.args.rows.now in
    let e : take c.args.self.now.n (lefts rows) ≡ lefts rows = take_all _ _ (omega (arith, lefts_long rows)) in
    let same : c.copy_from_slice.new.self ≡ rows = search rules in
    ap offered same ∙ offers_same (sym e) c.requires.alone

pub offer_through-requires : goal.offer_through-requires
offer_through-requires c = (omega arith, omega arith, omega (arith, left_at c.args.rows.now c.loop-k.k, c.requires.small c.loop-k.k (omega arith)))

pub loop-k-preserved : goal.loop-k-preserved
unfolding first_offers
loop-k-preserved c = c.offer_through.ensures ∙ ap (through _ _ _ _) c.loop-k.invariant ∙ rw (add-one, left_at) refl
