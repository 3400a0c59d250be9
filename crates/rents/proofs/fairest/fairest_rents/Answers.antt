use Rattle.std.proofs.Common.{◌≡◌, ◌++◌, drop, ℤ, sym, ap, ◌∙◌, subst, rules, w64, to_z, of_z}
use Rattle.rooms.specs.Rows.{signed}
use Rattle.rooms.specs.View.{house}
use Rattle.rooms.proofs.Taken.{allowed, passed}
use Rattle.rents.specs.Rents.{rents_of, spare}
use Rattle.rents.specs.Answer.{Fair, bits, held}
use Rattle.rents.proofs.Answered.{fair_rents, held_rents}
use Rattle.rents.proofs.fairest.fairest_rents.Goals as goal

pub returns : goal.returns
returns c =
    let group = c.args.group.now in
    let h = house group in
    let room = c.args.rooms.now in
    let d = signed c.args.d in
    let a = allowed group.bytes.now (passed group.bytes.now group.good) in
    let e = c.new-sharing.ensures in
    let w : c.write_rents.new.rents ≡ bits (rents_of h room d) ++ drop h.n c.args.rents.now = rw (e.group, e.rooms, e.lengths) at c.write_rents.ensures in
    let z : to_z w64 (of_z w64 c.new-sharing.result.spare) ≡ spare h room d = search rules in
    let t : held h.n c.write_rents.new.rents ≡ rents_of h room d =
    ap (held h.n) w ∙ held_rents h room c.args.d a c.requires.measured (drop h.n c.args.rents.now) in
    record {
      rents = w;
      joint = search rules;
      least = z;
      gains = search rules;
      held = t;
      fair =
          subst (λ (x : ℤ). Fair h room d (held h.n c.write_rents.new.rents) x) (sym z)
          (subst (λ ps. Fair h room d ps (spare h room d)) (sym t) (fair_rents h room c.args.d a c.requires.measured));
    }
