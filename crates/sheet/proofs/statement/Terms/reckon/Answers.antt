use Rattle.std.proofs.Common.{◌≡◌, ℕ, ℤ, pos, ◌-ℤ◌, ◌*ℤ◌, ◌^◌, neg_ℤ, ap, ◌∙◌, arith, SFits, to_z, of_z}
use mir.Syntax.{w128}
use Rattle.std.proofs.lemmas.Int.{ints, to_z-of_z}
use Rattle.whole.specs.Floor.{floor}
use Rattle.sheet.proofs.statement.Terms.reckon.Goals as goal

pub times-requires : goal.times-requires
times-requires c =
    let s = c.surplus-surplus.ensures.within in
    let v = c.floor_div-even.ensures.within (2 ^ 100) (record { low = omega (arith, ints); high = omega (arith, ints) }) in
    let few = c.count-n.ensures.allowed.few in
    (record { low = omega (arith, ints); high = omega (arith, ints) }, omega arith)

pub invariant_of-result : goal.invariant_of-result
invariant_of-result c =
    let v = c.surplus-surplus.ensures.within in
    let w = c.floor_div-even.ensures.within (2 ^ 100) (record { low = omega (arith, ints); high = omega (arith, ints) }) in
    let f : SFits w128 c.surplus-surplus.result = record { sfits = c.surplus-surplus.type_inv } in
    let g : SFits w128 c.floor_div-even.result = record { sfits = c.floor_div-even.type_inv } in
    let i : SFits w128 c.minus-missing.result = record { sfits = c.minus-missing.type_inv } in
    let j : SFits w128 c.times.result = record { sfits = c.times.type_inv } in
    let S = to_z w128 (of_z w128 c.surplus-surplus.result) in
    let E = to_z w128 (of_z w128 c.floor_div-even.result) in
    let minus : to_z w128 (of_z w128 (pos 0 -ℤ to_z w128 (of_z w128 c.surplus-surplus.result))) ≡ neg_ℤ (to_z w128 (of_z w128 c.surplus-surplus.result)) = omega (arith, ints) in
    record {
      reckoned = record {
        spare_is = to_z-of_z w128 c.surplus-surplus.result f ∙ c.surplus-surplus.ensures.value;
        small = record { low = omega (arith, ints); high = omega (arith, ints) };
        thin = record { low = omega (arith, ints); high = omega (arith, ints) };
        even_is =
            to_z-of_z w128 c.floor_div-even.result g ∙ c.floor_div-even.ensures.value
            ∙ ap (λ (z : ℤ). floor z c.count-n.result) minus ∙ ap (λ (n : ℕ). floor (neg_ℤ S) n) c.count-n.ensures.people;
        missing_is =
            to_z-of_z w128 c.minus-missing.result i ∙ c.minus-missing.ensures.value
            ∙ ap (λ (z : ℤ). z -ℤ to_z w128 (of_z w128 c.times.result)) minus
            ∙ ap (λ (z : ℤ). neg_ℤ S -ℤ z)
            (to_z-of_z w128 c.times.result j ∙ c.times.ensures.value ∙ ap (λ (n : ℕ). E *ℤ pos n) c.count-n.ensures.people);
        tenant_is = c.tenants.ensures;
      };
    }
