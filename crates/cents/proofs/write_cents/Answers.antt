use Rattle.std.proofs.Common.{◌≡◌, ◌+◌, ◌<◌, ◌++◌, length, get_or, take, drop, ℤ, ◌+ℤ◌, sym, ap, ◌∙◌, ap₂, subst, arith, w64, to_z, of_z, below_more}
use Rattle.std.proofs.lemmas.List.{drop-drop, ext_get_or, get_or-set_other, get_or-set_same, length-take-le}
use Rattle.std.proofs.lemmas.Int.{ints, to_z-of_z}
use Rattle.rents.specs.Answer.{bits, held}
use Rattle.cents.specs.Cents.{Rounded, cents_of, extra, floor_at, missing_cents}
use Rattle.cents.proofs.Rounding.{cents_rounded}
use Rattle.cents.proofs.Slice.{bits_at, bits_long, cents_held, floor_small, front_floor, front_missing}
use Rattle.cents.proofs.write_cents.Goals as goal

pub in_cents-requires : goal.in_cents-requires
in_cents-requires c =
    let n = c.args.n in
    let xs = c.args.rents.now in
    let r = c.loop-r.r in
    let m = c.requires.enough in
    let halves = c.split_at_mut-fractions.ensures in
    let few = c.requires.roundable.few in
    let long = length-take-le n c.split_at_mut-fractions.result.1.now (omega (arith, halves.back_len)) in
    let l : r < n = omega (arith, c.loop-r-test.true) in
    let f : c.floor_of.result ≡ floor_at n (held n xs) r =
    c.floor_of.ensures ∙ front_floor n xs c.split_at_mut-fractions.result.0.now (omega arith) halves.front r l in
    let w = floor_small n c.args.rent (held n xs) c.requires.roundable r l in
    (record { low = omega (arith, ints); high = omega (arith, ints) }, omega arith)

pub loop-r-preserved : goal.loop-r-preserved
loop-r-preserved c =
    let n = c.args.n in
    let xs = c.args.rents.now in
    let ps = held n xs in
    let s = bits (cents_of n c.args.rent ps) in
    let r = c.loop-r.r in
    let m = c.requires.enough in
    let halves = c.split_at_mut-fractions.ensures in
    let front = c.split_at_mut-fractions.result.0.now in
    let long = length-take-le n c.split_at_mut-fractions.result.1.now (omega (arith, halves.back_len)) in
    let here : r < length c.loop-r.cent-items = omega (arith, c.loop-r-test.true, c.loop-r.auto.cent-items) in
    let l : r < n = omega (arith, c.loop-r-test.true) in
    let f : to_z w64 (of_z w64 c.floor_of.result) ≡ floor_at n ps r =
    to_z-of_z w64 c.floor_of.result (record { sfits = c.floor_of.type_inv }) ∙ c.floor_of.ensures ∙ front_floor n xs front (omega arith) halves.front r l in
    let z : to_z w64 (of_z w64 c.missing_cents-missing.result) ≡ missing_cents n c.args.rent ps =
    to_z-of_z w64 c.missing_cents-missing.result (record { sfits = c.missing_cents-missing.type_inv }) ∙ c.missing_cents-missing.ensures
    ∙ front_missing n xs front (omega arith) halves.front c.args.rent in
    let v : c.in_cents.result ≡ floor_at n ps r +ℤ extra (missing_cents n c.args.rent ps) r =
    c.in_cents.ensures ∙ ap₂ (λ (a b : ℤ). a +ℤ extra b r) f z in
    let x : c.to_bits.result ≡ get_or s r 0 =
    c.to_bits.ensures ∙ ap (of_z w64) (to_z-of_z w64 c.in_cents.result (record { sfits = c.in_cents.type_inv }) ∙ v) ∙ sym (bits_at n c.args.rent ps r l) in
    below_more _ _ (λ k m. get_or-set_other c.loop-r.cent-items r k _ 0 (λ q. omega arith) ∙ c.loop-r.invariant k m)
    (get_or-set_same c.loop-r.cent-items r _ 0 here ∙ x)

pub returns : goal.returns
returns c =
    let n = c.args.n in
    let xs = c.args.rents.now in
    let ps = held n xs in
    let cs = cents_of n c.args.rent ps in
    let m = c.requires.enough in
    let halves = c.split_at_mut-fractions.ensures in
    let back = c.split_at_mut-fractions.result.1.now in
    let long = length-take-le n back (omega (arith, halves.back_len)) in
    let items = c.loop-r.cent-items in
    let written : items ≡ bits cs =
    ext_get_or 0 items (bits cs) (c.loop-r.auto.cent-items ∙ long ∙ sym (bits_long n c.args.rent ps))
    (λ k l. c.loop-r.invariant k (omega (arith, c.loop-r-test.false, c.loop-r.auto.cent-items))) in
    let w : c.split_at_mut-fractions.result.0.now ++ (items ++ drop n back) ≡ take n xs ++ (bits cs ++ drop (n + n) xs) =
    ap₂ ◌++◌ halves.front (ap₂ ◌++◌ written (ap (drop n) halves.back ∙ drop-drop n n xs)) in
    let t : held n (drop n (c.split_at_mut-fractions.result.0.now ++ (items ++ drop n back))) ≡ cs =
    ap (λ ys. held n (drop n ys)) w ∙ cents_held n c.args.rent ps c.requires.roundable (take n xs) (drop (n + n) xs) (length-take-le n xs (omega arith)) in
    record {
      cents = w;
      held = t;
      rounded = subst (λ qs. Rounded n c.args.rent ps qs) (sym t) (cents_rounded n c.args.rent ps c.requires.roundable);
    }
