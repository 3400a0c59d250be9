-- A plain verdict can be told from its number and place, so no two have the same.
use Rattle.std.proofs.Common.{◌≡◌, ℕ, ◌+◌, ◌-◌, ◌/◌, ◌%◌, ◌<◌, ◌≤◌, cond, sym, refl, ap, ◌∙◌, arith}
use Rattle.std.specs.Prelude.{◌==◌, nat_lt}
use Rattle.std.proofs.lemmas.Bool.{cond-false, cond-true, le-ltb, lt-ltb}
use Rattle.rooms.specs.declared.refusal.Refusal.TheVariants.{Length as GroupLength, People, Rent as GroupRent, Worth, Slice}
use Rattle.sheet.specs.declared.verdict.Verdict.{Verdict}
use Rattle.sheet.specs.declared.verdict.Verdict.TheVariants.{Accepted, Group, Length, Rooms, Numbers, Rows, Way, Rent, Cents}
use Rattle.sheet.specs.Judge.{Judgement, place}
use Rattle.sheet.specs.Judge.Judgement.{accepted, faulty}
use Rattle.sheet.specs.Verdicts.{OneVerdict, Plain, meaning}

-- The verdict of a number and a place.
refusal_at : ℕ → ℕ → Verdict
refusal_at n p =
    cond (n == 1) (Group (GroupLength p))
    (cond (n == 2) (Group People)
    (cond (n == 3) (Group GroupRent)
    (cond (n == 4) (Group (Worth p))
    (cond (n == 5) (Group (Slice p))
    (cond (n == 6) (Length p)
    (cond (n == 7) (Rooms p)
    (cond (n == 8) (Numbers (p / 32) (p % 32))
    (cond (n == 9) (Rows p)
    (cond (n == 10) (Way (p / 32) (p % 32))
    (cond (nat_lt p 32) (Rent p) (Cents (p - 32))))))))))))

told : Judgement → Verdict
told accepted = Accepted
told (faulty at) = refusal_at at.0 at.1

-- The parts of a place whose second part is below 32.
parts : (a b : ℕ) → b < 32 → (place a b / 32 ≡ a) × (place a b % 32 ≡ b)
parts a b l = (omega arith, omega arith)

told_back : (v : Verdict) → Plain v → told (meaning v) ≡ v
unfolding told refusal_at
told_back Accepted p = refl
told_back (Group (GroupLength at)) p = refl
told_back (Group People) p = refl
told_back (Group GroupRent) p = refl
told_back (Group (Worth at)) p = refl
told_back (Group (Slice which)) p = refl
told_back (Length at) p = refl
told_back (Rooms person) p = refl
told_back (Numbers person room) p = let q = parts person room p in rw (q.0, q.1) refl
told_back (Rows person) p = refl
told_back (Way from to) p = let q = parts from to p in rw (q.0, q.1) refl
told_back (Rent room) p = cond-true _ _ _ (lt-ltb _ _ p)
told_back (Cents room) p =
    let l : 32 ≤ room + 32 = omega arith in
    let e : room + 32 - 32 ≡ room = omega arith in
    cond-false _ _ _ (le-ltb _ _ l) ∙ ap Cents e

pub one_verdict : OneVerdict
one_verdict v w p q e = sym (told_back v p) ∙ ap told e ∙ told_back w q
