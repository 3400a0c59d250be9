use Rattle.std.proofs.Common.{◌≡◌, ℕ, ◌*◌, List, ◌++◌, drop, replicate, sym, ap, ◌∙◌, subst, arith}
use Rattle.rooms.specs.Format.{house_of, is_taken, taken}
use Rattle.rooms.specs.House.{joint}
use Rattle.rooms.specs.Rows.{signed}
use Rattle.rooms.proofs.Taken.{allowed, passed}
use Rattle.assignment.specs.Answer.{looks_of, sharing_of, work_for}
use Rattle.rents.specs.Answer.{bits}
use Rattle.rents.specs.Rents.{spare}
use Rattle.sheet.specs.Format.{sheet_bytes, sheet_length}
use Rattle.sheet.specs.Share.{LeastGain, fair_cents, fair_rents, lengths_of, sheet_for}
use Rattle.sheet.proofs.Fairly.{fair, least_gain}
use Rattle.sheet.proofs.sharing.share.Goals as goal

pub returns : goal.returns
returns c =
    let g = c.args.group.now in
    let q = c.in_ok-group.ensures.0 in
    let e = c.in_ok-group.ensures.1 ∙ ap (λ (s : List ℕ). taken (house_of s)) q in
    let a = allowed g (passed g (ap is_taken e)) in
    let n : c.solve.result.people ≡ (house_of g).n = c.solve.ensures.people ∙ ap (λ (s : List ℕ). (house_of s).n) q in
    let l = c.solve.ensures.least ∙ ap (λ (s : List ℕ). spare (house_of s) (sharing_of (house_of s)) (signed (lengths_of (house_of s)))) q in
    record {
      whole = record {
        house = e;
        placed = c.solve.ensures.rooms ∙ ap (λ (s : List ℕ). sharing_of (house_of s) ++ drop (house_of s).n c.args.rooms.now) q;
        priced =
            c.solve.ensures.rents
            ∙ ap (λ (s : List ℕ). bits (fair_rents (house_of s)) ++ (bits (fair_cents (house_of s)) ++ drop (2 * (house_of s).n) c.args.rents.now)) q;
        cleaned =
            c.solve.ensures.work
            ∙ ap (λ (s : List ℕ). replicate (work_for (house_of s).n) 0 ++ drop (work_for (house_of s).n) c.args.work.now) q;
        written =
            c.solve.ensures.sheet
            ∙ ap (λ (s : List ℕ). sheet_bytes (house_of s).n (sheet_for (house_of s)) ++ drop (sheet_length (house_of s).n) c.args.sheet.now) q;
        count = n;
        few = let f = a.few in omega arith;
        together = c.solve.ensures.joint ∙ ap (λ (s : List ℕ). joint (house_of s) (sharing_of (house_of s))) q;
        poorest = l;
        looked = c.solve.ensures.looks ∙ ap (λ (s : List ℕ). looks_of (house_of s)) q;
        fair = fair (house_of g) a;
      };
      least = subst (LeastGain (house_of g)) (sym l) (least_gain (house_of g) a);
    }
