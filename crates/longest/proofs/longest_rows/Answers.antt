use Rattle.std.proofs.Common.{◌≡◌, ℕ, ◌-◌, ◌≤◌, ◌++◌, length, drop, replicate, ap, ◌∙◌, arith, rules}
use Rattle.std.proofs.lemmas.List.{length-take-le}
use Rattle.std.proofs.lemmas.Slice.{drop-append-drop, overwrites}
use Rattle.rooms.specs.Format.{house_of}
use Rattle.longest.specs.Promise.{work_len}
use Rattle.longest.proofs.Outcome.{found_shown, found_longest, found_high, found_few}
use Rattle.longest.proofs.longest_rows.Goals as goal

pub returns : goal.returns
returns c =
    let a = c.count.ensures.allowed in
    let q = c.requires.solved in
    let e : c.work_len-needed.result ≡ work_len (house_of c.args.group.now.bytes.now).n =
    c.work_len-needed.ensures ∙ ap work_len c.count.ensures.people in
    let m : ℕ = c.work_len-needed.result - 0 in
    let em : m ≡ work_len (house_of c.args.group.now.bytes.now).n = omega (arith, e) in
    let le : m ≤ length c.args.work.now = omega (arith, e, c.requires.enough) in
    let size : length c.longest-found.new.table ≡ m = c.longest-found.auto.table ∙ length-take-le m c.args.work.now le in
    let zeros : c.fill.new.self ≡ replicate m 0 = search (rules, overwrites) in
    let rest : drop m (c.longest-found.new.table ++ drop m c.args.work.now) ≡ drop m c.args.work.now = drop-append-drop m c.args.work.now c.longest-found.new.table m (omega arith) size in
    let fits : (house_of c.args.group.now.bytes.now).n ≤ length c.args.persons = search (rules, a.few) in
    record {
      found = c.longest-found.ensures;
      shown = found_shown _ _ _ _ q a fits _ _ _ c.longest-found.ensures;
      longest = found_longest _ _ _ _ q a fits _ _ _ c.longest-found.ensures;
      high = found_high _ _ _ _ q a fits _ _ _ c.longest-found.ensures;
      few = found_few _ _ _ _ q a fits _ _ _ c.longest-found.ensures;
      clean = rw (← em) (ap (λ z. z ++ drop m (c.longest-found.new.table ++ drop m c.args.work.now)) zeros ∙ ap (λ z. replicate m 0 ++ z) rest);
    }
