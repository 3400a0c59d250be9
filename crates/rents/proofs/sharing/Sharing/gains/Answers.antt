use Rattle.std.proofs.Common.{◌++◌, map, ◌-◌, replicate, ℕ, ℤ, pos, ap, ◌∙◌, arith}
use Rattle.std.specs.List.{range_with_len}
use Rattle.std.proofs.lemmas.List.{length-take-le}
use Rattle.rooms.specs.Format.{most_people}
use Rattle.rooms.specs.House.{own_gain}
use Rattle.rooms.specs.Rows.{signed}
use Rattle.rooms.specs.View.{house}
use Rattle.rents.specs.Rents.{rents_of}
use Rattle.rents.proofs.Writing.{front_filled}
use Rattle.rents.proofs.sharing.Sharing.gains.Goals as goal

pub returns : goal.returns
returns c =
    let s = c.args.self.now in
    let h = house s.group in
    let f = λ (i : ℕ). own_gain h s.rooms.now h.n (rents_of h s.rooms.now (signed s.d)) i in
    let n = c.count.result in
    let long = length-take-le n (replicate most_people (pos 0)) (let e = c.count.ensures.people in omega (arith, c.count.ensures.allowed.few)) in
    front_filled f n c.loop-i.gain-items (c.loop-i.auto.gain-items ∙ long) (λ k l. c.loop-i.invariant k (let t = c.loop-i-test.false in omega arith))
    ∙ ap (λ n. map f (range_with_len 0 n) ++ replicate {A = ℤ} (most_people - n) (pos 0)) c.count.ensures.people
