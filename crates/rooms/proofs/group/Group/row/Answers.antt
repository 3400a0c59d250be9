use Rattle.std.proofs.Common.{◌≡◌, ◌+◌, ◌*◌, ◌<◌, length, ap, ◌∙◌, arith, below_more, get_or-set_other, get_or-set_same}
use Rattle.rooms.specs.Format.{people, worth_word}
use Rattle.rooms.proofs.Taken.{passed, people_is, worth_within, row_of_each, row_of_filled, front_long}
use Rattle.rooms.proofs.group.Group.row.Goals as goal

pub worth_word-requires : goal.worth_word-requires
worth_word-requires c =
    let s = c.args.self.now.bytes.now in
    let long = front_long c.args.self.now.n c.args.self.now.few in
    worth_within s c.args.self.now.n c.args.i c.loop-r.r (passed s c.args.self.now.good) c.args.self.now.count c.requires
    (let t = c.loop-r-test.true in omega arith)

pub loop-r-preserved : goal.loop-r-preserved
loop-r-preserved c =
    let s = c.args.self.now.bytes.now in
    let e : c.args.self.now.n ≡ people s = c.args.self.now.count ∙ people_is s in
    let lt : c.loop-r.r < length c.loop-r.worths = let t = c.loop-r-test.true in let a = c.loop-r.auto.worths in omega arith in
    below_more _ _ (λ k l. get_or-set_other c.loop-r.worths c.loop-r.r k _ 0 (λ q. omega arith) ∙ c.loop-r.invariant k l)
    (get_or-set_same c.loop-r.worths c.loop-r.r _ 0 lt ∙ c.worth_word.ensures ∙ ap (λ n. worth_word s (c.args.i * n + c.loop-r.r)) e)

pub returns : goal.returns
returns c =
    let s = c.args.self.now.bytes.now in
    let few = (passed s c.args.self.now.good).few in
    let e : c.args.self.now.n ≡ people s = c.args.self.now.count ∙ people_is s in
    let here : c.args.i < people s = let p = c.requires in let q = c.args.self.now.count in omega arith in
    let long = front_long c.args.self.now.n c.args.self.now.few in
    let w = row_of_filled s c.args.i c.args.self.now.n c.loop-r.worths e here (c.loop-r.auto.worths ∙ long) (λ k l. c.loop-r.invariant k (let t = c.loop-r-test.false in omega arith)) in
    record { whole = w; each = λ r. rw w (row_of_each s c.args.i r few here) }
