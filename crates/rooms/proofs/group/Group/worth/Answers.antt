use Rattle.std.proofs.Common.{◌+◌, ◌*◌, sym, ap, ◌∙◌, arith}
use Rattle.rooms.specs.Format.{worth_word}
use Rattle.rooms.proofs.Taken.{passed, people_is, worth_is, worth_within}
use Rattle.rooms.proofs.group.Group.worth.Goals as goal

pub worth_word-requires : goal.worth_word-requires
worth_word-requires c =
    let s = c.args.self.now.bytes.now in
    let e = c.args.self.now.count in
    worth_within s c.args.self.now.n c.args.i c.args.r (passed s c.args.self.now.good) e c.requires.0 (let r = c.requires.1 in omega arith)

pub returns : goal.returns
returns c =
    let s = c.args.self.now.bytes.now in
    let e = people_is s in
    c.worth_word.ensures ∙ ap (λ n. worth_word s (c.args.i * n + c.args.r)) (c.args.self.now.count ∙ e)
    ∙ sym (worth_is s c.args.i c.args.r (let l = c.requires.0 in omega arith) (let l = c.requires.1 in omega arith))
