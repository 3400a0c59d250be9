use Rattle.rooms.proofs.Taken.{passed, allowed}
use Rattle.rooms.proofs.group.Group.count.Goals as goal

pub returns : goal.returns
returns c =
    let s = c.args.self.now.bytes.now in
    record { people = c.args.self.now.count; allowed = allowed s (passed s c.args.self.now.good) }
