use Rattle.std.proofs.Common.{◌≡◌, ℕ, ◌<◌, take, ap, ◌∙◌, arith}
use Rattle.rooms.specs.House.{room_of}
use Rattle.sheet.specs.Statement.{claimed_by, house_in}
use Rattle.sheet.proofs.Found.{found_is, none_found}
use Rattle.sheet.proofs.Shared.{marked_more, marked_out, marked_twice}
use Rattle.sheet.proofs.statement.Statement.first_room.Goals as goal
use Rattle.sheet.proofs.statement.Statement.first_room.Goals.{then-room-n-via-then-room-n, then-room-n-via-else-room-n+then-taken-room}

pub returns-then-room-n : goal.returns-then-room-n
returns-then-room-n c =
    let h = house_in c.args.self.now in
    let e = c.args.self.now.entries.now in
    let few = c.count-n.ensures.allowed.few in
    let l : c.loop-i.i < h.n = omega arith in
    let read : c.from-room.result ≡ room_of (claimed_by c.args.self.now).room c.loop-i.i = c.from-room.ensures ∙ ap (λ (n : ℕ). room_of (take n e.room) c.loop-i.i) c.count-n.ensures.people in
    found_is _ _ c.loop-i.i l (elim c.then-room-n.branch [
      | then-room-n-via-then-room-n w ↦ marked_out h e few c.loop-i.i _ c.loop-i.taken c.loop-i.invariant read (omega arith)
      | then-room-n-via-else-room-n+then-taken-room w ↦
          marked_twice h e few c.loop-i.i _ c.loop-i.taken c.loop-i.invariant read (omega arith) w.if-taken-room.true
    ]) c.loop-i.invariant.fine

pub loop-i-preserved : goal.loop-i-preserved
loop-i-preserved c =
    let h = house_in c.args.self.now in
    let e = c.args.self.now.entries.now in
    let l : c.loop-i.i < h.n = omega arith in
    let read : c.from-room.result ≡ room_of (claimed_by c.args.self.now).room c.loop-i.i = c.from-room.ensures ∙ ap (λ (n : ℕ). room_of (take n e.room) c.loop-i.i) c.count-n.ensures.people in
    marked_more h e c.count-n.ensures.allowed.few c.loop-i.i _ c.loop-i.taken c.loop-i.invariant read (omega arith) c.if-taken-room.false

pub returns : goal.returns
returns c = none_found _ (house_in c.args.self.now).n (λ k l. c.loop-i.invariant.fine k (omega arith))
