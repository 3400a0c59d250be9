-- What is shown is the fairest: the numbers show the sharing best, the persons before the rows longest, and the rents are made from them.
use Rattle.rooms.proofs.Before.{shown_longest}
use Rattle.rooms.proofs.Sharing.{certified_best}
use Rattle.rents.specs.Shown.{ShownFairest}
use Rattle.rents.proofs.Fair.{made_fairest}

pub shown_fairest : ShownFairest
shown_fairest h c o s =
    let b = certified_best h c.room c.persons c.rooms s.certified in
    let g = shown_longest h c.room c.before c.d s.whole.d s.rows in
    record {
      fairest = made_fairest h c.room c.d c.rents (record { someone = o; housed = s.housed; best = b; longest = g; rents = s.rents });
      best = b;
      longest = g;
    }
