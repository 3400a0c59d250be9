use Rattle.std.proofs.Common.{rules}
use Rattle.rooms.specs.Format.{first_large, read}
use Rattle.rooms.proofs.group.Group.validate.Goals as goal

pub returns-then-bytes-eq0 : goal.returns-then-bytes-eq0
unfolding read
returns-then-bytes-eq0 c = search rules

pub returns-then-n-eq0 : goal.returns-then-n-eq0
unfolding read
returns-then-n-eq0 c = search rules

pub returns-then-bytes-want : goal.returns-then-bytes-want
unfolding read
returns-then-bytes-want c = search rules

pub returns-then-bytes-want-2 : goal.returns-then-bytes-want-2
unfolding read
returns-then-bytes-want-2 c = search rules

pub returns-then-word_at-gt-MOST_RENT : goal.returns-then-word_at-gt-MOST_RENT
unfolding read
returns-then-word_at-gt-MOST_RENT c = search rules

pub returns-in-Some : goal.returns-in-Some
unfolding read first_large
returns-in-Some c = search rules

pub returns-in-None : goal.returns-in-None
unfolding read first_large
returns-in-None c = search rules
