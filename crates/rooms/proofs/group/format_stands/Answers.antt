use Rattle.rooms.proofs.Roundtrips.{reads_back, writes_back}
use Rattle.rooms.proofs.group.format_stands.Goals as goal

pub returns : goal.returns
returns c = record { reads = reads_back; writes = writes_back }
