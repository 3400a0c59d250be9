use Rattle.sheet.proofs.Roundtrips.{reads_back, writes_back}
use Rattle.sheet.proofs.Sheets.{long, same_bytes}
use Rattle.sheet.proofs.write.sheet_stands.Goals as goal

pub returns : goal.returns
returns c = record { long = long; same = same_bytes; reads = reads_back; writes = writes_back }
