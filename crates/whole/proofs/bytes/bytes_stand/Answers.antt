use Rattle.whole.proofs.Eight.{eight, read_back, kept, below, bytes_back, signed_back}
use Rattle.whole.proofs.bytes.bytes_stand.Goals as goal

pub returns : goal.returns
returns c = record { eight = eight; back = read_back; kept = kept; below = below; again = bytes_back; signed = signed_back }
