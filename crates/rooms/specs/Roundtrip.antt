-- That the format loses nothing: statements, whose proofs a contract asks for. Assumes nothing: these are definitions.
use Rattle.std.specs.Prelude.{◌≡◌, ℕ, List}
use Rattle.rooms.specs.Bytes.{Bytes}
use Rattle.rooms.specs.House.{House}
use Rattle.rooms.specs.Format.{Allowed, bytes_of, read}
use Rattle.rooms.specs.Format.Reading.{taken}

-- A house within the bounds, written as bytes, is read back as that house.
abbrev pub ReadsBack : Type 0
ReadsBack = (h : House) → Allowed h → read (bytes_of h) ≡ taken h

-- Bytes that are taken speak of a house within the bounds, and are just that house's bytes.
abbrev pub WritesBack : Type 0
WritesBack = (s : List ℕ) (h : House) → Bytes s → read s ≡ taken h → Allowed h × (bytes_of h ≡ s)
