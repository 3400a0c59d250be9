-- Sheets lose nothing: what is written is read back, and what is read is written again. Assumes nothing: these are definitions and statements.
use Rattle.std.specs.Prelude.{◌≡◌, ℕ, ◌<◌, List, length}
use Rattle.rooms.specs.Before.{prior}
use Rattle.rooms.specs.Bytes.{Bytes}
use Rattle.rooms.specs.House.{rent_of, room_of}
use Rattle.rooms.specs.Rows.{number}
use Rattle.whole.specs.Bits.{Signed64}
use Rattle.sheet.specs.Format.{Sheet, sheet_bytes, sheet_length, sheet_of}

-- Two sheets say the same of each of n people and n rooms.
pub record Agree (n : ℕ) (s t : Sheet) : Type 0 where
  pub room : (i : ℕ) → i < n → room_of s.claim.room i ≡ room_of t.claim.room i
  pub before : (i : ℕ) → i < n → prior s.claim.before i ≡ prior t.claim.before i
  pub d : (i : ℕ) → i < n → number s.claim.d i ≡ number t.claim.d i
  pub rents : (r : ℕ) → r < n → rent_of s.claim.rents r ≡ rent_of t.claim.rents r
  pub cents : (r : ℕ) → r < n → number s.cents r ≡ number t.cents r
  pub persons : (i : ℕ) → i < n → number s.claim.persons i ≡ number t.claim.persons i
  pub rooms : (r : ℕ) → r < n → number s.claim.rooms r ≡ number t.claim.rooms r

-- What a sheet says of them fits its bytes: rooms and persons before in one, the others in eight, signed.
pub record SheetFits (n : ℕ) (s : Sheet) : Type 0 where
  pub room : (i : ℕ) → i < n → room_of s.claim.room i < 256
  pub before : (i : ℕ) → i < n → prior s.claim.before i < 256
  pub d : (i : ℕ) → i < n → Signed64 (number s.claim.d i)
  pub rents : (r : ℕ) → r < n → Signed64 (rent_of s.claim.rents r)
  pub cents : (r : ℕ) → r < n → Signed64 (number s.cents r)
  pub persons : (i : ℕ) → i < n → Signed64 (number s.claim.persons i)
  pub rooms : (r : ℕ) → r < n → Signed64 (number s.claim.rooms r)

-- All sheets for n people are as long, and sheets that say the same have the same bytes.
abbrev pub Long : Type 0
Long = (n : ℕ) (s : Sheet) → length (sheet_bytes n s) ≡ sheet_length n

abbrev pub SameBytes : Type 0
SameBytes = (n : ℕ) (s t : Sheet) → Agree n s t → sheet_bytes n s ≡ sheet_bytes n t

-- What fits is written as bytes, and is read back.
abbrev pub ReadsBack : Type 0
ReadsBack = (n : ℕ) (s : Sheet) → SheetFits n s → Bytes (sheet_bytes n s) × Agree n (sheet_of n (sheet_bytes n s)) s

-- Bytes of that length are those of what they say, so that other bytes say something else; and what they say fits.
abbrev pub WritesBack : Type 0
WritesBack = (n : ℕ) (b : List ℕ) → Bytes b → length b ≡ sheet_length n → (sheet_bytes n (sheet_of n b) ≡ b) × SheetFits n (sheet_of n b)
