use Rattle.std.proofs.Common.{ℕ, ◌≤◌, List, [], ◌∷◌, set, replicate, pos, sym, refl, subst, lit<, lit≤}
use Rattle.rooms.specs.Bytes.{from_bytes}
use Rattle.rooms.specs.House.{sum, value}
use Rattle.rooms.specs.Format.{house_of, word, worth_word}
use Rattle.rooms.specs.Rows.{way}
use Rattle.rents.specs.Rents.{spare}
use Rattle.rents.specs.Answer.{Measured}
use Rattle.rents.proofs.Trials.{measured_by}
use Rattle.rents.proofs.tests.three_rooms.Goals as goal

abbrev bytes : List ℕ
bytes = 3 ∷ 144 ∷ 95 ∷ 1 ∷ 0 ∷ 96 ∷ 234 ∷ 0 ∷ 0 ∷ 48 ∷ 117 ∷ 0 ∷ 0 ∷ 32 ∷ 78 ∷ 0 ∷ 0 ∷ 80 ∷ 195 ∷ 0 ∷ 0 ∷ 64 ∷ 156 ∷ 0 ∷ 0 ∷ 48 ∷ 117 ∷ 0 ∷ 0 ∷ 216 ∷ 214 ∷ 0 ∷ 0 ∷ 184 ∷ 136 ∷ 0 ∷ 0 ∷ 168 ∷ 97 ∷ 0 ∷ 0 ∷ []

abbrev rooms : List ℕ
rooms = 0 ∷ 2 ∷ 1 ∷ []

abbrev lengths : List ℕ
lengths = set (replicate 24 0) 1 5000

-- Everybody's gain and every room's rent show that the sharing is best.
measured : Measured (house_of bytes) rooms lengths
unfolding house_of word worth_word from_bytes value sum way spare
measured =
    measured_by (house_of bytes) rooms (255 ∷ 2 ∷ 255 ∷ []) lengths (pos 150000 ∷ pos 75000 ∷ pos 45000 ∷ []) (pos 10000 ∷ pos 15000 ∷ pos 10000 ∷ []) (pos 50000 ∷ pos 25000 ∷ pos 15000 ∷ []) (lit< tt) refl refl

enough : (house_of bytes).n ≤ 4
unfolding house_of
enough = lit≤ tt

pub fairest_rents-out-requires : goal.fairest_rents-out-requires
fairest_rents-out-requires g c =
    let e = sym c.new-group.ensures in
    record { measured = subst (λ s. Measured (house_of s) rooms lengths) e measured; enough = subst (λ s. (house_of s).n ≤ 4) e enough }
