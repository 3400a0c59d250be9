use Rattle.std.proofs.Common.{ℕ, ◌≤◌, List, [], ◌∷◌, replicate, pos, sym, refl, subst, lit<, lit≤}
use Rattle.rooms.specs.Bytes.{from_bytes}
use Rattle.rooms.specs.House.{sum, value}
use Rattle.rooms.specs.Format.{house_of, word, worth_word}
use Rattle.rooms.specs.Rows.{way}
use Rattle.rents.specs.Rents.{spare}
use Rattle.rents.specs.Answer.{Measured}
use Rattle.rents.proofs.Trials.{measured_by}
use Rattle.rents.proofs.tests.two_rooms.Goals as goal

abbrev bytes : List ℕ
bytes = 2 ∷ 100 ∷ 0 ∷ 0 ∷ 0 ∷ 80 ∷ 0 ∷ 0 ∷ 0 ∷ 70 ∷ 0 ∷ 0 ∷ 0 ∷ 80 ∷ 0 ∷ 0 ∷ 0 ∷ 20 ∷ 0 ∷ 0 ∷ 0 ∷ []

abbrev rooms : List ℕ
rooms = 1 ∷ 0 ∷ []

abbrev lengths : List ℕ
lengths = replicate 24 0

-- Everybody's gain and every room's rent show that the sharing is best.
measured : Measured (house_of bytes) rooms lengths
unfolding house_of word worth_word from_bytes value sum way spare
measured =
    measured_by (house_of bytes) rooms (255 ∷ 255 ∷ []) lengths (pos 110 ∷ pos 90 ∷ []) (pos 25 ∷ pos 25 ∷ []) (pos 55 ∷ pos 45 ∷ []) (lit< tt) refl refl

enough : (house_of bytes).n ≤ 3
unfolding house_of
enough = lit≤ tt

pub fairest_rents-out-requires : goal.fairest_rents-out-requires
fairest_rents-out-requires g c =
    let e = sym c.new-group.ensures in
    record { measured = subst (λ s. Measured (house_of s) rooms lengths) e measured; enough = subst (λ s. (house_of s).n ≤ 3) e enough }
