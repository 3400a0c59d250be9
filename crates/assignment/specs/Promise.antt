-- What is promised of the sharing that is found and of the looks it takes. Assumes nothing: these are definitions.
use Rattle.std.specs.Prelude.{◌≡◌, ℕ, ◌+◌, ◌*◌, ◌<◌, ◌≤◌, List, length}
use Rattle.rooms.specs.House.{House, worth_at}
use Rattle.rooms.specs.Format.{most_worth, Allowed}
use Rattle.rooms.specs.Promise.{BestSharing}
use Rattle.rooms.specs.Rows.{Certified, signed}
use Rattle.assignment.specs.Search.{at}
use Rattle.assignment.specs.Run.{sum_of}
use Rattle.assignment.specs.Answer.{result, sharing_of, persons_of, prices_of, looks_from, round_looks, looks_of}

-- THE PROMISE. Everybody has a room of their own, and no sharing is worth more to all together. The numbers show it: a person's and a room's add up to
-- at least the worth everywhere, and to just the worth at everybody's own room. No number is below nothing or above H.
pub record Solved (h : House) (H : ℕ) (rooms persons prices : List ℕ) : Type 0 where
  pub best : BestSharing h rooms
  pub certified : Certified h rooms (signed persons) (signed prices)
  pub persons_low : (i : ℕ) → i < h.n → at persons i ≤ H
  pub prices_low : (r : ℕ) → r < h.n → at prices r ≤ H

-- The looks of n rounds are few: each round takes at most n × n. In round p at most p + 1 persons join, so it takes at most (p + 1) × n; all together
-- take at most n × n × n, and even half of n × n × (n + 1).
pub record Few (n : ℕ) (round : ℕ → ℕ) (looks : ℕ) : Type 0 where
  pub all : looks ≡ sum_of round n
  pub square : (p : ℕ) → p < n → round p ≤ n * n
  pub joins : (p : ℕ) → p < n → round p ≤ (p + 1) * n
  pub cube : looks ≤ n * n * n
  pub half : 2 * looks ≤ n * n * (n + 1)

-- The answer for a house: a room for each person, a number for each person and each room, and the looks, all as promised.
pub record Answered (h : House) : Type 0 where
  pub all_rooms : length (sharing_of h) ≡ h.n
  pub all_persons : length (persons_of h) ≡ h.n
  pub all_prices : length (prices_of h) ≡ h.n
  pub solved : Solved h most_worth (sharing_of h) (persons_of h) (prices_of h)
  pub few : Few h.n (round_looks h) (looks_of h)

-- Every house within the bounds is answered.
abbrev pub AllAnswered : Type 0
AllAnswered = (h : House) → Allowed h → Answered h

-- The search keeps both promises for every number of people and every bound H on the worths.
abbrev pub Found : Type 0
Found =
    (h : House) (H : ℕ) → ((i r : ℕ) → i < h.n → r < h.n → worth_at h i r ≤ H) →
    Solved h H (result h H).rooms.room (result h H).persons (result h H).prices
    × Few h.n (looks_from h H) (sum_of (looks_from h H) h.n)
