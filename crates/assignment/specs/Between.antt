-- What holds between two rounds of the search, as its functions ask it of each other. Lists are read as functions of the place. Assumes nothing: these
-- are definitions.
use Rattle.std.specs.Prelude.{◌≡◌, ℕ, ◌+◌, ◌<◌, ◌≤◌, List, length}
use Rattle.assignment.specs.Search.{at}
use Rattle.assignment.specs.Run.{State}

-- Numbers for persons and rooms that add up to at least the worth everywhere, none above H (a dual solution).
pub record Dual (n H : ℕ) (W : ℕ → ℕ → ℕ) (u v : ℕ → ℕ) : Type 0 where
  pub cover : (i r : ℕ) → i < n → r < n → W i r ≤ u i + v r
  pub persons : (i : ℕ) → i < n → u i ≤ H
  pub prices : (r : ℕ) → r < n → v r ≤ H

-- Everybody holds one room, and holder leads back.
pub record Held (n : ℕ) (room holder : ℕ → ℕ) : Type 0 where
  pub into : (i : ℕ) → i < n → room i < n
  pub onto : (r : ℕ) → r < n → holder r < n
  pub back : (i : ℕ) → i < n → holder (room i) ≡ i
  pub forth : (r : ℕ) → r < n → room (holder r) ≡ r

-- The persons below p are placed: their number and their room's add up to just the worth. A room that nobody placed holds has the number 0.
pub record Placed (n H : ℕ) (W : ℕ → ℕ → ℕ) (p : ℕ) (u v room holder : ℕ → ℕ) : Type 0 where
  pub dual : Dual n H W u v
  pub held : Held n room holder
  pub tight : (i : ℕ) → i < p → u i + v (room i) ≡ W i (room i)
  pub free : (r : ℕ) → r < n → p ≤ holder r → v r ≡ 0

-- The same of the four lists of a state, each of length n.
pub record Stands (n H : ℕ) (W : ℕ → ℕ → ℕ) (p : ℕ) (x : State) : Type 0 where
  pub placed : Placed n H W p (at x.persons) (at x.prices) (at x.rooms.room) (at x.rooms.holder)
  pub long_persons : length x.persons ≡ n
  pub long_prices : length x.prices ≡ n
  pub long_room : length x.rooms.room ≡ n
  pub long_holder : length x.rooms.holder ≡ n

-- A person can be asked to look at every room: the numbers of n persons and n rooms, at most 24, cover every worth.
pub record Ready (n H : ℕ) (W : ℕ → ℕ → ℕ) (u v : List ℕ) : Type 0 where
  pub few : n ≤ 24
  pub long_persons : length u ≡ n
  pub long_prices : length v ≡ n
  pub dual : Dual n H W (at u) (at v)
