-- What share answers, as functions of the group's bytes and the lengths of what is lent. Assumes nothing: these are definitions.
use Rattle.std.specs.Prelude.{◌≡◌, ℕ, ◌*◌, ◌≤◌, cond, List, ◌++◌, length, drop, replicate, ℤ, nat_lt}
use Rattle.rooms.specs.House.{House, joint, own_gain}
use Rattle.rooms.specs.Format.{Allowed, Reading, read, house_of, most_people}
use Rattle.rooms.specs.Format.Reading.{taken, refused}
use Rattle.rooms.specs.Promise.{BestSharing, Fairest, Poorest}
use Rattle.rooms.specs.Rows.{Longest, signed}
use Rattle.assignment.specs.Answer.{sharing_of, persons_of, prices_of, array_of, looks_of, work_for}
use Rattle.longest.specs.Promise.{longest_of, before_of}
use Rattle.rents.specs.Answer.{bits}
use Rattle.rents.specs.Rents.{rents_of, spare}
use Rattle.cents.specs.Cents.{Rounded, cents_of}
use Rattle.sheet.specs.Format.{Sheet, sheet_bytes, sheet_length, sheet_of}
use Rattle.sheet.specs.Judge.{judge_sheet}
use Rattle.sheet.specs.Judge.Judgement.{accepted}

-- The lengths of the longest rows of the sharing that is found, and who stands before whom, by the numbers of that sharing; and the rents and cents made
-- from them.
abbrev pub lengths_of : House → List ℕ
lengths_of h = longest_of h (sharing_of h) (array_of (persons_of h)) (array_of (prices_of h))

abbrev pub priors_of : House → List ℕ
priors_of h = before_of h (sharing_of h) (array_of (persons_of h)) (array_of (prices_of h))

abbrev pub fair_rents : House → List ℤ
fair_rents h = rents_of h (sharing_of h) (signed (lengths_of h))

abbrev pub fair_cents : House → List ℤ
fair_cents h = cents_of h.n h.rent (fair_rents h)

-- The sheet of a house.
abbrev pub sheet_for : House → Sheet
sheet_for h = record {
  claim = record {
    room = sharing_of h;
    before = priors_of h;
    d = signed (lengths_of h);
    rents = fair_rents h;
    persons = signed (persons_of h);
    rooms = signed (prices_of h);
  };
  cents = fair_cents h;
}

-- Whether a group is taken, where slices of these lengths are lent: after its own refusals, 5 for the first slice that is too short.
abbrev pub lent_enough : (rooms rents work sheet : ℕ) → Reading → Reading
lent_enough rooms rents work sheet (refused at) = refused at
lent_enough rooms rents work sheet (taken h) =
    cond (nat_lt rooms h.n) (refused (5, 0))
    (cond (nat_lt rents (2 * h.n)) (refused (5, 1))
    (cond (nat_lt work (work_for h.n)) (refused (5, 2))
    (cond (nat_lt sheet (sheet_length h.n)) (refused (5, 3))
    (taken h))))

-- What holds of the share of any house within the bounds: its sharing is best, its rents are the fairest, its cents are as promised, the looks are few, and
-- the checker accepts its sheet.
pub record FairShare (h : House) : Type 0 where
  pub best : BestSharing h (sharing_of h)
  pub fairest : Fairest h (sharing_of h) h.n (fair_rents h)
  pub cents : Rounded h.n h.rent (fair_rents h) (fair_cents h)
  pub few : looks_of h ≤ h.n * h.n * h.n
  pub accepted : judge_sheet h (sheet_of h.n (sheet_bytes h.n (sheet_for h))) ≡ accepted

abbrev pub AlwaysFair : Type 0
AlwaysFair = (h : House) → Allowed h → FairShare h

-- What the least that is answered means: the rows are longest, somebody has least, and n × the gain of whoever has least is just that number x.
pub record LeastGain (h : House) (x : ℤ) : Type 0 where
  pub longest : Longest h (sharing_of h) (signed (lengths_of h))
  pub poorest : (j : ℕ) × Poorest h (sharing_of h) h.n (fair_rents h) j
  pub least : (j : ℕ) → Poorest h (sharing_of h) h.n (fair_rents h) j → own_gain h (sharing_of h) h.n (fair_rents h) j ≡ x

abbrev pub AlwaysLeast : Type 0
AlwaysLeast = (h : House) → Allowed h → LeastGain h (spare h (sharing_of h) (signed (lengths_of h)))

-- THE WHOLE PROMISE of share where it answers: the bytes are those of a house; what each lent slice holds afterwards, with everything past the part used
-- as it was; the numbers that are answered; and that the share is fair.
pub record Shares (group rooms rents work sheet rooms' rents' work' sheet' : List ℕ) (people : ℕ) (joint_worth least : ℤ) (looks : ℕ) : Type 0 where
  pub house : read group ≡ taken (house_of group)
  pub placed : rooms' ≡ sharing_of (house_of group) ++ drop (house_of group).n rooms
  pub priced : rents' ≡ bits (fair_rents (house_of group)) ++ (bits (fair_cents (house_of group)) ++ drop (2 * (house_of group).n) rents)
  pub cleaned : work' ≡ replicate (work_for (house_of group).n) 0 ++ drop (work_for (house_of group).n) work
  pub written : sheet' ≡ sheet_bytes (house_of group).n (sheet_for (house_of group)) ++ drop (sheet_length (house_of group).n) sheet
  pub count : people ≡ (house_of group).n
  pub few : people ≤ most_people
  pub together : joint_worth ≡ joint (house_of group) (sharing_of (house_of group))
  pub poorest : least ≡ spare (house_of group) (sharing_of (house_of group)) (signed (lengths_of (house_of group)))
  pub looked : looks ≡ looks_of (house_of group)
  pub fair : FairShare (house_of group)

-- And where it refuses: by the first reason there is, and nothing lent has changed.
pub record Refuses (group rooms rents work sheet rooms' rents' work' sheet' : List ℕ) (number place : ℕ) : Type 0 where
  pub reason : lent_enough (length rooms) (length rents) (length work) (length sheet) (read group) ≡ refused (number, place)
  pub rooms_kept : rooms' ≡ rooms
  pub rents_kept : rents' ≡ rents
  pub work_kept : work' ≡ work
  pub sheet_kept : sheet' ≡ sheet
