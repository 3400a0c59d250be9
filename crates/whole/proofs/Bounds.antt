-- How bounds add up.
use Rattle.std.proofs.Common.{ℕ, zero, suc, ◌*◌, ◌<◌, ◌≤◌, ℤ, pos, negsuc, mul-le-mul_left, mul-suc, arith}
use Rattle.std.proofs.lemmas.Nat.{mul-le}
use Rattle.std.proofs.lemmas.Int.{ints}
use Rattle.rooms.specs.House.{sum}
use Rattle.whole.specs.Bounds.{Within, Wider, SumWithin, DifferenceWithin, ProductWithin, TotalWithin}

pub wider : Wider
wider a b x h w = record { low = omega (arith, ints); high = omega (arith, ints) }

pub sum_within : SumWithin
sum_within a b x y v w = record { low = omega (arith, ints); high = omega (arith, ints) }

pub difference_within : DifferenceWithin
difference_within a b x y v w = record { low = omega (arith, ints); high = omega (arith, ints) }

-- The factor has no sign, so the product has that of x, and is at most the product of the two bounds away from nothing.
pub product_within : ProductWithin
product_within a b (pos k) n w h =
    let e : k ≤ a = omega (arith, ints) in
    let p = mul-le k n a b e h in
    record { low = omega (arith, ints); high = omega (arith, ints) }
product_within a b (negsuc k) n w h =
    let e : suc k ≤ a = omega (arith, ints) in
    let p = mul-le (suc k) n a b e h in
    record { low = omega (arith, ints); high = omega (arith, ints) }

total : (b : ℕ) (f : ℕ → ℤ) (n : ℕ) → ((i : ℕ) → i < n → Within b (f i)) → Within (b * n) (sum f n)
unfolding sum
total b f zero h = record { low = omega (arith, ints); high = omega (arith, ints) }
total b f (suc n) h =
    let w = h n (omega arith) in
    let v = total b f n (λ i l. h i (omega arith)) in
    let e = mul-suc b n in
    record { low = omega (arith, ints); high = omega (arith, ints) }

pub total_within : TotalWithin
total_within b m f n l h = wider (b * n) (b * m) (sum f n) (mul-le-mul_left b l) (total b f n h)
