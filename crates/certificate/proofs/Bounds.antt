-- Bounds of products and sums of whole numbers.
use Rattle.std.proofs.Common.{ℕ, suc, ◌+◌, ◌*◌, ◌≤◌, ℤ, pos, negsuc, ◌+ℤ◌, ◌-ℤ◌, ◌*ℤ◌, ◌≤ℤ◌, arith, w32, w64, SFits}
use Rattle.std.proofs.lemmas.Nat.{mul-le}
use Rattle.std.proofs.lemmas.Int.{ints}
use Rattle.certificate.specs.Arrays.{Within}

pub product_within : (a b : ℕ) (x y : ℤ) → Within a x → Within b y → Within (a * b) (x *ℤ y)
product_within a b (pos x) (pos y) p q = let up = mul-le x y a b (omega (arith, ints, p.1)) (omega (arith, ints, q.1)) in (omega (arith, ints), omega (arith, ints))
product_within a b (pos x) (negsuc y) p q = let up = mul-le x (suc y) a b (omega (arith, ints, p.1)) (omega (arith, ints, q.0)) in (omega (arith, ints), omega (arith, ints))
product_within a b (negsuc x) (pos y) p q = let up = mul-le (suc x) y a b (omega (arith, ints, p.0)) (omega (arith, ints, q.1)) in (omega (arith, ints), omega (arith, ints))
product_within a b (negsuc x) (negsuc y) p q = let up = mul-le (suc x) (suc y) a b (omega (arith, ints, p.0)) (omega (arith, ints, q.0)) in (omega (arith, ints), omega (arith, ints))

pub sum_within : (a b : ℕ) (x y : ℤ) → Within a x → Within b y → Within (a + b) (x +ℤ y)
sum_within a b x y p q = (omega (arith, ints, p.0, q.0), omega (arith, ints, p.1, q.1))

pub difference_within : (a b : ℕ) (x y : ℤ) → Within a x → Within b y → Within (a + b) (x -ℤ y)
difference_within a b x y p q = (omega (arith, ints, p.0, q.1), omega (arith, ints, p.1, q.0))

pub within_more : (a b : ℕ) (x : ℤ) → a ≤ b → Within a x → Within b x
within_more a b x l p = (omega (arith, ints, p.0), omega (arith, ints, p.1))

-- a multiplier or a divisor
pub factor_within : (x : ℤ) → (pos 0 ≤ℤ x) × (x ≤ℤ pos 1048575) → Within 1048576 x
factor_within x p = (omega (arith, ints, p.0), omega (arith, ints, p.1))

-- a number within these bounds fits 64 bits
pub fits_64 : (z : ℤ) → Within 9223372036854775807 z → SFits w64 z
fits_64 (pos n) p = record { sfits = omega (arith, ints, p.1) }
fits_64 (negsuc n) p = record { sfits = omega (arith, ints, p.0) }

-- a number of 32 bits
pub within_32 : (z : ℤ) → SFits w32 z → Within 2147483648 z
within_32 (pos n) f = (omega (arith, ints), omega (arith, ints, f.sfits))
within_32 (negsuc n) f = (omega (arith, ints, f.sfits), omega (arith, ints))
