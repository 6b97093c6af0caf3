-- How great products, parts and sums are, and that they fit their types.
use Rattle.std.proofs.Common.{◌≡◌, ℕ, zero, suc, ◌+◌, ◌*◌, ◌^◌, ◌≤◌, ℤ, pos, negsuc}
use Rattle.std.proofs.Common.{◌+ℤ◌, ◌*ℤ◌, nat_abs, to_z, of_z, List, [], ◌∷◌, get_or, replicate, refl, arith}
use mir.Syntax.{w16, w32, w64, w128}
use lib.Signed.{shr_z}
use Rattle.std.proofs.lemmas.Int.{ints, unsigned_abs-mul}
use Rattle.std.proofs.lemmas.Nat.{mul-le}
use Rattle.std.specs.List.{AllByRecursion}
use Rattle.level_spec.specs.Correlation.{sum_over}
use Rattle.level_spec.specs.Recursion.{whole}

pub product-most : (a b : ℤ) (m n : ℕ) → nat_abs a ≤ m → nat_abs b ≤ n → nat_abs (a *ℤ b) ≤ m * n
product-most a b m n h k = let e : nat_abs (a *ℤ b) ≡ nat_abs a * nat_abs b = unsigned_abs-mul a b in omega (arith, mul-le (nat_abs a) (nat_abs b) m n h k)

-- a number of m whole parts has no greater whole part
pub whole-most : (z : ℤ) (m : ℕ) → nat_abs z ≤ m * 2 ^ 24 → nat_abs (whole z) ≤ m
whole-most (pos a) m h = omega arith
whole-most (negsuc a) m h = omega arith

pub same_64 : (z : ℤ) → nat_abs z ≤ 2 ^ 62 → to_z w64 (of_z w64 z) ≡ z
same_64 z h = omega (arith, ints)

pub same_128 : (z : ℤ) → nat_abs z ≤ 2 ^ 126 → to_z w128 (of_z w128 z) ≡ z
same_128 z h = omega (arith, ints)

pub same_32 : (z : ℤ) → nat_abs z ≤ 2 ^ 30 → to_z w32 (of_z w32 z) ≡ z
same_32 z h = omega (arith, ints)

pub same_16 : (z : ℤ) → nat_abs z ≤ 2 ^ 14 → to_z w16 (of_z w16 z) ≡ z
same_16 z h = omega (arith, ints)

pub shifted : (z : ℤ) → shr_z z (2 ^ 24) ≡ whole z
shifted (pos a) = refl
shifted (negsuc a) = refl

pub each-most : (values : List ℤ) (m k : ℕ) → AllByRecursion (λ a. nat_abs a ≤ m) values → nat_abs (get_or values k (pos 0)) ≤ m
each-most [] m k h = omega arith
each-most (a ∷ values) m zero h = h.0
each-most (a ∷ values) m (suc k) h = each-most values m k h.1

-- one more term of a sum
pub sum_over-next : (F : ℕ → ℤ) (first n : ℕ) → sum_over F first (n + 1) ≡ sum_over F first n +ℤ F (first + n)
unfolding sum_over
sum_over-next F first n = let e : n + 1 ≡ suc n = omega arith in rw e refl

pub zeros-at : (n k : ℕ) → get_or (replicate n (pos 0)) k (pos 0) ≡ pos 0
zeros-at zero k = refl
zeros-at (suc n) zero = refl
zeros-at (suc n) (suc k) = zeros-at n k

pub zero_cells : (n m cell lane : ℕ) → get_or (get_or (replicate n (replicate m (pos 0))) cell []) lane (pos 0) ≡ pos 0
zero_cells zero m cell lane = refl
zero_cells (suc n) m zero lane = zeros-at m lane
zero_cells (suc n) m (suc cell) lane = zero_cells n m cell lane
