-- A sample that is given as a number.
use Rattle.std.proofs.Common.{◌≡◌, ℕ, zero, suc, ◌%◌, ◌<◌, nat_eq, refl, arith}
use Rattle.dst_spec.specs.Header.{bit_of}

pub bit_given : (given : ℕ) → bit_of (nat_eq (given % 2) 1) ≡ given % 2
bit_given given = go (given % 2) (omega arith)
  where
    go : (x : ℕ) → x < 2 → bit_of (nat_eq x 1) ≡ x
    go zero h = refl
    go (suc zero) h = refl
    go (suc (suc x)) h = absurd (omega arith)
