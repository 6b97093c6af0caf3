-- A block of some bits and blocks of ones behind it, turned over by a carry or not.
use Rattle.std.proofs.Common.{◌≡◌, ℕ, ◌+◌, ◌-◌, ◌*◌, ◌^◌, ◌<◌, ◌≤◌, Bool, true, false, if◌then◌else◌, List, ◌++◌, refl, ap, ◌∙◌, arith, append_assoc}
use Rattle.std.proofs.lemmas.Nat.{pow-add, pow_pos, mul-le}
use Rattle.dst_spec.specs.Bits.{low_bits}
use Rattle.arith_encoder.proofs.Joining.{joined}

-- the number of the block and so many blocks behind it
abbrev pub turned : Bool → ℕ → ℕ → ℕ
turned carry block run = (block + 1) * 2 ^ (32 * run) - (if carry then 0 else 1)

pub turned-more : (carry : Bool) (block run behind : ℕ) → behind ≡ (if carry then 0 else 4294967295) →
    turned carry block run * 2 ^ 32 + behind ≡ turned carry block (run + 1)
turned-more carry block run behind is =
    let more : 32 * (run + 1) ≡ 32 * run + 32 = omega arith in
    let power : 2 ^ (32 * (run + 1)) ≡ 2 ^ (32 * run) * 4294967296 = ap (λ k. 2 ^ k) more ∙ pow-add 2 (32 * run) 32 in
    let some : 0 < (block + 1) * 2 ^ (32 * run) = positive block (2 ^ (32 * run)) (pow_pos (32 * run)) in
    rw (is, power) (go carry (2 ^ (32 * run)) some)
  where
    positive : (a b : ℕ) → 0 < b → 0 < (a + 1) * b
    positive a b h = omega (arith, mul-le 1 b (a + 1) b (omega arith) (omega arith))

    go : (c : Bool) (n : ℕ) → 0 < (block + 1) * n →
        ((block + 1) * n - (if c then 0 else 1)) * 4294967296 + (if c then 0 else 4294967295) ≡ (block + 1) * (n * 4294967296) - (if c then 0 else 1)
    go true n h = omega arith
    go false n h = omega arith

-- one block more
pub run_more : (old now : List ℕ) (carry : Bool) (block width run behind : ℕ) → behind ≡ (if carry then 0 else 4294967295) →
    now ≡ old ++ low_bits (width + 32 * run) (turned carry block run) →
    now ++ low_bits 32 behind ≡ old ++ low_bits (width + 32 * (run + 1)) (turned carry block (run + 1))
run_more old now carry block width run behind is e =
    let fits : behind < 2 ^ 32 = below carry is in
    let long : width + 32 * run + 32 ≡ width + 32 * (run + 1) = omega arith in
    let number = turned-more carry block run behind is in
    rw e (append_assoc old (low_bits (width + 32 * run) (turned carry block run)) (low_bits 32 behind)
    ∙ ap (λ ys. old ++ ys) (joined (width + 32 * run) 32 (turned carry block run) behind fits ∙ rw (long, number) refl))
  where
    below : (c : Bool) → behind ≡ (if c then 0 else 4294967295) → behind < 4294967296
    below true e = omega arith
    below false e = omega arith

-- it has as many bits as are written
pub turned-below : (carry : Bool) (block width run : ℕ) → block + 1 < 2 ^ width → turned carry block run < 2 ^ (width + 32 * run)
turned-below carry block width run h =
    let power = pow-add 2 width (32 * run) in
    let some = pow_pos (32 * run) in
    let by = mul-le (block + 2) (2 ^ (32 * run)) (2 ^ width) (2 ^ (32 * run)) (omega arith) (omega arith) in
    rw power (go carry (2 ^ (32 * run)) (2 ^ width * 2 ^ (32 * run)) some (omega arith))
  where
    go : (c : Bool) (n m : ℕ) → 0 < n → (block + 1) * n + n ≤ m → (block + 1) * n - (if c then 0 else 1) < m
    go true n m h k = omega arith
    go false n m h k = omega arith
