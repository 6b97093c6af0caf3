-- An encoder's registers: 32 bits leave, a symbol comes.
use Rattle.std.proofs.Common.{◌≡◌, ℕ, ◌+◌, ◌-◌, ◌*◌, ◌/◌, ◌%◌, ◌^◌, ◌<◌, ◌≤◌, Bool, refl, ap, ap₂, sym, ◌∙◌, arith}
use Rattle.std.proofs.Math.Pow.{pow_mono}
use Rattle.std.proofs.lemmas.Nat.{pow-add, pow_pos, mul-le, shr_split, mod_below, div_below}
use Rattle.dst_spec.specs.Interval.{Interval, narrowed}
use Rattle.dst_spec.proofs.Intervals.{IsNormal, IsNormal-narrowed}
use Rattle.arith_encoder.specs.Leaving.{Leaving}
use Rattle.arith_encoder.specs.Registers.{AreRegisters}
use Rattle.arith_encoder.proofs.Narrowing.{IsNarrowed}

-- the interval that the registers have reached
abbrev pub reached_of : Leaving → ℕ → ℕ → ℕ → Interval
reached_of h low count range = record { low = h.number * 2 ^ (12 + count) + low; range = range; doublings = h.count + count - 1 }

-- the bits that leave are 32 and a carry at most
pub leaves_below : (h : Leaving) (low count range left : ℕ) → AreRegisters h low count range left → 32 ≤ count → low / 2 ^ (count - 20) + 1 < 8589934592
leaves_below h low count range left r many =
    let k = count - 20 in
    let split : count ≡ 20 + k = omega arith in
    let power : 2 ^ count ≡ 1048576 * 2 ^ k = ap (λ n. 2 ^ n) split ∙ pow-add 2 20 k in
    let most = r.below in
    let some = pow_pos k in
    let least = r.in_range.least in
    let below : low < 8588886016 * 2 ^ k = omega arith in
    let q = div_below low (2 ^ k) 8588886016 some below in
    omega arith

pub record IsLeft (h g : Leaving) (low count range left low_after : ℕ) : Type 0 where
  pub registers : AreRegisters g low_after (count - 32) range (left - 32)
  pub reached : reached_of g low_after (count - 32) range ≡ reached_of h low count range

pub left_by : (h g : Leaving) (low count range left : ℕ) → AreRegisters h low count range left → 32 ≤ count →
    g.number ≡ h.number * 2 ^ 32 + low / 2 ^ (count - 20) → g.count ≡ h.count + 32 → g.room ≡ h.room → IsLeft h g low count range left (low % 2 ^ (count - 20))
left_by h g low count range left r many number more room =
    let k = count - 20 in
    let z = count - 32 in
    let to_k : 12 + z ≡ k = omega arith in
    let split : 12 + count ≡ 32 + k = omega arith in
    let power : 2 ^ (12 + count) ≡ 4294967296 * 2 ^ k = ap (λ n. 2 ^ n) split ∙ pow-add 2 32 k in
    let parts = shr_split low k in
    let low_is : g.number * 2 ^ (12 + z) + low % 2 ^ k ≡ h.number * 2 ^ (12 + count) + low =
    ap₂ (λ a b. a * 2 ^ b + low % 2 ^ k) number to_k ∙ turned h.number (low / 2 ^ k) (2 ^ k) (low % 2 ^ k) ∙ ap₂ (λ a b. h.number * a + b) (sym power) parts in
    let count_is : g.count + z - 1 ≡ h.count + count - 1 = omega arith in
    let some = pow_pos z in
    let below = mod_below low (2 ^ k) (pow_pos k) in
    let twelve : 2 ^ k ≡ 4096 * 2 ^ z = ap (λ n. 2 ^ n) (sym to_k) ∙ pow-add 2 12 z in
    let range_is = r.in_range in
    let most = range_is.most in
    let fits = r.fits in
    let reserved = r.reserved in
    let few = r.few in
    record {
      registers = record {
        some = omega arith;
        reserved = omega arith;
        fits = omega arith;
        few = omega arith;
        in_range = range_is;
        below = omega arith;
        end = rw (low_is, count_is) r.end;
      };
      reached = ap₂ (λ a b. made a range b) low_is count_is;
    }
  where
    turned : (n t q r : ℕ) → (n * 4294967296 + t) * q + r ≡ n * (4294967296 * q) + (t * q + r)
    turned n t q r = omega arith

    made : ℕ → ℕ → ℕ → Interval
    made low range doublings = record { low = low; range = range; doublings = doublings }

-- a symbol's part, where it fits
pub record IsTaken (h : Leaving) (low count range left p : ℕ) (symbol : Bool) (start range_after d : ℕ) : Type 0 where
  pub sum_fits : low + start < 18446744073709551616
  pub low_is : (low + start) * 2 ^ d % 18446744073709551616 ≡ (low + start) * 2 ^ d
  pub registers : count + d ≤ left → AreRegisters h ((low + start) * 2 ^ d) (count + d) range_after left
  pub reached : narrowed (reached_of h low count range) (symbol, p) ≡ reached_of h ((low + start) * 2 ^ d) (count + d) range_after
  pub needs : 13 + (narrowed (reached_of h low count range) (symbol, p)).doublings ≡ h.count + 12 + (count + d)

pub taken : (h : Leaving) (low count range left p : ℕ) (symbol : Bool) (start range_after d : ℕ) → 1 ≤ p → p ≤ 128 → AreRegisters h low count range left →
    count < 32 →
    IsNarrowed range p symbol start range_after d → IsTaken h low count range left p symbol start range_after d
taken h low count range left p symbol start range_after d one eight_bits r few n =
    let q = 2 ^ d in
    let power : 2 ^ (count + d) ≡ 2 ^ count * q = pow-add 2 count d in
    let more : 12 + (count + d) ≡ 12 + count + d = omega arith in
    let higher : 2 ^ (12 + (count + d)) ≡ 2 ^ (12 + count) * q = ap (λ k. 2 ^ k) more ∙ pow-add 2 (12 + count) d in
    let some = pow_pos d in
    let within = n.within in
    let few_more = n.few in
    let enough = r.some in
    let bound : (low + start) * q + range_after ≤ 8191 * 2 ^ (count + d) = rw power (sum_below low start range range_after (2 ^ count) q r.below within) in
    let small = pow_mono {i = count + d} {j = 39} (omega arith) in
    let at_least : low + start ≤ (low + start) * q = grown (low + start) q some in
    let is = n.narrowed_is (reached_of h low count range) refl in
    let low_is : (h.number * 2 ^ (12 + count) + low + start) * q ≡ h.number * 2 ^ (12 + (count + d)) + (low + start) * q =
    rw higher (spread h.number (2 ^ (12 + count)) low start q) in
    let count_is : h.count + count - 1 + d ≡ h.count + (count + d) - 1 = omega arith in
    let reached : narrowed (reached_of h low count range) (symbol, p) ≡ reached_of h ((low + start) * q) (count + d) range_after =
    is ∙ ap₂ (λ a b. made a range_after b) low_is count_is in
    let reserved = r.reserved in
    let normal = IsNormal-narrowed (reached_of h low count range) symbol p one eight_bits
    (record { least = r.in_range.least; most = r.in_range.most; end = r.end }) in
    let after : IsNormal (reached_of h ((low + start) * q) (count + d) range_after) = rw (← reached) normal in
    record {
      sum_fits = omega arith;
      low_is = omega arith;
      registers = λ fits. record {
        some = r.some;
        reserved = reserved;
        fits = fits;
        few = omega arith;
        in_range = n.in_range;
        below = bound;
        end = after.end;
      };
      reached = reached;
      needs = rw reached (omega arith);
    }
  where
    sum_below : (low start range after c q : ℕ) → low + range ≤ 8191 * c → start * q + after ≤ range * q → (low + start) * q + after ≤ 8191 * (c * q)
    sum_below low start range after c q h k = omega (arith, mul-le (low + range) q (8191 * c) q h (omega arith))

    grown : (a b : ℕ) → 0 < b → a ≤ a * b
    grown a b h = omega (arith, mul-le a 1 a b (omega arith) (omega arith))

    spread : (n e low start q : ℕ) → (n * e + low + start) * q ≡ n * (e * q) + (low + start) * q
    spread n e low start q = omega arith

    made : ℕ → ℕ → ℕ → Interval
    made low range doublings = record { low = low; range = range; doublings = doublings }
