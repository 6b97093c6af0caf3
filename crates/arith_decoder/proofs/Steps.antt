-- One symbol by registers.
use Rattle.std.proofs.Common.{◌≡◌, ℕ, ◌+◌, ◌-◌, ◌*◌, ◌/◌, ◌^◌, ◌<◌, ◌≤◌, Bool, true, false, nat_lt, if◌then◌else◌, refl, ap, sym, ◌∙◌, arith}
use Rattle.std.proofs.Common.{ltb-true, ltb-false}
use Rattle.std.proofs.lemmas.Nat.{pow-add, pow_pos, mul-le}
use Rattle.dst_spec.specs.Interval.{scale}
use Rattle.dst_spec.proofs.Intervals.{scale-least, scale-below}
use Rattle.arith_decoder.specs.Registers.{IsCut, IsStep, due, high_end}
use Rattle.arith_core.specs.Range.{IsRange}
use Rattle.arith_core.proofs.Masks.{high_least}

-- At least a quarter of what fits, doubled once where it is below a half.
pub record IsDoubled (range value range_after value_after : ℕ) : Type 0 where
  pub doublings : ℕ
  pub few : doublings ≤ 1
  pub value_is : value_after ≡ value * 2 ^ doublings
  pub range_is : range_after ≡ range * 2 ^ doublings
  pub after : IsRange range_after
  pub below : value_after < range_after * 2 ^ 52

pub doubled_once : (m value : ℕ) → 1024 ≤ m → m ≤ 4095 → value < m * 2 ^ 52 → IsDoubled m value (due m m) (due m value)
doubled_once m value least most below = go (nat_lt m 2048) refl
  where
    go : (e : Bool) → nat_lt m 2048 ≡ e → IsDoubled m value (if e then (2 * m) else m) (if e then (2 * value) else value)
    go true is =
        let small : m < 2048 = ltb-true m 2048 is in
        record {
          doublings = 1;
          few = omega arith;
          value_is = omega arith;
          range_is = omega arith;
          after = record { least = omega arith; most = omega arith };
          below = omega arith;
        }
    go false is =
        let large : 2048 ≤ m = ltb-false m 2048 is in
        record {
          doublings = 0;
          few = omega arith;
          value_is = omega arith;
          range_is = omega arith;
          after = record { least = omega arith; most = omega arith };
          below = omega arith;
        }

-- what is known before a symbol
pub record IsBefore (p value range part factor : ℕ) : Type 0 where
  pub small : part + 1024 ≤ range
  pub least : 1024 ≤ part * factor
  pub most : part * factor ≤ 4095
  pub high : high_end range p ≡ range - part
  pub some : 1 ≤ factor

pub before : (p value range part factor : ℕ) → p ≤ 128 → IsRange range → IsCut p range part factor → IsBefore p value range part factor
before p value range part factor k r n =
    let s = scale range in
    let f = n.factor_is in
    let half : 128 ≤ p * factor = rw f.power f.shifted.least in
    let whole : p * factor < 256 = rw f.power f.shifted.most in
    let eight : 8 ≤ s = scale-least range r.least in
    let fifteen : s < 16 = scale-below range r.most in
    record {
      small = rw n.part_is (high_least range p r.least k);
      least = rw n.part_is (omega (arith, mul-le 8 128 s (p * factor) eight half));
      most = rw n.part_is (omega (arith, mul-le s (p * factor) 15 255 (omega arith) (omega arith)));
      high = ap (λ x. range - x) (sym n.part_is);
      some = rw f.power (omega (arith, pow_pos f.shift));
    }

-- a symbol 0 leaves less than its part of the range, also times the factor
pub times_factor : (value high part f n : ℕ) → value < (high + part) * 2 ^ 52 → high * 2 ^ 52 ≤ value → n ≡ part * f → 1 ≤ f →
    (value - high * 2 ^ 52) * f < n * 2 ^ 52
times_factor value high part f n h k e some =
    let v = value - high * 4503599627370496 in
    let lt : v < part * 4503599627370496 = omega arith in
    let more : v + 1 ≤ part * 4503599627370496 = omega arith in
    let by = mul-le (v + 1) f (part * 4503599627370496) f more (omega arith) in
    rw e (omega arith)

-- what a symbol makes of the value, and of the range, before its last doubling
abbrev pub value_behind : Bool → ℕ → ℕ → ℕ → ℕ
value_behind symbol value high factor = if symbol then value else ((value - high * 2 ^ 52) * factor)

abbrev pub range_behind : Bool → ℕ → ℕ → ℕ
range_behind symbol high low = if symbol then high else low

-- the offset lies below the high end, or else the value has it
below_high : (value h : ℕ) → nat_lt (value / 2 ^ 52) h ≡ true → value < h * 2 ^ 52
below_high value h e =
    let lt : value / 2 ^ 52 < h = ltb-true (value / 2 ^ 52) h e in
    omega arith

pub above_high : (value h : ℕ) → nat_lt (value / 2 ^ 52) h ≡ false → h * 2 ^ 52 ≤ value
above_high value h e =
    let le : h ≤ value / 2 ^ 52 = ltb-false (value / 2 ^ 52) h e in
    omega arith

-- the part of a symbol before its last doubling
pub record IsPartial (symbol : Bool) (value high low factor : ℕ) : Type 0 where
  pub least : 1024 ≤ range_behind symbol high low
  pub most : range_behind symbol high low ≤ 4095
  pub below : value_behind symbol value high factor < range_behind symbol high low * 2 ^ 52

pub partial : (p value range part factor : ℕ) → IsRange range → value < range * 2 ^ 52 → IsBefore p value range part factor →
    (symbol : Bool) → nat_lt (value / 2 ^ 52) (range - part) ≡ symbol → IsPartial symbol value (range - part) (part * factor) factor
partial p value range part factor r below b true is =
    let lt = below_high value (range - part) is in
    record { least = omega (arith, b.small); most = omega (arith, r.most); below = lt }
partial p value range part factor r below b false is =
    let le = above_high value (range - part) is in
    let small = b.small in
    let inside : value < (range - part + part) * 2 ^ 52 = omega arith in
    record { least = b.least; most = b.most; below = times_factor value (range - part) part factor (part * factor) inside le refl b.some }

finished : (p value range part factor : ℕ) (symbol : Bool) (r2 y2 : ℕ) → IsCut p range part factor → high_end range p ≡ range - part →
    symbol ≡ nat_lt (value / 2 ^ 52) (range - part) →
    IsDoubled (range_behind symbol (range - part) (part * factor)) (value_behind symbol value (range - part) factor) r2 y2 → IsStep p value range symbol y2 r2
finished p value range part factor true r2 y2 n high chosen d = record {
  chosen = chosen ∙ ap (nat_lt (value / 2 ^ 52)) (sym high);
  doublings = d.doublings;
  few = omega (arith, d.few);
  value_is = d.value_is;
  range_is = d.range_is ∙ ap (λ x. x * 2 ^ d.doublings) (sym high);
  after = d.after;
  below = d.below;
}
finished p value range part factor false r2 y2 n high chosen d =
    let f = n.factor_is in
    let power = pow-add 2 f.shift d.doublings in
    record {
      chosen = chosen ∙ ap (nat_lt (value / 2 ^ 52)) (sym high);
      doublings = f.shift + d.doublings;
      few = omega (arith, f.shifted.few, d.few);
      value_is = d.value_is ∙ ap (λ x. (value - (range - part) * 2 ^ 52) * x * 2 ^ d.doublings) f.power
          ∙ both (value - (range - part) * 2 ^ 52) (2 ^ f.shift) (2 ^ d.doublings) (2 ^ (f.shift + d.doublings)) power
          ∙ ap (λ x. (value - x * 2 ^ 52) * 2 ^ (f.shift + d.doublings)) (sym high);
      range_is = d.range_is ∙ ap (λ x. x * 2 ^ d.doublings) (ap (λ x. x * factor) n.part_is ∙ ap (λ x. scale range * p * x) f.power)
          ∙ both (scale range * p) (2 ^ f.shift) (2 ^ d.doublings) (2 ^ (f.shift + d.doublings)) power;
      after = d.after;
      below = d.below;
    }
  where
    both : (v f k n : ℕ) → n ≡ f * k → v * f * k ≡ v * n
    both v f k n e = rw e (omega arith)

pub step_is : (p value range part factor : ℕ) → p ≤ 128 → IsRange range → value < range * 2 ^ 52 → IsCut p range part factor →
    (symbol : Bool) → nat_lt (value / 2 ^ 52) (range - part) ≡ symbol → (y r : ℕ) → y ≡ value_behind symbol value (range - part) factor →
    r ≡ range_behind symbol (range - part) (part * factor) →
    IsStep p value range symbol (due r y) (due r r)
step_is p value range part factor k in_range below n symbol chosen y r y_is r_is =
    let b = before p value range part factor k in_range n in
    let q = partial p value range part factor in_range below b symbol chosen in
    let d = doubled_once (range_behind symbol (range - part) (part * factor)) (value_behind symbol value (range - part) factor) q.least q.most q.below in
    rw (y_is, r_is) (finished p value range part factor symbol _ _ n b.high (sym chosen) d)

pub step_fits : (p value range : ℕ) (symbol : Bool) (y r : ℕ) → IsStep p value range symbol y r → y < 18446744073709551616
step_fits p value range symbol y r s =
    let after = s.after in
    let below = s.below in
    omega (arith, after.most)
