-- A symbol's part, doubled.
use Rattle.std.proofs.Common.{◌≡◌, ℕ, ◌+◌, ◌-◌, ◌*◌, ◌^◌, ◌<◌, ◌≤◌, Bool, true, false, nat_lt, if◌then◌else◌, refl, ap, sym, ◌∙◌, arith, ltb-true, ltb-false}
use mir.Val.{bool_byte}
use Rattle.std.proofs.lemmas.Nat.{pow-add, mul-le}
use Rattle.dst_spec.specs.Interval.{Interval, scale, part, narrowed}
use Rattle.dst_spec.proofs.Intervals.{scale-least, scale-below}
use Rattle.arith_encoder.specs.declared.scaling.Scaling.{Scaling}
use Rattle.arith_encoder.specs.Registers.{IsScaling}
use Rattle.arith_core.specs.Range.{IsRange}
use Rattle.arith_core.proofs.Masks.{high_least}
use Rattle.arith_core.proofs.Doubling.{doubled_by}

-- a number below what a range is at least, doubled once
pub record IsDoubled (m more : ℕ) : Type 0 where
  pub few : more ≤ 1
  pub least : 2048 ≤ m * 2 ^ more
  pub most : m * 2 ^ more ≤ 4095

pub doubled_once : (m : ℕ) → 1024 ≤ m → m < 4096 → (e : Bool) → nat_lt m 2048 ≡ e → IsDoubled m (bool_byte e) × (m + (if e then m else 0) ≡ m * 2 ^ bool_byte e)
doubled_once m h k true is =
    let lt : m < 2048 = ltb-true m 2048 is in
    (record { few = omega arith; least = omega arith; most = omega arith }, omega arith)
doubled_once m h k false is =
    let le : 2048 ≤ m = ltb-false m 2048 is in
    (record { few = omega arith; least = omega arith; most = omega arith }, omega arith)

-- What the registers' part of a symbol is: where it begins, its range, and how many doublings it needs at least.
abbrev pub starts : Bool → ℕ → ℕ
starts symbol high = if symbol then 0 else high

abbrev pub spans : Bool → ℕ → ℕ → ℕ
spans symbol high scaled = if symbol then high else scaled

abbrev pub shifts : Bool → ℕ → ℕ
shifts symbol shift = if symbol then 0 else shift

pub record IsNarrowed (range p : ℕ) (symbol : Bool) (start range_after doublings : ℕ) : Type 0 where
  pub narrowed_is : (i : Interval) → i.range ≡ range → narrowed i (symbol, p) ≡ record {
    low = (i.low + start) * 2 ^ doublings;
    range = range_after;
    doublings = i.doublings + doublings;
  }
  pub in_range : IsRange range_after
  pub few : doublings ≤ 8
  pub within : start * 2 ^ doublings + range_after ≤ range * 2 ^ doublings

-- the part that a symbol has of a range, after so many doublings
pub from_part : (range p : ℕ) (symbol : Bool) (start range_after d : ℕ) → d ≤ 8 → 2048 ≤ range_after → range_after ≤ 4095 →
    start ≡ starts symbol (range - scale range * p) → range_after ≡ spans symbol (range - scale range * p) (scale range * p) * 2 ^ d →
    scale range * p ≤ range → IsNarrowed range p symbol start range_after d
from_part range p true start range_after d few least most s_is r_is within = record {
  narrowed_is = λ i is. go i is;
  in_range = record { least = least; most = most };
  few = few;
  within = rw (s_is, r_is) (bounded (range - scale range * p) range (2 ^ d) (omega arith));
}
  where
    bounded : (a b n : ℕ) → a ≤ b → 0 * n + a * n ≤ b * n
    bounded a b n h = omega (arith, mul-le a n b n h (omega arith))

    go : (i : Interval) → i.range ≡ range → narrowed i (true, p) ≡ record { low = (i.low + start) * 2 ^ d; range = range_after; doublings = i.doublings + d }
    go i is =
        let same : (i.range - scale i.range * p) * 2 ^ d ≡ range_after = rw is (sym r_is) in
        let e = doubled_by d 11 (part true p i) (omega arith) (omega arith) (omega arith) in
        let low : i.low + start ≡ i.low = omega arith in
        e ∙ rw (same, low) refl
from_part range p false start range_after d few least most s_is r_is within = record {
  narrowed_is = λ i is. go i is;
  in_range = record { least = least; most = most };
  few = few;
  within = rw (s_is, r_is) (bounded (range - scale range * p) (scale range * p) range (2 ^ d) (omega arith));
}
  where
    bounded : (a b c n : ℕ) → a + b ≤ c → a * n + b * n ≤ c * n
    bounded a b c n h = omega (arith, mul-le (a + b) n c n h (omega arith))

    go : (i : Interval) → i.range ≡ range → narrowed i (false, p) ≡ record { low = (i.low + start) * 2 ^ d; range = range_after; doublings = i.doublings + d }
    go i is =
        let same : scale i.range * p * 2 ^ d ≡ range_after = rw is (sym r_is) in
        let e = doubled_by d 11 (part false p i) (omega arith) (omega arith) (omega arith) in
        let low : start ≡ i.range - scale i.range * p = rw is s_is in
        e ∙ rw (same, low) refl

pub narrow_is : (range p : ℕ) (symbol : Bool) (e : Scaling) (s m start shift : ℕ) → IsRange range → 1 ≤ p → p ≤ 128 → IsScaling p e → s ≡ scale range →
    m ≡ spans symbol (range - s * p) (s * e.scaled) → start ≡ starts symbol (range - s * p) → shift ≡ shifts symbol e.shift →
    IsNarrowed range p symbol start (m + (if nat_lt m 2048 then m else 0)) (shift + bool_byte (nat_lt m 2048))
narrow_is range p symbol e s m start shift r h k n is m_is start_is shift_is =
    let half : 128 ≤ e.scaled = rw n.scaled n.shifted.least in
    let whole : e.scaled < 256 = rw n.scaled n.shifted.most in
    let small : s * p + 1024 ≤ range = rw is (high_least range p r.least k) in
    let eight : 8 ≤ s = rw is (scale-least range r.least) in
    let fifteen : s < 16 = rw is (scale-below range r.most) in
    let low = mul-le 8 128 s e.scaled eight half in
    let high = mul-le s e.scaled 15 255 (omega arith) (omega arith) in
    let most = r.most in
    let larger : s * e.scaled ≡ s * p * 2 ^ e.shift = ap (λ x. s * x) n.scaled ∙ omega arith in
    let within : 1024 ≤ m × m < 4096 = rw m_is (sizes symbol (range - s * p) (s * e.scaled) (omega arith) (omega arith) (omega arith) (omega arith)) in
    let more = bool_byte (nat_lt m 2048) in
    let once = doubled_once m within.0 within.1 (nat_lt m 2048) refl in
    let d = once.0 in
    let few : shift + more ≤ 8 = omega (arith, shift_few symbol e.shift shift n.shifted.few shift_is, d.few) in
    let span : m * 2 ^ more ≡ spans symbol (range - scale range * p) (scale range * p) * 2 ^ (shift + more) =
    ap (λ x. x * 2 ^ more) m_is ∙ spanned symbol (range - s * p) (s * e.scaled) (s * p) e.shift shift more larger shift_is
    ∙ ap (λ x. spans symbol (range - x * p) (x * p) * 2 ^ (shift + more)) is in
    rw (once.1) (from_part range p symbol start (m * 2 ^ more) (shift + more) few d.least d.most (start_is
    ∙ ap (λ x. starts symbol (range - x * p)) is) span (rw (← is) (omega arith)))
  where
    sizes : (b : Bool) (a z : ℕ) → 1024 ≤ a → a < 4096 → 1024 ≤ z → z < 4096 → 1024 ≤ spans b a z × spans b a z < 4096
    sizes true a z h k m n = (h, k)
    sizes false a z h k m n = (m, n)

    shift_few : (b : Bool) (a shift : ℕ) → a ≤ 7 → shift ≡ shifts b a → shift ≤ 7
    shift_few true a shift h e = omega arith
    shift_few false a shift h e = omega arith

    spanned : (b : Bool) (a z q f shift more : ℕ) → z ≡ q * 2 ^ f → shift ≡ shifts b f → spans b a z * 2 ^ more ≡ spans b a q * 2 ^ (shift + more)
    spanned true a z q f shift more e g =
        let none : shift + more ≡ more = omega arith in
        rw none refl
    spanned false a z q f shift more e g = rw (e, g, pow-add 2 f more) (omega arith)
