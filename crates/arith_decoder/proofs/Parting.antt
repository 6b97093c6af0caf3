-- One symbol by the gap.
use Rattle.std.proofs.Common.{◌≡◌, ℕ, ◌+◌, ◌-◌, ◌*◌, ◌/◌, ◌%◌, ◌^◌, ◌<◌, ◌≤◌, Bool, true, false, not, nat_lt, if◌then◌else◌, refl, ap, ◌∙◌, arith}
use Rattle.std.proofs.Common.{ltb-true, ltb-false, lt-ltb, le-ltb}
use Rattle.std.proofs.lemmas.Nat.{mul-le}
use Rattle.std.specs.Bool.{FalseIff}
use Rattle.arith_decoder.specs.Registers.{IsCut, IsStep, due, value_below}
use Rattle.arith_decoder.proofs.Steps.{before, step_is, value_behind, range_behind}
use Rattle.arith_core.specs.Range.{IsRange}

-- the gap behind a symbol, before its last doubling
abbrev pub gap_behind : Bool → ℕ → ℕ → ℕ → ℕ
gap_behind zero gap part factor = if zero then (gap * factor) else (gap - part * 2 ^ 52)

abbrev pub range_left : Bool → ℕ → ℕ → ℕ → ℕ
range_left zero range part factor = if zero then (part * factor) else (range - part)

-- nothing wraps around
pub gap_fits : (gap part factor : ℕ) → part * factor ≤ 4095 → nat_lt gap (part * 2 ^ 52) ≡ true → gap * factor < 18446744073709551616
gap_fits gap part factor most is =
    let small : gap < part * 4503599627370496 = ltb-true gap (part * 4503599627370496) is in
    let by = mul-le gap factor (part * 4503599627370496) factor (omega arith) (omega arith) in
    omega arith

-- the test by the register
pub less : (zero : Bool) (gap part : ℕ) → part ≤ 4095 → FalseIff zero (part * 4503599627370496 % 18446744073709551616 ≤ gap) → nat_lt gap (part * 2 ^ 52) ≡ zero
less true gap part small h = let not_less : part * 4503599627370496 % 18446744073709551616 ≤ gap → ⊥ = h in lt-ltb gap (part * 4503599627370496) (omega arith)
less false gap part small h = le-ltb gap (part * 4503599627370496) (omega arith)

pub gap_is : (zero : Bool) (gap part factor rest : ℕ) → part ≤ 4095 → part * factor ≤ 4095 → gap < 18446744073709551616 → rest < 18446744073709551616 →
    nat_lt gap (part * 2 ^ 52) ≡ zero →
    (rest + part * 4503599627370496 % 18446744073709551616) % 18446744073709551616 ≡ gap →
    (if zero then (gap * factor % 18446744073709551616) else rest) ≡ gap_behind zero gap part factor
gap_is true gap part factor rest small most fits rest_fits is value =
    let lt = gap_fits gap part factor most is in
    omega arith
gap_is false gap part factor rest small most fits rest_fits is value =
    let large : part * 4503599627370496 ≤ gap = ltb-false gap (part * 4503599627370496) is in
    omega arith

-- The gap shows the symbol, as the offset does.
pub shown : (zero : Bool) (range gap part : ℕ) → part ≤ range → gap ≤ range * 2 ^ 52 → 0 < gap % 2 ^ 52 → nat_lt gap (part * 2 ^ 52) ≡ zero →
    nat_lt (value_below range gap / 2 ^ 52) (range - part) ≡ not zero
shown true range gap part some within odd is =
    let small : gap < part * 4503599627370496 = ltb-true gap (part * 4503599627370496) is in
    le-ltb (value_below range gap / 2 ^ 52) (range - part) (omega arith)
shown false range gap part some within odd is =
    let large : part * 4503599627370496 ≤ gap = ltb-false gap (part * 4503599627370496) is in
    lt-ltb (value_below range gap / 2 ^ 52) (range - part) (omega arith)

scaled : (a b f : ℕ) → b ≤ a → a * f - b * f ≡ (a - b) * f
scaled a b f h =
    let d = a - b in
    let is : a ≡ d + b = omega arith in
    let sum : a * f ≡ (d + b) * f = ap (λ x. x * f) is in
    omega arith

-- what is left is the value's
pub value_left : (zero : Bool) (range gap part factor : ℕ) → part ≤ range → gap ≤ range * 2 ^ 52 → nat_lt gap (part * 2 ^ 52) ≡ zero →
    value_below (range_left zero range part factor) (gap_behind zero gap part factor) ≡ value_behind (not zero) (value_below range gap) (range - part) factor
value_left true range gap part factor some within is =
    let small : gap < part * 4503599627370496 = ltb-true gap (part * 4503599627370496) is in
    let shift : part * factor * 2 ^ 52 ≡ part * 2 ^ 52 * factor = omega arith in
    let by = scaled (part * 2 ^ 52) gap factor (omega arith) in
    let rest : value_below range gap - (range - part) * 2 ^ 52 ≡ part * 2 ^ 52 - gap = omega arith in
    rw (shift, rest) by
value_left false range gap part factor some within is =
    let large : part * 4503599627370496 ≤ gap = ltb-false gap (part * 4503599627370496) is in
    omega arith

pub within_left : (zero : Bool) (range gap part factor : ℕ) → part ≤ range → gap ≤ range * 2 ^ 52 → nat_lt gap (part * 2 ^ 52) ≡ zero →
    gap_behind zero gap part factor ≤ range_left zero range part factor * 2 ^ 52
within_left true range gap part factor some within is =
    let small : gap < part * 4503599627370496 = ltb-true gap (part * 4503599627370496) is in
    let by = mul-le gap factor (part * 4503599627370496) factor (omega arith) (omega arith) in
    omega arith
within_left false range gap part factor some within is = omega arith

pub range_left_is : (zero : Bool) (range part factor : ℕ) → range_left zero range part factor ≡ range_behind (not zero) (range - part) (part * factor)
range_left_is true range part factor = refl
range_left_is false range part factor = refl

pub parted : (p range gap part factor : ℕ) (zero : Bool) → p ≤ 128 → IsRange range → gap ≤ range * 2 ^ 52 → 0 < gap % 2 ^ 52 → IsCut p range part factor →
    nat_lt gap (part * 2 ^ 52) ≡ zero →
    (g r : ℕ) → g ≡ gap_behind zero gap part factor → r ≡ range_left zero range part factor →
    IsStep p (value_below range gap) range (not zero) (due r (value_below r g)) (due r r)
parted p range gap part factor zero k in_range within odd cut is g r g_is r_is =
    let b = before p (value_below range gap) range part factor k in_range cut in
    let some : part ≤ range = omega (arith, b.small) in
    let below : value_below range gap < range * 2 ^ 52 = omega (arith, in_range.least) in
    let value_is : value_below r g ≡ value_behind (not zero) (value_below range gap) (range - part) factor =
    rw (g_is, r_is) (value_left zero range gap part factor some within is) in
    step_is p (value_below range gap) range part factor k in_range below cut (not zero) (shown zero range gap part some within odd is)
    (value_below r g) r value_is (r_is ∙ range_left_is zero range part factor)
