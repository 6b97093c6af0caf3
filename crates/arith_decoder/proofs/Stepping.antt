-- Registers that make a step.
use Rattle.std.proofs.Common.{◌≡◌, ℕ, ◌+◌, ◌-◌, ◌*◌, ◌/◌, ◌^◌, ◌≤◌, Bool, true, false, List, nat_lt, if◌then◌else◌, refl, ap, sym, ◌∙◌, arith, ltb-false}
use Rattle.dst_spec.specs.Bits.{bits, number_from}
use Rattle.dst_spec.proofs.Numbers.{AreBits-bits}
use Rattle.arith_decoder.specs.Decoding.{Decoding}
use Rattle.arith_decoder.specs.Registers.{IsValue, IsStep, high_end}
use Rattle.arith_decoder.proofs.Registers.{offset_of, value-doubled}
use Rattle.arith_decoder.proofs.Standing.{IsNext}
use Rattle.arith_core.specs.Range.{IsRange}

-- what the decoder was, and what it becomes
abbrev pub decoding : List ℕ → ℕ → ℕ → ℕ → ℕ → Decoding
decoding bytes first range offset used = record { bytes = bytes; first = first; range = range; offset = offset / 2 ^ 52; used = used }

-- what a symbol takes from the offset
abbrev pub taken : Bool → ℕ → ℕ
taken true h = 0
taken false h = h

less_none : (n : ℕ) → n - 0 ≡ n
less_none n = omega arith

pub record Stepped (bytes : List ℕ) (first used place value range p : ℕ) (symbol : Bool) (value_after range_after : ℕ) : Type 0 where
  pub doublings : ℕ
  pub few : doublings ≤ 8
  pub next : IsNext (decoding bytes first range value used) p symbol doublings (decoding bytes first range_after value_after (used + doublings))
  pub holds : IsValue (bits bytes) (first + (used + doublings)) place (value_after / 2 ^ 52) value_after

pub stepped : (bytes : List ℕ) (first used place value range p : ℕ) (symbol : Bool) (value_after range_after : ℕ) →
    IsRange range → (v : IsValue (bits bytes) (first + used) place (value / 2 ^ 52) value) → 8 ≤ v.ahead →
    IsStep p value range symbol value_after range_after → Stepped bytes first used place value range p symbol value_after range_after
stepped bytes first used place value range p symbol value_after range_after r v enough s =
    let k = s.doublings in
    let h = high_end range p in
    let le : taken symbol h ≤ value / 2 ^ 52 = low_le symbol h s.chosen in
    let moved = value-doubled (bits bytes) (first + used) place (value / 2 ^ 52) value (taken symbol h) k le v (omega (arith, s.few)) in
    let offset = (value / 2 ^ 52 - taken symbol h) * 2 ^ k + number_from (bits bytes) (first + used) k in
    let value_is : value_after ≡ (value - taken symbol h * 2 ^ 52) * 2 ^ k = s.value_is ∙ ap (λ x. x * 2 ^ k) (value_low symbol h) in
    let at : first + used + k ≡ first + (used + k) = omega arith in
    let holds : IsValue (bits bytes) (first + (used + k)) place offset value_after = rw (value_is, ← at) moved in
    let offset_is = offset_of (bits bytes) (first + (used + k)) place offset value_after (AreBits-bits bytes) holds in
    let after = s.after in
    let below = s.below in
    record {
      doublings = k;
      few = s.few;
      next = record {
        chosen = s.chosen;
        few = s.few;
        bytes = refl;
        first = refl;
        offset = offset_is ∙ offset_low symbol h;
        range = s.range_is;
        used = refl;
        least = after.least;
        most = after.most;
        below = omega arith;
      };
      holds = rw offset_is holds;
    }
  where
    low_le : (e : Bool) (h : ℕ) → e ≡ nat_lt (value / 2 ^ 52) h → taken e h ≤ value / 2 ^ 52
    low_le true h c = omega arith
    low_le false h c = ltb-false (value / 2 ^ 52) h (sym c)

    value_low : (e : Bool) (h : ℕ) → (if e then value else (value - h * 2 ^ 52)) ≡ value - taken e h * 2 ^ 52
    value_low true h = omega arith
    value_low false h = refl

    offset_low : (e : Bool) (h : ℕ) → (value / 2 ^ 52 - taken e h) * 2 ^ s.doublings + number_from (bits bytes) (first + used) s.doublings
        ≡ (if e then (value / 2 ^ 52) else (value / 2 ^ 52 - h)) * 2 ^ s.doublings + number_from (bits bytes) (first + used) s.doublings
    offset_low true h = ap (λ x. x * 2 ^ s.doublings + number_from (bits bytes) (first + used) s.doublings) (less_none (value / 2 ^ 52))
    offset_low false h = refl
