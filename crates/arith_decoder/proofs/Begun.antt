-- A decoder that begins.
use Rattle.std.proofs.Common.{◌≡◌, ℕ, ◌+◌, ◌-◌, ◌*◌, ◌/◌, ◌%◌, ◌^◌, ◌<◌, ◌≤◌, List, [], bit_or, length, refl, ap, ap₂, ◌∙◌, arith}
use Rattle.std.proofs.lemmas.Nat.{or_shifted}
use Rattle.std.specs.Int.{trailing_zeros, w64}
use Rattle.dst_spec.specs.Bits.{bits, number_from}
use Rattle.dst_spec.specs.Interval.{interval_from}
use Rattle.dst_spec.proofs.Numbers.{AreBits-bits, number_from-below}
use Rattle.arith_decoder.specs.Decoding.{StandsFor}
use Rattle.arith_decoder.specs.Registers.{IsValue, AreRegisters, value_below}
use Rattle.arith_decoder.proofs.Registers.{offset_of, zeros_of, value_fits}

-- the first twelve bits, the next 32 and a bit 1
abbrev pub first_value : ℕ → ℕ → ℕ
first_value offset next = bit_or (offset * 4503599627370496 % 18446744073709551616) ((2 * next + 1) * 524288 % 18446744073709551616)

pub record IsBegun (bytes : List ℕ) (first value : ℕ) : Type 0 where
  pub below : value ≤ 4095 * 2 ^ 52
  pub used_is : first + 45 + trailing_zeros w64 value - 51 - first ≡ 13
  pub registers : AreRegisters bytes first (first + 45 + trailing_zeros w64 value - 51 - first) (first + 45) value 4095
  pub stands : StandsFor (record {
    bytes = bytes;
    first = first;
    range = 4095;
    offset = value / 2 ^ 52;
    used = first + 45 + trailing_zeros w64 value - 51 - first;
  }) []

pub begun : (bytes : List ℕ) (first offset next : ℕ) → length bytes ≤ 2 ^ 50 → first < 2 ^ 61 → offset ≡ number_from (bits bytes) (first + 1) 12 →
    (offset ≡ 4095 → ⊥) →
    next ≡ number_from (bits bytes) (first + 13) 32 → IsBegun bytes first (first_value offset next)
unfolding interval_from
begun bytes first offset next short early offset_is other next_is =
    let xs = bits bytes in
    let twelve = number_from-below xs (first + 1) 12 (AreBits-bits bytes) in
    let more = number_from-below xs (first + 13) 32 (AreBits-bits bytes) in
    let high : offset * 4503599627370496 % 18446744073709551616 ≡ offset * 2 ^ 52 = omega arith in
    let low : (2 * next + 1) * 524288 % 18446744073709551616 ≡ (2 * next + 1) * 524288 = omega arith in
    let below : (2 * next + 1) * 524288 < 4503599627370496 = omega arith in
    let is : first_value offset next ≡ offset * 2 ^ 52 + (2 * next + 1) * 524288 = ap₂ bit_or high low ∙ or_shifted offset 52 ((2 * next + 1) * 524288) below in
    let holds : IsValue xs (first + 13) (first + 45) offset (first_value offset next) = record {
      ahead = 32;
      zeros = 19;
      full = refl;
      reach = omega arith;
      is = is ∙ ap (λ n. offset * 2 ^ 52 + (2 * n + 1) * 524288) next_is;
    } in
    let fits = value_fits xs (first + 13) (first + 45) offset (first_value offset next) (AreBits-bits bytes) (omega arith) holds in
    let zeros = zeros_of xs (first + 13) (first + 45) offset (first_value offset next) fits holds in
    let offset_again = offset_of xs (first + 13) (first + 45) offset (first_value offset next) (AreBits-bits bytes) holds in
    let used_is : first + 45 + trailing_zeros w64 (first_value offset next) - 51 - first ≡ 13 = omega arith in
    record {
      below = omega arith;
      used_is = used_is;
      registers = rw used_is (record {
        short = short;
        early = early;
        near = omega arith;
        some = omega arith;
        in_range = record { least = omega arith; most = omega arith };
        below = omega (arith, offset_again);
        holds = rw offset_again holds;
      });
      stands = rw (used_is, offset_again) (record {
        range = refl;
        offset = omega (arith, offset_is);
        below = omega arith;
        used = refl;
      });
    }

-- the gap of the first value
pub first_gap : (value : ℕ) → value ≤ 4095 * 2 ^ 52 → value_below 4095 (4095 * 2 ^ 52 - value) ≡ value
first_gap value h = omega arith
