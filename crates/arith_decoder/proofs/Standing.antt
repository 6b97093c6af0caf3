-- How a decoder follows the interval of its symbols.
use Rattle.std.proofs.Common.{◌≡◌, ℕ, ◌+◌, ◌-◌, ◌*◌, ◌^◌, ◌<◌, ◌≤◌, Bool, true, false, List, [], ◌∷◌, ◌++◌, nat_lt, if◌then◌else◌, refl, ap, sym, ◌∙◌}
use Rattle.std.proofs.Common.{arith, ltb-false}
use Rattle.dst_spec.specs.Bits.{bits, number_from}
use Rattle.dst_spec.specs.Interval.{scale, part, interval, code_number}
use Rattle.dst_spec.proofs.Numbers.{number_from-add}
use Rattle.dst_spec.proofs.Intervals.{interval-push}
use Rattle.arith_decoder.specs.Decoding.{Decoding, StandsFor}
use Rattle.arith_core.proofs.Doubling.{doubled_by}

-- the code's number in so many more bits
pub code_number-more : (xs : List ℕ) (i n d : ℕ) → code_number xs i (n + d) ≡ code_number xs i n * 2 ^ d + number_from xs (i + (13 + n)) d
code_number-more xs i n d =
    let count : 12 + (n + d) ≡ 12 + n + d = omega arith in
    let place : i + 1 + (12 + n) ≡ i + (13 + n) = omega arith in
    rw (count, number_from-add xs (i + 1) (12 + n) d, place) refl

-- One symbol more: what a decoder becomes by it stands for the list with it.
pub record IsNext (d : Decoding) (p : ℕ) (symbol : Bool) (doublings : ℕ) (after : Decoding) : Type 0 where
  pub chosen : symbol ≡ nat_lt d.offset (d.range - scale d.range * p)
  pub few : doublings ≤ 8
  pub bytes : after.bytes ≡ d.bytes
  pub first : after.first ≡ d.first
  pub offset : after.offset ≡ (if symbol then d.offset else (d.offset - (d.range - scale d.range * p))) * 2 ^ doublings + number_from (bits d.bytes)
      (d.first + d.used) doublings
  pub range : after.range ≡ (if symbol then (d.range - scale d.range * p) else (scale d.range * p)) * 2 ^ doublings
  pub used : after.used ≡ d.used + doublings
  pub least : 2048 ≤ after.range
  pub most : after.range ≤ 4095
  pub below : after.offset < after.range

pub StandsFor-next : (d : Decoding) (p : ℕ) (symbol : Bool) (k : ℕ) (after : Decoding) → IsNext d p symbol k after →
    (pairs : List (Bool × ℕ)) → StandsFor d pairs → StandsFor after (pairs ++ (symbol, p) ∷ [])
StandsFor-next d p symbol k after n pairs s =
    let i = interval pairs in
    let xs = bits d.bytes in
    let push = interval-push pairs symbol p in
    let range : (part symbol p i).range * 2 ^ k ≡ after.range = part_range symbol n.range in
    let least = n.least in
    let most = n.most in
    let doubled_is = doubled_by k 11 (part symbol p i) (omega (arith, n.few)) (omega arith) (omega arith) in
    let whole = push ∙ doubled_is in
    let number = code_number-more xs d.first i.doublings k in
    let place : d.first + d.used ≡ d.first + (13 + i.doublings) = omega (arith, s.used) in
    let offset = n.offset in
    let next = number_from xs (d.first + (13 + i.doublings)) k in
    let offset_is : after.offset ≡ (if symbol then d.offset else (d.offset - (d.range - scale d.range * p))) * 2 ^ k + next = offset
    ∙ ap (λ j. (if symbol then d.offset else (d.offset - (d.range - scale d.range * p))) * 2 ^ k + number_from xs j k) place in
    record {
      range = rw whole (sym range);
      offset = rw (whole, part_doublings symbol, n.bytes, n.first, number) (part_offset symbol n.chosen next offset_is);
      below = n.below;
      used = rw (whole, part_doublings symbol) (omega (arith, n.used, s.used));
    }
  where
    part_doublings : (e : Bool) → (part e p (interval pairs)).doublings ≡ (interval pairs).doublings
    part_doublings true = refl
    part_doublings false = refl

    part_range : (e : Bool) → after.range ≡ (if e then (d.range - scale d.range * p) else (scale d.range * p)) * 2 ^ k →
        (part e p (interval pairs)).range * 2 ^ k ≡ after.range
    part_range true h = rw (← s.range) (sym h)
    part_range false h = rw (← s.range) (sym h)

    part_offset : (e : Bool) → e ≡ nat_lt d.offset (d.range - scale d.range * p) → (next : ℕ) →
        after.offset ≡ (if e then d.offset else (d.offset - (d.range - scale d.range * p))) * 2 ^ k + next →
        (part e p (interval pairs)).low * 2 ^ k + after.offset ≡ code_number (bits d.bytes) d.first (interval pairs).doublings * 2 ^ k + next
    part_offset true c next h =
        let offset = s.offset in
        rw (← offset, h) (omega arith)
    part_offset false c next h =
        let offset = s.offset in
        let le : d.range - scale d.range * p ≤ d.offset = ltb-false d.offset (d.range - scale d.range * p) (sym c) in
        let parts : (interval pairs).low + (d.range - scale d.range * p) + (d.offset - (d.range - scale d.range * p)) ≡ code_number (bits d.bytes) d.first
        (interval pairs).doublings = omega arith in
        rw (← s.range, ← parts, h) (omega arith)
