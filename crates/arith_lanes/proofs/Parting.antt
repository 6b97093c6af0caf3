-- One symbol of a lane.
use Rattle.std.proofs.Common.{◌≡◌, ℕ, ◌+◌, ◌-◌, ◌*◌, ◌/◌, ◌%◌, ◌^◌, ◌<◌, ◌≤◌, Bool, true, false, nat_lt, if◌then◌else◌, refl, ap, sym, ◌∙◌, arith}
use Rattle.std.proofs.Common.{ltb-false}
use Rattle.std.proofs.lemmas.Nat.{pow_below}
use Rattle.dst_spec.specs.Interval.{scale}
use Rattle.arith_core.specs.Range.{IsRange}
use Rattle.arith_decoder.specs.Registers.{IsCut, IsFactor, IsStep, due}
use Rattle.arith_decoder.proofs.Steps.{before, step_is, value_behind, range_behind}
use Rattle.arith_lanes.specs.Chances.{IsChance}
use Rattle.arith_lanes.proofs.Times.{four, times_four, factor_room}

-- what a lane computes before its doubling: where the part of symbol 1 ends, the range, the factor and the offset number
pub record IsParted (symbol : Bool) (range part factor offset high_end range_left by offset_left : ℕ) : Type 0 where
  pub end_is : high_end ≡ range - part
  pub symbol_is : symbol ≡ nat_lt offset high_end
  pub range_is : range_left ≡ (if symbol then high_end else (part * factor))
  pub by_is : by ≡ (if symbol then 1 else factor)
  pub offset_is : offset_left ≡ offset - (if symbol then 0 else high_end)

-- a factor with room for a carry, also when it is doubled
has_room : (symbol : Bool) (factor by half : ℕ) → factor * (2 * half) ≡ 65536 → 0 < factor → by ≡ (if symbol then 1 else factor) →
    (other : ℕ) × (by * (2 * other) ≡ 65536) × (0 < by)
has_room true factor by half e some is = (32768, rw is refl, rw is (omega arith))
has_room false factor by half e some is = (half, rw is e, rw is some)

offset_from : (offset high middle low range : ℕ) → high < 65536 → middle < 65536 → low < 65536 → four offset high middle low / 2 ^ 52 ≡ offset
offset_from offset high middle low range h m l = omega arith

moved : (symbol : Bool) (offset high middle low high_end factor by offset_left : ℕ) → symbol ≡ nat_lt offset high_end →
    by ≡ (if symbol then 1 else factor) → offset_left ≡ offset - (if symbol then 0 else high_end) →
    four offset_left high middle low * by ≡ value_behind symbol (four offset high middle low) high_end factor
moved true offset high middle low high_end factor by offset_left chosen by_is offset_is = rw (by_is, offset_is) (omega arith)
moved false offset high middle low high_end factor by offset_left chosen by_is offset_is =
    let le : high_end ≤ offset = ltb-false offset high_end (sym chosen) in
    let rest : four offset_left high middle low ≡ four offset high middle low - high_end * 2 ^ 52 = omega arith in
    rw (by_is, rest) refl

-- the last doubling
doubled : (due_now : Bool) (value by by_all half : ℕ) → by * (2 * half) ≡ 65536 → by_all ≡ (if due_now then (2 * by) else by) →
    (g : ℕ) × (by_all * g ≡ 65536) × (value * by_all ≡ if due_now then (2 * (value * by)) else (value * by))
doubled true value by by_all half e is = (half, rw is (omega (arith, e)), rw is (omega arith))
doubled false value by by_all half e is = (2 * half, rw is e, rw is refl)

positive : (due_now : Bool) (by by_all : ℕ) → 0 < by → by_all ≡ (if due_now then (2 * by) else by) → 0 < by_all
positive true by by_all some is = omega arith
positive false by by_all some is = omega arith

pub lane_steps : (p range offset high middle low chance : ℕ) (symbol : Bool) (part high_end range_left by offset_left by_all range_after : ℕ) →
    IsChance p chance → IsRange range → four offset high middle low < range * 2 ^ 52 → high < 65536 → middle < 65536 → low < 65536 →
    part ≡ scale range * p →
    IsParted symbol range part (chance / 256) offset high_end range_left by offset_left →
    by_all ≡ (if nat_lt range_left 2048 then (2 * by) else by) → range_after ≡ due range_left range_left →
    IsStep p (four offset high middle low) range symbol
    (four ((offset_left * by_all + high * by_all / 65536) % 65536) ((high * by_all + middle * by_all / 65536) % 65536)
    ((middle * by_all + low * by_all / 65536) % 65536) (low * by_all % 65536)) range_after
lane_steps p range offset high middle low chance symbol part high_end range_left by offset_left by_all range_after w r below h m l part_is
    q by_all_is range_is =
    let value = four offset high middle low in
    let factor = chance / 256 in
    let cut : IsCut p range part factor = record { part_is = part_is; factor_is = w.factor } in
    let b = before p value range part factor w.most r cut in
    let offset_is : value / 2 ^ 52 ≡ offset = offset_from offset high middle low range h m l in
    let chosen : nat_lt (value / 2 ^ 52) (range - part) ≡ symbol = ap (λ k. nat_lt k (range - part)) offset_is ∙ ap (nat_lt offset) (sym q.end_is)
    ∙ sym q.symbol_is in
    let y = four offset_left high middle low * by in
    let y_is : y ≡ value_behind symbol value (range - part) factor =
    moved symbol offset high middle low high_end factor by offset_left q.symbol_is q.by_is q.offset_is
    ∙ ap (λ e. value_behind symbol value e factor) q.end_is in
    let r_is : range_left ≡ range_behind symbol (range - part) (part * factor) = q.range_is ∙ ap (λ e. range_behind symbol e (part * factor)) q.end_is in
    let s = step_is p value range part factor w.most r below cut symbol chosen y range_left y_is r_is in
    let f = factor_room p factor w.factor in
    let room = has_room symbol factor by f.0 f.1 f.2 q.by_is in
    let d = doubled (nat_lt range_left 2048) (four offset_left high middle low) by by_all room.0 room.1 by_all_is in
    let after = s.after in
    let fits : four offset_left high middle low * by_all < 4096 * 2 ^ 52 = rw d.2 (omega (arith, s.below, after.most)) in
    let all = times_four offset_left high middle low by_all d.0 d.1 (positive (nat_lt range_left 2048) by by_all room.2 by_all_is) h m l fits in
    rw (all, d.2, range_is) s

-- how large these numbers are
pub record AreBounds (p range factor : ℕ) : Type 0 where
  pub small : scale range * p + 1024 ≤ range
  pub most : scale range * p * factor ≤ 4095
  pub few : factor < 256

pub bounds : (p range factor : ℕ) → p ≤ 128 → IsRange range → IsFactor p factor → AreBounds p range factor
bounds p range factor most r f =
    let cut : IsCut p range (scale range * p) factor = record { part_is = refl; factor_is = f } in
    let b = before p 0 range (scale range * p) factor most r cut in
    record { small = b.small; most = b.most; few = few_times p factor f }
  where
    few_times : (p factor : ℕ) → IsFactor p factor → factor < 256
    few_times p factor f = rw f.power (pow_below f.shift 8 (omega (arith, f.shifted.few)))

pub offset_below : (offset high middle low range : ℕ) → four offset high middle low < range * 2 ^ 52 → offset < range
offset_below offset high middle low range h = omega arith

-- what is left of the range, and of the offset number
pub left_small : (symbol : Bool) (high_end part factor : ℕ) → high_end ≤ 4095 → part * factor ≤ 4095 → (if symbol then high_end else (part * factor)) ≤ 4095
left_small true high_end part factor h k = h
left_small false high_end part factor h k = k

pub by_below : (symbol : Bool) (factor : ℕ) → factor < 256 → (if symbol then 1 else factor) < 256
by_below true factor h = omega arith
by_below false factor h = h

-- what a symbol takes from the offset number, by a difference that wraps around
pub offset_less : (symbol : Bool) (offset high_end taken : ℕ) → symbol ≡ nat_lt offset high_end → taken ≡ (if symbol then 0 else high_end) → offset < 65536 →
    (offset + (65536 - taken)) % 65536 ≡ offset - (if symbol then 0 else high_end)
offset_less true offset high_end taken chosen is fits = rw is (omega arith)
offset_less false offset high_end taken chosen is fits =
    let le : high_end ≤ offset = ltb-false offset high_end (sym chosen) in
    rw is (omega arith)

pub twice : (due_now : Bool) (x : ℕ) → x < 32768 → (if due_now then (x * 2 % 65536) else x) ≡ if due_now then (2 * x) else x
twice due_now x h =
    let whole : x * 2 % 65536 ≡ 2 * x = omega arith in
    ap (λ y. if due_now then y else x) whole
