-- The scales of ranges, and the parts and factors of probabilities.
use Rattle.std.proofs.Common.{◌≡◌, ℕ, ◌+◌, ◌-◌, ◌*◌, ◌/◌, ◌%◌, ◌^◌, ◌<◌, ◌≤◌, bit_or, if◌then◌else◌, refl, ap, ap₂, sym, ◌∙◌, arith, Bool, true}
use Rattle.std.proofs.Common.{false, List, map, take, drop, length, nat_lt, nat_eq, get_or, ltb-true, ltb-false, lt-ltb, le-ltb}
use Rattle.std.proofs.lemmas.Bool.{ne_eqb}
use Rattle.std.proofs.Math.Seq.{take-length}
use Rattle.std.proofs.lemmas.List.{length-drop, get_or-drop}
use Rattle.std.specs.List.{range_with_len}
use Rattle.std.proofs.lemmas.List.FromFn.{get_or-map-range_with_len}
use Rattle.dst_spec.specs.Interval.{scale}
use Rattle.dst_spec.proofs.Intervals.{scale-below}
use Rattle.arith_decoder.specs.Registers.{IsFactor, IsRow, due, scale_at}
use Rattle.arith_core.specs.Range.{IsRange}
use Rattle.arith_core.proofs.Shifts.{shift_of, is_shift, prob_at, prob_at-is}

-- the scale of a range by its five highest bits
scale_five : (range five : ℕ) → range / 128 ≡ five → scale range ≡ bit_or (five / 2) (five % 2)
scale_five range five e =
    let high : range / 256 ≡ five / 2 = omega arith in
    let low : range / 128 % 2 ≡ five % 2 = ap (λ x. x % 2) e in
    ap₂ bit_or high low

pub scale_short : (six : ℕ) → six < 32 → scale_at six ≡ bit_or (six / 2) (six % 2)
scale_short six h =
    let short : nat_lt (64 * six) 2048 ≡ true = lt-ltb (64 * six) 2048 (omega arith) in
    rw short (scale_five (2 * (64 * six)) six (omega arith))

pub scale_long : (six : ℕ) → 32 ≤ six → scale_at six ≡ bit_or (six / 2 / 2) (six / 2 % 2)
scale_long six h =
    let long : nat_lt (64 * six) 2048 ≡ false = le-ltb (64 * six) 2048 (omega arith) in
    rw long (scale_five (64 * six) (six / 2) (omega arith))

-- a range has the scale of its six highest bits
pub scale_of_range : (range : ℕ) → scale (due range range) ≡ scale_at (range / 64)
scale_of_range range = go (nat_lt range 2048) refl
  where
    go : (e : Bool) → nat_lt range 2048 ≡ e → scale (if e then (2 * range) else range) ≡ scale_at (range / 64)
    go true is =
        let small : range < 2048 = ltb-true range 2048 is in
        scale_five (2 * range) (range / 64) (omega arith) ∙ sym (scale_short (range / 64) (omega arith))
    go false is =
        let large : 2048 ≤ range = ltb-false range 2048 is in
        scale_five range (range / 64 / 2) (omega arith) ∙ sym (scale_long (range / 64) (omega arith))

pub scale_at-below : (six : ℕ) → six < 64 → scale_at six < 16
scale_at-below six h = go (nat_lt (64 * six) 2048) refl
  where
    go : (e : Bool) → nat_lt (64 * six) 2048 ≡ e → scale (if e then (2 * (64 * six)) else (64 * six)) < 16
    go true is =
        let small : 64 * six < 2048 = ltb-true (64 * six) 2048 is in
        scale-below (2 * (64 * six)) (omega arith)
    go false is = scale-below (64 * six) (omega arith)

pub factor_of : (p : ℕ) → 1 ≤ p → p ≤ 128 → IsFactor p (2 ^ shift_of p)
factor_of p h k = record { shift = shift_of p; power = refl; shifted = is_shift p h k }

-- a range with a doubling due, maybe
pub bounds_of : (range : ℕ) → IsRange (due range range) → (1024 ≤ range) × (range ≤ 4095)
bounds_of range r = go (nat_lt range 2048) refl r.least r.most
  where
    go : (e : Bool) → nat_lt range 2048 ≡ e → 2048 ≤ (if e then (2 * range) else range) → (if e then (2 * range) else range) ≤ 4095 →
        (1024 ≤ range) × (range ≤ 4095)
    go true is least most = (omega arith, omega arith)
    go false is least most = (omega arith, most)

-- what the columns have at each place
abbrev at_place : ℕ → ℕ → ℕ
at_place p column = if nat_eq column 0 then (2 ^ shift_of p) else if nat_lt column 16 then 0 else (scale_at column * p)

abbrev pub all_rows : List ℕ
all_rows = map (λ i. at_place (prob_at (i % 128)) (i / 128)) (range_with_len 0 8192)

place_is : (p column : ℕ) → 1 ≤ p → p ≤ 128 → column < 64 → get_or all_rows (p % 128 + column * 128) 0 ≡ at_place p column
place_is p column least most few =
    let i = p % 128 + column * 128 in
    let at : i % 128 ≡ p % 128 = omega arith in
    let of : i / 128 ≡ column = omega arith in
    get_or-map-range_with_len (λ i. at_place (prob_at (i % 128)) (i / 128)) 0 8192 i i 0 (omega arith) (omega arith)
    ∙ ap₂ (λ x y. at_place (prob_at x) y) at of ∙ ap (λ q. at_place q column) (prob_at-is p least most)

pub is_row : (p : ℕ) (flat : List ℕ) → 1 ≤ p → p ≤ 128 → flat ≡ all_rows → IsRow p (take (length flat - p % 128) (drop (p % 128) flat))
is_row p flat least most is =
    let many : length flat ≡ 8192 = ap length is in
    let short = length-drop (p % 128) flat in
    let whole : take (length flat - p % 128) (drop (p % 128) flat) ≡ drop (p % 128) flat = ap (λ n. take n (drop (p % 128) flat)) (sym short)
    ∙ take-length (drop (p % 128) flat) in
    rw whole (record {
      long = omega arith;
      factor = rw (at 0 (omega arith)) (factor_of p least most);
      part = λ six some few. at six few ∙ part_is six some;
    })
  where
    at : (column : ℕ) → column < 64 → get_or (drop (p % 128) flat) (column * 128) 0 ≡ at_place p column
    at column few = get_or-drop (p % 128) flat (column * 128) 0 ∙ ap (λ xs. get_or xs (p % 128 + column * 128) 0) is ∙ place_is p column least most few

    part_is : (six : ℕ) → 16 ≤ six → at_place p six ≡ scale_at six * p
    part_is six some =
        let other : nat_eq six 0 ≡ false = ne_eqb six 0 (omega arith) in
        rw (other, le-ltb six 16 some) refl
