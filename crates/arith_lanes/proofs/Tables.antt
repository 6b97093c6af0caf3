-- The table of chances.
use Rattle.std.proofs.Common.{◌≡◌, ℕ, ◌+◌, ◌*◌, ◌/◌, ◌%◌, ◌^◌, ◌<◌, ◌≤◌, ap, ◌∙◌, arith, List, map, get_or}
use Rattle.std.specs.List.{range_with_len}
use Rattle.std.proofs.lemmas.List.FromFn.{get_or-map-range_with_len}
use Rattle.arith_core.proofs.Shifts.{shift_of, is_shift}
use Rattle.arith_lanes.specs.Chances.{IsChance}

-- the chance of an entry: the entry, and behind it the power of 2 with which its probability has eight bits
abbrev chance_at : ℕ → ℕ
chance_at i = i % 128 + 128 * (i / 128) + 256 * 2 ^ shift_of (i % 128 + 1)

abbrev pub all_chances : List ℕ
all_chances = map (λ i. chance_at i) (range_with_len 0 256)

chance_is : (entry : ℕ) (table : List ℕ) → entry < 256 → table ≡ all_chances → get_or table entry 0 ≡ chance_at entry
chance_is entry table h is =
    ap (λ xs. get_or xs entry 0) is ∙ get_or-map-range_with_len (λ i. chance_at i) 0 256 entry entry 0 (omega arith) (omega arith)

pub is_chance : (entry : ℕ) (table : List ℕ) → entry < 256 → table ≡ all_chances → IsChance (entry % 128 + 1) (get_or table entry 0)
is_chance entry table h is =
    let p = entry % 128 + 1 in
    let least : 1 ≤ p = omega arith in
    let most : p ≤ 128 = omega arith in
    let power = 2 ^ shift_of p in
    let low : chance_at entry % 128 + 1 ≡ p = low_is (entry % 128) (entry / 128) power (omega arith) in
    let high : chance_at entry / 256 ≡ power = high_is (entry % 128) (entry / 128) power (omega arith) (omega arith) in
    rw (chance_is entry table h is) (record {
      least = least;
      most = most;
      prob = low;
      factor = record { shift = shift_of p; power = high; shifted = is_shift p least most };
    })
  where
    low_is : (low mark power : ℕ) → low < 128 → (low + 128 * mark + 256 * power) % 128 + 1 ≡ low + 1
    low_is low mark power a = omega arith

    high_is : (low mark power : ℕ) → low < 128 → mark < 2 → (low + 128 * mark + 256 * power) / 256 ≡ power
    high_is low mark power a b = omega arith

pub mark_is : (entry : ℕ) (table : List ℕ) → entry < 256 → table ≡ all_chances → get_or table entry 0 / 128 % 2 ≡ entry / 128
mark_is entry table h is =
    ap (λ w. w / 128 % 2) (chance_is entry table h is)
    ∙ middle (entry % 128) (entry / 128) (2 ^ shift_of (entry % 128 + 1)) (omega arith) (omega arith)
  where
    middle : (low mark power : ℕ) → low < 128 → mark < 2 → (low + 128 * mark + 256 * power) / 128 % 2 ≡ mark
    middle low mark power a b = omega arith
