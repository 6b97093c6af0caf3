-- A lane that begins, and one that is refilled.
use Rattle.std.proofs.Common.{◌≡◌, ◌≢◌, ℕ, zero, suc, ◌+◌, ◌-◌, ◌*◌, ◌/◌, ◌%◌, ◌^◌, ◌<◌, ◌≤◌, List, [], ◌∷◌, length, get_or, set, get_or-set_same}
use Rattle.std.proofs.Common.{get_or-set_other}
use Rattle.std.proofs.Common.{refl, ap₂, sym, ◌∙◌, arith, bit_or}
use Rattle.std.proofs.lemmas.Nat.{or_shifted}
use Rattle.std.specs.Int.{trailing_zeros, w64}
use Rattle.dst_spec.specs.Bits.{bits, number_from}
use Rattle.dst_spec.proofs.Numbers.{number_from-add, AreBits-bits, number_from-below}
use Rattle.arith_decoder.specs.Registers.{IsValue}
use Rattle.arith_decoder.proofs.Begun.{begun, first_value}
use Rattle.arith_decoder.proofs.Registers.{zeros_of, offset_of}
use Rattle.arith_lanes.specs.Lanes.{registers_at, value_of, range_at, offset_at, used_at, first_at, ahead_at, IsLane, IsUnchanged, Begins, Refills}
use Rattle.arith_lanes.specs.declared.lanes.ArithLanes.{ArithLanes}
use Rattle.arith_lanes.proofs.Eight.{unchanged}

-- one number eight times
abbrev pub eight : ℕ → List ℕ
eight x = x ∷ x ∷ x ∷ x ∷ x ∷ x ∷ x ∷ x ∷ []

pub alike : (x n : ℕ) → n < 8 → get_or (eight x) n 0 ≡ x
alike x zero h = refl
alike x (suc zero) h = refl
alike x (suc (suc zero)) h = refl
alike x (suc (suc (suc zero))) h = refl
alike x (suc (suc (suc (suc zero)))) h = refl
alike x (suc (suc (suc (suc (suc zero))))) h = refl
alike x (suc (suc (suc (suc (suc (suc zero)))))) h = refl
alike x (suc (suc (suc (suc (suc (suc (suc zero))))))) h = refl
alike x (suc (suc (suc (suc (suc (suc (suc (suc n)))))))) h = absurd (omega arith)

-- a lane whose registers and places are these
pub record Has (s : ArithLanes) (n first place range offset high middle low : ℕ) : Type 0 where
  pub first_is : get_or s.first n 0 ≡ first
  pub place_is : get_or s.place n 0 ≡ place
  pub range_is : get_or s.range n 0 ≡ range
  pub offset_is : get_or s.offset n 0 ≡ offset
  pub high_is : get_or s.high n 0 ≡ high
  pub middle_is : get_or s.middle n 0 ≡ middle
  pub low_is : get_or s.low n 0 ≡ low

-- the first bits of a code
pub begins : (s : ArithLanes) (n : ℕ) (bytes : List ℕ) (first offset next : ℕ) → length bytes ≤ 2 ^ 50 → first < 2 ^ 61 →
    offset ≡ number_from (bits bytes) (first + 1) 12 → (offset ≡ 4095 → ⊥) → next ≡ number_from (bits bytes) (first + 13) 32 →
    Has s n first (first + 45) 4095 offset (next / 65536) (next % 65536) 32768 → Begins s n bytes first
unfolding range_at offset_at used_at first_at ahead_at
begins s n bytes first offset next short early offset_is other next_is h =
    let b = begun bytes first offset next short early offset_is other next_is in
    let twelve = number_from-below (bits bytes) (first + 1) 12 (AreBits-bits bytes) in
    let more = number_from-below (bits bytes) (first + 13) 32 (AreBits-bits bytes) in
    let high : offset * 4503599627370496 % 18446744073709551616 ≡ offset * 2 ^ 52 = omega arith in
    let low : (2 * next + 1) * 524288 % 18446744073709551616 ≡ (2 * next + 1) * 524288 = omega arith in
    let below : (2 * next + 1) * 524288 < 4503599627370496 = omega arith in
    let is : first_value offset next ≡ offset * 2 ^ 52 + (2 * next + 1) * 524288 = ap₂ bit_or high low ∙ or_shifted offset 52 ((2 * next + 1) * 524288) below in
    let value : value_of (registers_at s n) ≡ first_value offset next = omega (arith, is, h.offset_is, h.high_is, h.middle_is, h.low_is) in
    record {
      lane = record { registers = rw (h.first_is, h.place_is, h.range_is, value) b.registers };
      first_is = h.first_is;
      used_is = rw (h.first_is, h.place_is, value) b.used_is;
      ahead = rw value (omega (arith, b.used_is));
      stands = rw (h.first_is, h.place_is, h.range_is, value) b.stands;
    }

-- eight codes of no bytes
abbrev pub none : ArithLanes
none = record {
  first = eight 0;
  place = eight 45;
  range = eight 4095;
  offset = eight 0;
  high = eight 0;
  middle = eight 0;
  low = eight 32768;
}

pub begins_none : (n : ℕ) → n < 8 → Begins none n [] 0
unfolding number_from bits
begins_none n h = begins none n [] 0 0 0 (omega arith) (omega arith) refl (λ e. omega arith) refl (record {
  first_is = alike 0 n h;
  place_is = alike 45 n h;
  range_is = alike 4095 n h;
  offset_is = alike 0 n h;
  high_is = alike 0 n h;
  middle_is = alike 0 n h;
  low_is = alike 32768 n h;
})

-- the place behind a lane's bits
pub reaches : (s : ArithLanes) (n : ℕ) (bytes : List ℕ) → IsLane s n bytes →
    get_or s.place n 0 + trailing_zeros w64 (value_of (registers_at s n)) ≡ first_at s n + used_at s n + 51
unfolding range_at
reaches s n bytes lane =
    let r = lane.registers in
    let v = r.holds in
    let full = v.full in
    let reach = v.reach in
    let most = r.in_range.most in
    let below = r.below in
    let zeros = zeros_of (bits bytes) (first_at s n + used_at s n) (get_or s.place n 0) (value_of (registers_at s n) / 2 ^ 52)
    (value_of (registers_at s n)) (omega arith) v in
    omega arith

-- 47 bits ahead
pub refills : (s t : ArithLanes) (n : ℕ) (bytes : List ℕ) (start upper lower : ℕ) → IsLane s n bytes →
    used_at s n ≤ 2 ^ 40 → start ≡ get_or s.place n 0 + trailing_zeros w64 (value_of (registers_at s n)) - 51 →
    upper ≡ number_from (bits bytes) start 32 → lower ≡ number_from (bits bytes) (start + 32) 15 →
    Has t n (get_or s.first n 0) (start + 47) (get_or s.range n 0) (get_or s.offset n 0) (upper / 65536) (upper % 65536) (2 * lower + 1) →
    value_of (registers_at s n) / 2 ^ 52 ≡ get_or s.offset n 0 → Refills s t n bytes
unfolding range_at offset_at used_at first_at ahead_at
refills s t n bytes start upper lower lane early start_is upper_is lower_is h offset_is =
    let xs = bits bytes in
    let r = lane.registers in
    let below = r.below in
    let most = r.in_range.most in
    let offset = get_or s.offset n 0 in
    let was = value_of (registers_at s n) in
    let reach = reaches s n bytes lane in
    let start_is_at : start ≡ get_or s.first n 0 + used_at s n = omega arith in
    let number : number_from xs start 47 ≡ upper * 2 ^ 15 + lower = number_from-add xs start 32 15
    ∙ ap₂ (λ x y. x * 2 ^ 15 + y) (sym upper_is) (sym lower_is) in
    let few = number_from-below xs start 32 (AreBits-bits bytes) in
    let value : value_of (registers_at t n) ≡ offset * 2 ^ 52 + (2 * number_from xs start 47 + 1) * 2 ^ 4 =
    omega (arith, number, h.offset_is, h.high_is, h.middle_is, h.low_is) in
    let holds : IsValue xs start (start + 47) offset (offset * 2 ^ 52 + (2 * number_from xs start 47 + 1) * 2 ^ 4) =
    record { ahead = 47; zeros = 4; full = refl; reach = refl; is = refl } in
    let new = offset * 2 ^ 52 + (2 * number_from xs start 47 + 1) * 2 ^ 4 in
    let offset_below : offset < get_or s.range n 0 = omega arith in
    let room = number_from-below xs start 47 (AreBits-bits bytes) in
    let zeros = zeros_of xs start (start + 47) offset new (omega arith) holds in
    let offset_again = offset_of xs start (start + 47) offset new (AreBits-bits bytes) holds in
    let some = r.some in
    let used_is : start + 47 + trailing_zeros w64 new - 51 - get_or s.first n 0 ≡ used_at s n = omega arith in
    let first_early = r.early in
    let full = r.holds.full in
    let reach_was = r.holds.reach in
    record {
      lane = record {
        registers = rw (h.first_is, h.place_is, h.range_is, value, used_is) (record {
          short = r.short;
          early = r.early;
          near = omega arith;
          some = r.some;
          in_range = r.in_range;
          below = omega arith;
          holds = rw (offset_again, ← start_is_at) holds;
        });
      };
      same = rw (h.first_is, h.place_is, h.range_is, value, used_is, offset_again, offset_is) refl;
      ahead = rw (value, zeros) refl;
    }

-- a lane that is written, and the others
abbrev pub written : ArithLanes → ℕ → (first place range offset high middle low : ℕ) → ArithLanes
written s n first place range offset high middle low = record {
  first = set s.first n first;
  place = set s.place n place;
  range = set s.range n range;
  offset = set s.offset n offset;
  high = set s.high n high;
  middle = set s.middle n middle;
  low = set s.low n low;
}

pub written_has : (s : ArithLanes) (n first place range offset high middle low : ℕ) → n < length s.first → n < length s.place → n < length s.range →
    n < length s.offset → n < length s.high → n < length s.middle → n < length s.low →
    Has (written s n first place range offset high middle low) n first place range offset high middle low
written_has s n first place range offset high middle low a b c d e f g = record {
  first_is = get_or-set_same s.first n first 0 a;
  place_is = get_or-set_same s.place n place 0 b;
  range_is = get_or-set_same s.range n range 0 c;
  offset_is = get_or-set_same s.offset n offset 0 d;
  high_is = get_or-set_same s.high n high 0 e;
  middle_is = get_or-set_same s.middle n middle 0 f;
  low_is = get_or-set_same s.low n low 0 g;
}

pub written_others : (s : ArithLanes) (n first place range offset high middle low m : ℕ) → m ≢ n →
    IsUnchanged s (written s n first place range offset high middle low) m
written_others s n first place range offset high middle low m h =
    unchanged s (written s n first place range offset high middle low) m
    (rw (
      get_or-set_other s.range n m range 0 h,
      get_or-set_other s.offset n m offset 0 h,
      get_or-set_other s.high n m high 0 h,
      get_or-set_other s.middle n m middle 0 h,
      get_or-set_other s.low n m low 0 h,
    ) refl)
    (get_or-set_other s.first n m first 0 h) (get_or-set_other s.place n m place 0 h)

-- bits ahead that are written
abbrev pub read_ahead : ArithLanes → ℕ → (place high middle low : ℕ) → ArithLanes
read_ahead s n place high middle low = record s {
  place = set s.place n place;
  high = set s.high n high;
  middle = set s.middle n middle;
  low = set s.low n low;
}

pub read_ahead_has : (s : ArithLanes) (n place high middle low : ℕ) → n < length s.place → n < length s.high → n < length s.middle → n < length s.low →
    Has (read_ahead s n place high middle low) n (get_or s.first n 0) place (get_or s.range n 0) (get_or s.offset n 0) high middle low
read_ahead_has s n place high middle low b e f g = record {
  first_is = refl;
  place_is = get_or-set_same s.place n place 0 b;
  range_is = refl;
  offset_is = refl;
  high_is = get_or-set_same s.high n high 0 e;
  middle_is = get_or-set_same s.middle n middle 0 f;
  low_is = get_or-set_same s.low n low 0 g;
}

pub read_ahead_others : (s : ArithLanes) (n place high middle low m : ℕ) → m ≢ n → IsUnchanged s (read_ahead s n place high middle low) m
read_ahead_others s n place high middle low m h =
    unchanged s (read_ahead s n place high middle low) m
    (rw (get_or-set_other s.high n m high 0 h, get_or-set_other s.middle n m middle 0 h, get_or-set_other s.low n m low 0 h) refl)
    refl (get_or-set_other s.place n m place 0 h)
