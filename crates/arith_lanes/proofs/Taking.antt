-- A lane takes a symbol.
use Rattle.std.proofs.Common.{◌≡◌, ℕ, ◌+◌, ◌-◌, ◌/◌, ◌^◌, ◌≤◌, Bool, List, get_or, refl, ap, arith}
use Rattle.std.specs.Int.{trailing_zeros, w64}
use Rattle.dst_spec.specs.Bits.{bits}
use Rattle.arith_decoder.specs.Registers.{IsStep}
use Rattle.arith_decoder.proofs.Registers.{zeros_of}
use Rattle.arith_decoder.proofs.Ready.{IsReady, behind}
use Rattle.arith_decoder.proofs.Steps.{step_fits}
use Rattle.arith_lanes.specs.Lanes.{registers_at, value_of, range_at, offset_at, used_at, first_at, ahead_at, IsLane, TakesSymbol}
use Rattle.arith_lanes.specs.declared.lanes.ArithLanes.{ArithLanes}

-- the zeros of a lane's value
pub lane_zeros : (s : ArithLanes) (n : ℕ) (bytes : List ℕ) → (lane : IsLane s n bytes) → ahead_at s n ≡ lane.registers.holds.ahead
unfolding ahead_at range_at
lane_zeros s n bytes lane =
    let r = lane.registers in
    let v = r.holds in
    let full = v.full in
    let most = r.in_range.most in
    let below = r.below in
    let zeros = zeros_of (bits bytes) (first_at s n + used_at s n) (get_or s.place n 0) (value_of (registers_at s n) / 2 ^ 52)
    (value_of (registers_at s n)) (omega arith) v in
    omega arith

pub takes : (s t : ArithLanes) (n : ℕ) (bytes : List ℕ) (p : ℕ) (symbol : Bool) → t.first ≡ s.first → t.place ≡ s.place → IsLane s n bytes →
    8 ≤ ahead_at s n → used_at s n ≤ 2 ^ 40 →
    IsStep p (value_of (registers_at s n)) (registers_at s n).range symbol (value_of (registers_at t n)) (registers_at t n).range →
    TakesSymbol s t n bytes p symbol
unfolding first_at used_at range_at offset_at ahead_at
takes s t n bytes p symbol first_same place_same lane enough few step =
    let value = value_of (registers_at s n) in
    let after = value_of (registers_at t n) in
    let place = get_or s.place n 0 in
    let first = get_or s.first n 0 in
    let range = (registers_at s n).range in
    let range_after = (registers_at t n).range in
    let r = lane.registers in
    let held = lane_zeros s n bytes lane in
    let ready : IsReady bytes first (used_at s n) place value range = record { below = r.below; holds = r.holds; enough = omega (arith, enough, held) } in
    let b = behind bytes first (used_at s n) place value range p symbol after range_after r.short r.early r.some few
    (step_fits p value range symbol after range_after step) r.in_range ready step in
    let was : place + trailing_zeros w64 value - 51 - first ≡ used_at s n = refl in
    let some = r.some in
    let is = b.used_is in
    let most = b.few in
    record {
      lane = record { registers = rw (first_same, place_same) b.registers };
      stands = λ pairs st. rw (first_same, place_same) (b.stands pairs st);
      first = ap (λ xs. get_or xs n 0) first_same;
      used = rw (first_same, place_same) (omega arith);
      ahead = omega arith;
    }
