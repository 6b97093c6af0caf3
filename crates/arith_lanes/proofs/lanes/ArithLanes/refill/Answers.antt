-- The bits ahead of a lane, read again behind those that are used.
use Rattle.std.proofs.Common.{◌≡◌, ℕ, List, ◌+◌, ◌-◌, ◌*◌, ◌/◌, ◌%◌, ◌^◌, get_or, ap, sym, ◌∙◌, arith}
use Rattle.std.specs.Int.{trailing_zeros, w64}
use Rattle.dst_spec.specs.Bits.{bits, number_from}
use Rattle.arith_lanes.specs.Lanes.{IsLane, registers_at, value_of, first_at, used_at}
use Rattle.arith_lanes.specs.declared.lanes.ArithLanes.{ArithLanes}
use Rattle.arith_lanes.proofs.Beginning.{reaches, refills, read_ahead, read_ahead_has, read_ahead_others}
use Rattle.arith_lanes.proofs.lanes.ArithLanes.refill.Goals as goal

-- the place that they are read at
ahead_is : (s : ArithLanes) (n : ℕ) (bytes : List ℕ) (behind value : ℕ) → IsLane s n bytes → behind ≡ trailing_zeros w64 value →
    value ≡ value_of (registers_at s n) → get_or s.place n 0 + behind ≡ first_at s n + used_at s n + 51
ahead_is s n bytes behind value lane zeros is = ap (λ k. get_or s.place n 0 + k) (zeros ∙ ap (trailing_zeros w64) is) ∙ reaches s n bytes lane

pub overflow_sub-start : goal.overflow_sub-start
overflow_sub-start c = omega (arith, ahead_is _ _ _ _ _ c.requires.code c.from-behind.ensures c.value.ensures.value)

pub over-reader-requires-clause-early : goal.over-reader-requires-clause-early
over-reader-requires-clause-early c =
    let start = ahead_is _ _ _ _ _ c.requires.code c.from-behind.ensures c.value.ensures.value in
    omega (arith, start, c.requires.code.registers.early)

pub read_or_zero-upper-requires-clause-early : goal.read_or_zero-upper-requires-clause-early
read_or_zero-upper-requires-clause-early c =
    let start = ahead_is _ _ _ _ _ c.requires.code c.from-behind.ensures c.value.ensures.value in
    omega (arith, start, c.requires.code.registers.early, c.over-reader.ensures.place)

pub read_or_zero-lower-requires-clause-early : goal.read_or_zero-lower-requires-clause-early
read_or_zero-lower-requires-clause-early c =
    let start = ahead_is _ _ _ _ _ c.requires.code c.from-behind.ensures c.value.ensures.value in
    omega (arith, start, c.requires.code.registers.early, c.over-reader.ensures.place, c.read_or_zero-upper.ensures.place)

pub returns-clause-filled : goal.returns-clause-filled
returns-clause-filled c =
    let s = c.args.self.now in
    let n = c.args.n in
    let bytes = c.args.bytes.now in
    let start = get_or s.place n 0 + c.from-behind.result - 51 in
    let upper = c.read_or_zero-upper.result in
    let lower = c.read_or_zero-lower.result in
    let b : c.from-behind.result ≡ trailing_zeros w64 (value_of (registers_at s n)) = c.from-behind.ensures ∙ ap (trailing_zeros w64) c.value.ensures.value in
    let start_is : start ≡ get_or s.place n 0 + trailing_zeros w64 (value_of (registers_at s n)) - 51 = ap (λ k. get_or s.place n 0 + k - 51) b in
    let upper_is : upper ≡ number_from (bits bytes) start 32 =
    rw (c.over-reader.ensures.bytes, c.over-reader.ensures.place) at c.read_or_zero-upper.ensures.number in
    let lower_is : lower ≡ number_from (bits bytes) (start + 32) 15 = rw (
      c.read_or_zero-upper.ensures.bytes,
      c.read_or_zero-upper.ensures.place,
      c.over-reader.ensures.bytes,
      c.over-reader.ensures.place,
    ) at c.read_or_zero-lower.ensures.number in
    let h = read_ahead_has s n (start + 47) (upper / 65536) (upper % 65536) (2 * lower + 1) (omega arith) (omega arith) (omega arith) (omega arith) in
    refills s (read_ahead s n (start + 47) (upper / 65536) (upper % 65536) (2 * lower + 1)) n bytes start upper lower c.requires.code c.requires.early
    start_is upper_is lower_is h (ap (λ x. x / 2 ^ 52) (sym c.value.ensures.value) ∙ c.value.ensures.offset)

pub returns-clause-others : goal.returns-clause-others
returns-clause-others c m h =
    read_ahead_others c.args.self.now c.args.n (get_or c.args.self.now.place c.args.n 0 + c.from-behind.result - 51 + 47)
    (c.read_or_zero-upper.result / 65536) (c.read_or_zero-upper.result % 65536) (2 * c.read_or_zero-lower.result + 1) m h
