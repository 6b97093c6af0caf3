-- What the bytes so far add is right; each coefficient doubles their number.
use Rattle.std.proofs.Common.{◌≡◌, ℕ, ◌+◌, ◌<◌, ◌^◌, length, get_or}
use Rattle.byte_predictor.specs.Samples.{rising_bits}
use Rattle.byte_predictor.specs.Upward.{upward_sum}
use Rattle.byte_predictor.proofs.row_filter.fill_near.Given as goal

abbrev pub invariant-loop-i : goal.invariant-loop-i
invariant-loop-i l =
    (l.half ≡ 2 ^ l.i)
    × ((b : ℕ) → b < l.half → get_or l.near b 0 ≡ upward_sum l.coefs (rising_bits 8 b))
    × (length l.near ≡ 256)

abbrev pub invariant-loop-byte : goal.invariant-loop-byte
invariant-loop-byte l =
    ((b : ℕ) → b < l.half + l.byte → get_or l.near b 0 ≡ upward_sum l.coefs (rising_bits 8 b))
    × (length l.near ≡ 256)
