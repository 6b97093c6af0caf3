-- The sums of the bytes so far are right; each coefficient doubles their number.
use Rattle.std.proofs.Common.{◌≡◌, ℕ, ◌+◌, ◌<◌, ◌^◌, pos, length, get_or, drop}
use Rattle.byte_predictor.specs.Samples.{rising_bits, signed_sum}
use Rattle.byte_predictor.proofs.byte_filter.fill_part.Given as goal

abbrev pub invariant-loop-i : goal.invariant-loop-i
invariant-loop-i l =
    (l.half ≡ 2 ^ l.i)
    × ((b : ℕ) → b < l.half → get_or l.part b (pos 0) ≡ signed_sum (drop l.first l.coefs) (rising_bits 8 b))
    × (length l.part ≡ 256)

abbrev pub invariant-loop-byte : goal.invariant-loop-byte
invariant-loop-byte l =
    ((b : ℕ) → b < l.half + l.byte → get_or l.part b (pos 0) ≡ signed_sum (drop l.first l.coefs) (rising_bits 8 b))
    × (length l.part ≡ 256)
