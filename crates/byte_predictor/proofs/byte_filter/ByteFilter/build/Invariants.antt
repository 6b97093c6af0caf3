-- The tables so far have the sums of their eight coefficients, byte by byte.
use Rattle.std.proofs.Common.{◌≡◌, ℕ, ◌<◌, pos, [], length, get_or}
use Rattle.byte_predictor.specs.Parts.{part_sum}
use Rattle.byte_predictor.proofs.byte_filter.ByteFilter.build.Given as goal

abbrev pub invariant-loop-j : goal.invariant-loop-j
invariant-loop-j l =
    (length l.parts ≡ 16)
    × ((k byte : ℕ) → k < l.j → byte < 256 → get_or (get_or l.parts k []) byte (pos 0) ≡ part_sum l.coefs k byte)
