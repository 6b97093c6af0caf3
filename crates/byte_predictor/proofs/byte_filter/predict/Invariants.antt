-- The sum is that of the bytes so far, and its size is at most 32,768 for each of them.
use Rattle.std.proofs.Common.{◌≡◌, ◌*◌, pos, neg_ℤ, ◌≤ℤ◌, take}
use Rattle.byte_predictor.specs.Samples.{samples_of, signed_sum}
use Rattle.byte_predictor.proofs.byte_filter.predict.Given as goal

abbrev pub invariant-loop-j : goal.invariant-loop-j
invariant-loop-j l =
    (l.sum ≡ signed_sum l.filter (samples_of (take l.j l.bytes)))
    × (neg_ℤ (pos (32768 * l.j)) ≤ℤ l.sum)
    × (l.sum ≤ℤ pos (32768 * l.j))
