-- What a filter predicts of each sample of a channel, and whether that is right, as codes of seven bits.
use Rattle.std.specs.Prelude.{ℕ, ◌+◌, ◌/◌, ◌==◌, min, ℤ, pos, nat_abs, Bool, not, if◌then◌else◌, List, map}
use Rattle.std.specs.Int.{is_negative}
use Rattle.std.specs.List.{range_with_len}
use Rattle.dst_spec.specs.Sample.{Shape, sample, samples}
use Rattle.dst_spec.specs.Guess.{sum_before}

-- the place of a prediction in a probability table of 64 entries: an eighth of its size, at most 63
abbrev pub place_of : ℤ → ℕ
place_of prediction = min (nat_abs prediction / 8) 63

-- the place of a prediction, and 64 more where the sample isn't as guessed; `one` tells that the sample is 1
abbrev pub code_of : ℤ → Bool → ℕ
code_of prediction one = place_of prediction + (if (if is_negative prediction then not one else one) then 0 else 64)

-- the code of sample t of channel c
abbrev pub code_at : Shape → List ℕ → ℕ → List ℤ → ℕ → ℕ
code_at f sound c filter t = code_of (sum_before f sound c filter (pos t)) (sample f sound c (pos t) == 1)

-- the codes of a channel's samples, the first sample's first
unfoldable pub codes : Shape → List ℕ → ℕ → List ℤ → List ℕ
codes f sound c filter = map (code_at f sound c filter) (range_with_len 0 (samples f))
