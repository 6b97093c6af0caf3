-- How far the samples of a frame agree with those some places before them.
use Rattle.std.specs.Prelude.{ℕ, zero, suc, ◌+◌, ◌-◌, ℤ, pos, ◌+ℤ◌, ◌*ℤ◌, List, [], ◌∷◌, map}
use Rattle.std.specs.List.{range_with_len}
use Rattle.dst_spec.specs.Sample.{Shape, sample, samples}
use Rattle.dst_spec.specs.Guess.{signed}

-- the sum of F over the n numbers from first on
unfoldable pub sum_over : (ℕ → ℤ) → ℕ → ℕ → ℤ
sum_over F first zero = pos 0
sum_over F first (suc n) = sum_over F first n +ℤ F (first + n)

-- 1 where the sample is 1, else -1
abbrev pub sign : Shape → List ℕ → ℕ → ℕ → ℤ
sign f sound c t = signed (sample f sound c (pos t)) (pos 1)

-- Of the samples of channel c from the k-th of the frame on, each is taken with the one k places before it. Samples before the
-- frame aren't used.
abbrev pub correlation : Shape → List ℕ → ℕ → ℕ → ℤ
correlation f sound c k = sum_over (λ t. sign f sound c t *ℤ sign f sound c (t - k)) k (samples f - k)

-- of several channels together the sum of theirs
unfoldable pub joint_correlation : Shape → List ℕ → List ℕ → ℕ → ℤ
joint_correlation f sound [] k = pos 0
joint_correlation f sound (c ∷ channels) k = correlation f sound c k +ℤ joint_correlation f sound channels k

-- for each lag from 0 to 128
abbrev pub correlations : Shape → List ℕ → List ℕ → List ℤ
correlations f sound channels = map (λ k. joint_correlation f sound channels k) (range_with_len 0 129)
