-- A channel's samples in stretches of 64, and how many of them differ from those some places before.
use Rattle.std.specs.Prelude.{◌≡◌, ℕ, zero, suc, ◌+◌, ◌-◌, ◌*◌, ◌/◌, ◌%◌, ◌^◌, ◌<◌, nat_lt, if◌then◌else◌, pos, List, length, get_or}
use Rattle.dst_spec.specs.Sample.{Shape, sample}

-- sample t, the earliest in the most significant bit of the first stretch
abbrev pub bit_of : List ℕ → ℕ → ℕ
bit_of stretches t = get_or stretches (t / 64) 0 / 2 ^ (63 - t % 64) % 2

-- the sample so many places before t, which is 0 where there is none
abbrev pub late : List ℕ → ℕ → ℕ → ℕ
late stretches lag t = if nat_lt t lag then 0 else bit_of stretches (t - lag)

-- sample i of the 64 that end so many places before the end of a stretch, which stands behind another one
abbrev pub passed : ℕ → ℕ → ℕ → ℕ → ℕ
passed stretch before lag i = if nat_lt i lag then before / 2 ^ (lag - 1 - i) % 2 else (stretch / 2 ^ (63 - (i - lag)) % 2)

-- the sum of F over the n numbers from first on
unfoldable pub tally : (ℕ → ℕ) → ℕ → ℕ → ℕ
tally F first zero = 0
tally F first (suc n) = tally F first n + F (first + n)

-- how many of the samples of stretches differ from those of others so many places before
unfoldable pub differing : List ℕ → List ℕ → ℕ → ℕ
differing stretches others lag = tally (λ t. (bit_of stretches t + late others lag t) % 2) 0 (64 * length stretches)

-- the stretches have the samples of a channel
pub record HasSamples (f : Shape) (sound : List ℕ) (c : ℕ) (stretches : List ℕ) : Type 0 where
  pub long : 64 * length stretches ≡ 8 * f.octets
  pub each : (t : ℕ) → t < 64 * length stretches → bit_of stretches t ≡ sample f sound c (pos t)
