-- The sums ahead of a channel: what its samples add to the predictions of those that follow.
use Rattle.std.specs.Prelude.{◌≡◌, ℕ, ◌+◌, ◌<◌, ◌≤◌, nat_lt, if◌then◌else◌, ℤ, List, length, get_or, take, drop}
use Rattle.byte_predictor.specs.Samples.{rising_bits}
use Rattle.byte_predictor.specs.Upward.{upward_sum, far}

-- The sums, a lane for each sample to come, and the newest sixteen samples. The first sixteen lanes have each byte of samples at once,
-- the others so many samples late.
pub record SumsAhead : Type 0 where
  pub lanes : List ℕ
  pub newest : ℕ
  pub late : ℕ

-- how many of the newest samples a lane doesn't have yet, `place` samples after a byte
abbrev pub left_out : ℕ → ℕ → ℕ → ℕ
left_out late place lane = if nat_lt lane 16 then place else (if nat_lt place late then place + 8 else place)

-- The sums are those of the filter after these samples, the newest first, the newest `place` of which are not yet in them.
pub record IsAhead (coefs : List ℤ) (place : ℕ) (samples : List ℕ) (state : SumsAhead) : Type 0 where
  pub few : place ≤ 8
  pub long : 128 ≤ length samples
  pub newest : rising_bits 16 state.newest ≡ take 16 samples
  pub lanes : length state.lanes ≡ 136
  pub sums : (lane : ℕ) → lane < 136 → get_or state.lanes lane 0 ≡ upward_sum (drop lane (far coefs)) (drop (left_out state.late place lane) samples)
