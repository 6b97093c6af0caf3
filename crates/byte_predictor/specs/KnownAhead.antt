-- The sums ahead of a channel whose samples are known a byte at a time.
use Rattle.std.specs.Prelude.{◌≡◌, ℕ, ◌<◌, ℤ, List, length, get_or, drop}
use Rattle.byte_predictor.specs.Upward.{upward_sum, shifted}
use Rattle.byte_predictor.specs.declared.known.KnownAhead.{KnownAhead}

-- The sums are those of the filter after these samples, the newest first: the first eight lanes are for the newest eight.
pub record AreKnown (coefs : List ℤ) (samples : List ℕ) (state : KnownAhead) : Type 0 where
  pub lanes : length state.lanes ≡ 144
  pub sums : (lane : ℕ) → lane < 144 → get_or state.lanes lane 0 ≡ upward_sum (drop lane (shifted coefs)) samples
