-- A channel between two samples.
use Rattle.std.specs.Prelude.{ℕ, ℤ, List}
use Rattle.byte_predictor.specs.Samples.{signed_sum}
use Rattle.byte_predictor.specs.SumsAhead.{IsAhead}
use Rattle.dst_frames.specs.Tables.{IsEntry}
use Rattle.dst_frames.specs.declared.state.ChannelState.{ChannelState}

-- These are the samples so far, the newest first and `place` of them not yet added to the sums ahead; the next sample's entry is
-- that of its prediction.
pub record IsReady (filter : List ℤ) (probs : List ℕ) (place : ℕ) (samples : List ℕ) (state : ChannelState) : Type 0 where
  pub ahead : IsAhead filter place samples state.ahead
  pub next : IsEntry (signed_sum filter samples) probs state.next
