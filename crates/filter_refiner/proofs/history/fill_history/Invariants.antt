-- The 16 bytes before the frame stand, and behind them the bytes of the channel so far.
use Rattle.std.proofs.Common.{◌≡◌, ℕ, ◌+◌, ◌*◌, ◌<◌, length, get_or}
use Rattle.filter_refiner.proofs.history.fill_history.Given as goal

abbrev pub invariant-loop-place : goal.invariant-loop-place
invariant-loop-place l = record {
  long : length l.bytes ≡ 18832;
  before : (i : ℕ) → i < 16 → get_or l.bytes i 0 ≡ 170;
  each : (i : ℕ) → i < l.place → get_or l.bytes (i + 16) 0 ≡ get_or l.sound (i * l.count + l.channel) 0;
}
