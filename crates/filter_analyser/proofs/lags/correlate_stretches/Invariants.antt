-- The lags so far are found and those behind are as at first; the ones of as many first samples are counted.
use Rattle.std.proofs.Common.{◌≡◌, ℕ, ◌+◌, ◌*◌, ◌<◌, pos, List, length, get_or}
use Rattle.dst_spec.specs.Sample.{Shape}
use Rattle.level_spec.specs.Correlation.{correlation}
use Rattle.filter_analyser.specs.Stretches.{bit_of, late, tally, HasSamples}
use Rattle.filter_analyser.proofs.lags.correlate_stretches.Given as goal

abbrev pub invariant-loop-turn : goal.invariant-loop-turn
invariant-loop-turn l = record {
  long : length l.lags ≡ 129;
  early : l.early ≡ tally (bit_of l.stretches) 0 (8 * l.turn);
  moved : (t : ℕ) → t < 64 * length l.stretches → bit_of l.behind t ≡ late l.stretches (8 * l.turn) t;
  known : (f : Shape) (sound : List ℕ) (c : ℕ) → HasSamples f sound c l.stretches → (k : ℕ) → k < 8 * l.turn + 1 →
      get_or l.lags k (pos 0) ≡ correlation f sound c k;
  behind : (k : ℕ) → 8 * l.turn < k → get_or l.lags k (pos 0) ≡ get_or l.fn.lags k (pos 0);
}

abbrev pub invariant-loop-place : goal.invariant-loop-place
invariant-loop-place l = record {
  long : length l.lags ≡ 129;
  early : l.early ≡ tally (bit_of l.stretches) 0 (8 * l.turn + l.place);
  known : (f : Shape) (sound : List ℕ) (c : ℕ) → HasSamples f sound c l.stretches → (k : ℕ) → k < 8 * l.turn + l.place + 1 →
      get_or l.lags k (pos 0) ≡ correlation f sound c k;
  behind : (k : ℕ) → 8 * l.turn + l.place < k → get_or l.lags k (pos 0) ≡ get_or l.fn.lags k (pos 0);
}
