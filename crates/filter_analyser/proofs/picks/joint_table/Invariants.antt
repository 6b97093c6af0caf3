-- The codes of the channels so far are counted, at most 150,528 of each, and the sound stays.
use Rattle.std.proofs.Common.{◌≡◌, ℕ, ◌*◌, ◌<◌, ◌≤◌, ◌==◌, length, get_or}
use Rattle.std.specs.List.{range_with_len}
use Rattle.level_spec.specs.Counts.{count_from}
use Rattle.frame_predictions.specs.Codes.{code_at}
use Rattle.filter_analyser.proofs.picks.joint_table.Given as goal

abbrev pub invariant-loop-c : goal.invariant-loop-c
invariant-loop-c l = record {
  long : length l.counts ≡ 128;
  counts : (q : ℕ) → q < 128 → get_or l.counts q 0 ≡ count_from (length l.filter) l.fn.channels
      (λ c t. code_at l.fn.channels l.initial.predictions.sound c l.filter t == q) (range_with_len 0 l.c);
  most : (q : ℕ) → get_or l.counts q 0 ≤ l.c * 150528;
  sound : l.predictions.sound ≡ l.initial.predictions.sound;
  channels : l.predictions.channels ≡ l.fn.channels;
}
