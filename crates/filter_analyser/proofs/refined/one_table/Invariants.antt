-- The codes of the channels so far, each by its own filter, are counted, at most 150,528 of each.
use Rattle.std.proofs.Common.{◌≡◌, ℕ, ◌*◌, ◌<◌, ◌≤◌, length, get_or}
use Rattle.std.specs.List.{range_with_len}
use Rattle.level_spec.specs.Picks.{refined_alone, sum_of}
use Rattle.filter_analyser.proofs.Joining.{codes_of}
use Rattle.filter_analyser.proofs.refined.one_table.Given as goal

abbrev pub invariant-loop-c : goal.invariant-loop-c
invariant-loop-c l = record {
  long : length l.counts ≡ 128;
  counts : (q : ℕ) → q < 128 → get_or l.counts q 0 ≡ sum_of (codes_of l.fn.channels l.initial.predictions.sound
      (refined_alone l.fn.channels l.initial.predictions.sound)) (range_with_len 0 l.c) q;
  most : (q : ℕ) → get_or l.counts q 0 ≤ l.c * 150528;
  sound : l.predictions.sound ≡ l.initial.predictions.sound;
  channels : l.predictions.channels ≡ l.fn.channels;
}
