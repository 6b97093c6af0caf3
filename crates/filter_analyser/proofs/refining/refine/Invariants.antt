-- The steps left from here come to what all steps do; the last filter's counts and the least size are known.
use Rattle.std.proofs.Common.{◌≡◌, ℕ, ◌-◌, ◌*◌, ◌<◌, ◌≤◌, ◌==◌, length, get_or}
use Rattle.std.specs.List.{range_with_len}
use Rattle.level_spec.specs.Counts.{count_from}
use Rattle.level_spec.specs.Refining.{Refined, next_filter, filter_size, refine}
use Rattle.frame_predictions.specs.Codes.{code_at}
use Rattle.filter_analyser.proofs.refining.refine.Given as goal

abbrev pub invariant-loop-step : goal.invariant-loop-step
invariant-loop-step l = record {
  whole : ◌≡◌ {A = Refined}
      (refine (next_filter l.fn.channels l.fn.predictions.sound (range_with_len l.fn.members.first l.fn.members.count))
      (filter_size l.fn.channels l.fn.predictions.sound (range_with_len l.fn.members.first l.fn.members.count)) (l.steps - l._step)
      (record { best = l.best; last = l.last }))
      (refine (next_filter l.fn.channels l.fn.predictions.sound (range_with_len l.fn.members.first l.fn.members.count))
      (filter_size l.fn.channels l.fn.predictions.sound (range_with_len l.fn.members.first l.fn.members.count)) l.steps
      (record { best = l.first; last = l.first }));
  counts : (q : ℕ) → q < 128 → get_or l.counts q 0 ≡ count_from (length l.last) l.fn.channels
      (λ c t. code_at l.fn.channels l.fn.predictions.sound c l.last t == q) (range_with_len l.fn.members.first l.fn.members.count);
  most : (q : ℕ) → get_or l.counts q 0 ≤ 6 * 150528;
  least : l.least ≡ filter_size l.fn.channels l.fn.predictions.sound (range_with_len l.fn.members.first l.fn.members.count) l.best;
  sound : l.predictions.sound ≡ l.fn.predictions.sound;
  channels : l.predictions.channels ≡ l.fn.channels;
}
