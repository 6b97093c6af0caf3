-- The channels so far have their filters and tables, and the sound stays.
use Rattle.std.proofs.Common.{◌≡◌, [], ◌∷◌, map}
use Rattle.std.specs.List.{range_with_len}
use Rattle.level_spec.specs.Counts.{counted}
use Rattle.level_spec.specs.Picks.{filter_for}
use Rattle.filter_analyser.proofs.picks.per_channel.Given as goal

abbrev pub invariant-loop-c : goal.invariant-loop-c
invariant-loop-c l = record {
  sound : l.predictions.sound ≡ l.initial.predictions.sound;
  channels : l.predictions.channels ≡ l.channels;
  filters : l.filters.items ≡ map (λ c. filter_for l.channels l.initial.predictions.sound l.order (c ∷ [])) (range_with_len 0 l.c);
  probs : l.probs.items ≡ map (λ c. counted l.channels l.initial.predictions.sound (c ∷ [])
      (filter_for l.channels l.initial.predictions.sound l.order (c ∷ []))) (range_with_len 0 l.c);
}
