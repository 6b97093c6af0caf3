-- The channels so far have their short tables, and the sound stays.
use Rattle.std.proofs.Common.{◌≡◌, [], ◌∷◌, map}
use Rattle.std.specs.List.{range_with_len}
use Rattle.level_spec.specs.Refining.{short_table}
use Rattle.level_spec.specs.Picks.{refined_alone}
use Rattle.filter_analyser.proofs.refined.own_picks.Given as goal

abbrev pub invariant-loop-c : goal.invariant-loop-c
invariant-loop-c l = record {
  sound : l.predictions.sound ≡ l.initial.predictions.sound;
  channels : l.predictions.channels ≡ l.fn.channels;
  probs : l.probs.items ≡ map (λ c. short_table l.fn.channels l.initial.predictions.sound (c ∷ [])
      (refined_alone l.fn.channels l.initial.predictions.sound c)) (range_with_len 0 l.c);
}
