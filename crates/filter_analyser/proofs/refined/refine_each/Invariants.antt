-- The channels so far have their refined filters, and the sound stays.
use Rattle.std.proofs.Common.{◌≡◌, [], ◌∷◌, map}
use Rattle.std.specs.List.{range_with_len}
use Rattle.level_spec.specs.Refining.{refined_from}
use Rattle.filter_analyser.proofs.refined.refine_each.Given as goal

abbrev pub invariant-loop-c : goal.invariant-loop-c
invariant-loop-c l = record {
  sound : l.predictions.sound ≡ l.initial.predictions.sound;
  channels : l.predictions.channels ≡ l.initial.predictions.channels;
  own : l.own.items ≡ map (λ c. (refined_from l.fn.channels l.sound (c ∷ []) 6 l.first).best) (range_with_len 0 l.c);
}
