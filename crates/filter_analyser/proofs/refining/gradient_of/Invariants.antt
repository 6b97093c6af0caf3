-- The gradient is over the channels so far, bounded by what each can add, and the sound stays.
use Rattle.std.proofs.Common.{◌≡◌, ℕ, ◌*◌, ◌<◌, ◌≤◌, pos, nat_abs, length, get_or}
use Rattle.std.specs.List.{range_with_len}
use Rattle.level_spec.specs.Refining.{gradient}
use Rattle.frame_predictions.specs.Codes.{code_at}
use Rattle.filter_analyser.proofs.refining.gradient_of.Given as goal

abbrev pub invariant-loop-c : goal.invariant-loop-c
invariant-loop-c l = record {
  gradient : (j : ℕ) → j < 128 → get_or l.gradient j (pos 0) ≡ gradient l.fn.channels l.initial.predictions.sound
      (λ c t. get_or l.weights (code_at l.fn.channels l.initial.predictions.sound c l.filter t) 0) (length l.filter)
      (range_with_len l.fn.members.first l.c) j;
  small : (j : ℕ) → nat_abs (get_or l.gradient j (pos 0)) ≤ l.c * (150528 * 255);
  sound : l.predictions.sound ≡ l.initial.predictions.sound;
  channels : l.predictions.channels ≡ l.fn.channels;
}
