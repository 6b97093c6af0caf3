-- The weights of the places so far are known, of right guesses and of wrong ones.
use Rattle.std.proofs.Common.{◌≡◌, ℕ, ◌+◌, ◌<◌, true, false, length, get_or}
use Rattle.level_spec.specs.Refining.{weight}
use Rattle.filter_refiner.proofs.steps.weights_of.Given as goal

abbrev pub invariant-loop-place : goal.invariant-loop-place
invariant-loop-place l = record {
  long : length l.weights ≡ 128;
  right : (p : ℕ) → p < l.place → get_or l.weights p 0
      ≡ weight (λ p. get_or l.counts p 0 + get_or l.counts (p + 64) 0) (λ p. get_or l.counts (p + 64) 0) p false;
  wrong : (p : ℕ) → p < l.place → get_or l.weights (p + 64) 0
      ≡ weight (λ p. get_or l.counts p 0 + get_or l.counts (p + 64) 0) (λ p. get_or l.counts (p + 64) 0) p true;
}
