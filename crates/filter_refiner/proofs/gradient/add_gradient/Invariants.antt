-- The lags so far have their sums added, and those to come are as at first.
use Rattle.std.proofs.Common.{◌≡◌, ℕ, ◌<◌, ◌≤◌, pos, ◌+ℤ◌, length, get_or}
use Rattle.level_spec.specs.Refining.{weighted_agreement}
use Rattle.filter_refiner.proofs.gradient.add_gradient.Given as goal

abbrev pub invariant-loop-lag : goal.invariant-loop-lag
invariant-loop-lag l = record {
  long : length l.gradient ≡ 128;
  done : (j : ℕ) → j < l.lag → get_or l.gradient j (pos 0) ≡ get_or l.initial.gradient j (pos 0)
      +ℤ weighted_agreement l.fn.channels l.sound (λ c t. get_or l.weights (get_or l.codes t 0) 0) l.first l.channel j;
  rest : (j : ℕ) → l.lag ≤ j → get_or l.gradient j (pos 0) ≡ get_or l.initial.gradient j (pos 0);
}
