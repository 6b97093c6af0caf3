-- A solution of order 32 needs no correlation behind lag 32, so that zeros may stand there.
use Rattle.std.proofs.Common.{◌≡◌, ℕ, ◌-◌, ◌<◌, ◌≤◌, ℤ, pos, nat_abs, List, [], ◌∷◌, ◌++◌, length, replicate, inl, inr, ap, sym, ◌∙◌, arith}
use Rattle.std.proofs.lemmas.Bool.{cases_lt}
use Rattle.std.proofs.lemmas.List.FromFn.{get_or-map-range_with_len}
use Rattle.dst_spec.specs.Sample.{Shape}
use Rattle.level_spec.specs.Correlation.{correlation, joint_correlation, correlations}
use Rattle.level_spec.specs.Recursion.{lag, solution}
use Rattle.level_spec.specs.Laws.{AreCorrelations}
use Rattle.level_spec.proofs.Sizes.{are_correlations}
use Rattle.level_spec.proofs.Steps.{after-same}
use Rattle.filter_analyser.specs.Run.{padded}
use Rattle.filter_refiner.proofs.Numbers.{zeros-at}
use Rattle.filter_analyser.proofs.Correlating.{alone}
use Rattle.filter_analyser.proofs.picker.solve_short.Goals as goal

-- a solution needs no correlation behind its order
solution-same : (lags others : List ℤ) (n : ℕ) → ((k : ℕ) → k ≤ n → lag lags k ≡ lag others k) → solution lags n ≡ solution others n
unfolding solution
solution-same lags others n h = ap (λ s. s.values ++ replicate (n - length s.values) (pos 0)) (after-same lags others n h)

-- the correlation of a channel in its list
at-lag : (f : Shape) (sound : List ℕ) (c k : ℕ) → k < 129 → lag (correlations f sound (c ∷ [])) k ≡ correlation f sound c k
at-lag f sound c k lt = get_or-map-range_with_len (λ k. joint_correlation f sound (c ∷ []) k) 0 129 k k (pos 0) lt (omega arith) ∙ sym (alone f sound c k)

-- the first ones of correlations, and zeros behind them
first-lawful : (lags others : List ℤ) (n : ℕ) → AreCorrelations others → ((k : ℕ) → k ≤ n → lag lags k ≡ lag others k) →
    ((k : ℕ) → n < k → lag lags k ≡ pos 0) → AreCorrelations lags
first-lawful lags others n h same zeros =
    let first = same 0 (omega arith) in
    record {
      least = rw first h.least;
      most = rw first h.most;
      others = λ k. elim (cases_lt n k) [
        | inl behind ↦ let none : nat_abs (lag lags k) ≡ 0 = ap nat_abs (zeros k behind) in omega arith
        | inr le ↦ rw (first, same k le) (h.others k)
      ];
    }

pub solve_filter-requires-clause-correlations : goal.solve_filter-requires-clause-correlations
solve_filter-requires-clause-correlations c =
    let f = c.args.channels in
    let sound = c.args.sound.now in
    let ch = c.args.channel in
    let v = c.correlate_first.ensures in
    first-lawful c.correlate_first.new.lags (correlations f sound (ch ∷ [])) 32 (are_correlations f sound (ch ∷ []) v.shape (omega arith) (omega arith))
    (λ k le. v.lags k (omega arith) ∙ sym (at-lag f sound ch k (omega arith)))
    (λ k lt. v.behind k (omega arith) ∙ zeros-at 129 k)

pub returns : goal.returns
returns c =
    let f = c.args.channels in
    let sound = c.args.sound.now in
    let ch = c.args.channel in
    c.solve_filter.ensures ∙ ap padded (solution-same c.correlate_first.new.lags (correlations f sound (ch ∷ [])) 32
    (λ k le. c.correlate_first.ensures.lags k (omega arith) ∙ sym (at-lag f sound ch k (omega arith))))
