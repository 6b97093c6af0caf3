-- What rounding the values left gives, with the coefficients behind, is all; no value grows by more than 2 ^ 32 a round.
use Rattle.std.proofs.Common.{◌≡◌, ℕ, ◌+◌, ◌-◌, ◌*◌, ◌^◌, ◌≤◌, ◌++◌, pos, nat_abs, drop, length, get_or}
use Rattle.level_spec.specs.Fitting.{fit_down}
use Rattle.filter_refiner.proofs.fitting.round_all.Given as goal

abbrev pub invariant-loop-behind : goal.invariant-loop-behind
invariant-loop-behind l = record {
  long : length l.coefs ≡ 128;
  values : length l.values ≡ 128;
  fits : fit_down l.rows l.values (128 - l.behind) ++ drop (128 - l.behind) l.coefs ≡ fit_down l.rows l.fn.values 128;
  small : (k : ℕ) → nat_abs (get_or l.values k (pos 0)) ≤ 255 * 2 ^ 24 + l.behind * 2 ^ 32;
}
