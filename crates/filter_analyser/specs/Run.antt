-- A run of the recursion, and what it answers.
use Rattle.std.specs.Prelude.{◌-◌, ◌^◌, ◌≤◌, ℤ, pos, ◌≤ℤ◌, nat_abs, List, ◌++◌, length, replicate}
use Rattle.std.specs.List.{AllByRecursion}
use Rattle.level_spec.specs.Recursion.{State}

-- the error is from 1 to 2 ^ 45, and there are at most 128 values of at most 40 bits
pub record IsRun (s : State) : Type 0 where
  pub positive : pos 1 ≤ℤ s.error
  pub most : s.error ≤ℤ pos (2 ^ 45)
  pub few : length s.values ≤ 128
  pub small : AllByRecursion (λ a. nat_abs a ≤ 2 ^ 40) s.values

-- 128 values: those given, and zeros behind them
abbrev pub padded : List ℤ → List ℤ
padded values = values ++ replicate (128 - length values) (pos 0)
