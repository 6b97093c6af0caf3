-- A channel's two numbers as signed numbers within their bounds.
use Rattle.std.specs.Prelude.{◌≤◌, nat_abs}
use Rattle.dsdiff_spec.specs.Made.{Wave}

pub record IsBounded (wave : Wave) : Type 0 where
  pub u : nat_abs wave.u ≤ 16777216
  pub w : nat_abs wave.w ≤ 16777216
