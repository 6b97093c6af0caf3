-- A code that is measured: its range and its doublings, without its low end.
use Rattle.std.specs.Prelude.{ℕ, Bool, List}
use Rattle.dst_spec.specs.Interval.{Interval, interval}
use Rattle.dst_spec.specs.Laws.{AreAlike}

-- these are the range and the doublings of the symbols' interval, the oldest first
abbrev pub Measures : Interval → List (Bool × ℕ) → Type 0
Measures m pairs = AreAlike (interval pairs) m
