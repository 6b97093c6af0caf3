-- Probabilities in seven bits.
use Rattle.std.specs.Prelude.{ℕ, ◌==◌, if◌then◌else◌}

-- the probability in seven bits, where 128 is 0
abbrev pub prob_in : ℕ → ℕ
prob_in low = if low == 0 then 128 else low
