-- Parts of a table as they are read one after the other.
use Rattle.std.specs.Prelude.{ℕ, ◌-◌, ℤ, ◌-ℤ◌, List, ◌++◌, length, reverse}
use Rattle.dst_spec.specs.Table.{Kind, eighth}
use Rattle.dst_spec.specs.Fields.{Fields, gives, residual, ◌>>=◌}
use Rattle.dst_spec.specs.Offends.{times, plain_fields, range_rule, later_fields}

-- a value behind earlier ones, the nearest first
abbrev pub later_field : Kind → List ℤ → ℕ → List ℤ → Fields ℤ
later_field K weights m earlier = residual m (λ r. range_rule K (r -ℤ eighth weights earlier)) (λ r. gives (r -ℤ eighth weights earlier))

-- the values of a table of count values, those in front being known: the others plain, or each by its residual
abbrev pub plain_rest : Kind → ℕ → List ℤ → Fields (List ℤ)
plain_rest K count front = times (count - length front) (plain_fields K) >>= (λ vs. gives (front ++ vs))

abbrev pub later_rest : Kind → List ℤ → ℕ → ℕ → List ℤ → Fields (List ℤ)
later_rest K weights m count front = later_fields K weights m (count - length front) (reverse front) >>= (λ vs. gives (front ++ vs))
