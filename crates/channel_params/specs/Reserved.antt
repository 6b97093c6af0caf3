-- Bits in reversed order.
use Rattle.std.specs.Prelude.{ℕ, zero, suc, ◌+◌, ◌*◌, ◌/◌, ◌%◌, ◌^◌}

-- the number of the n low bits in reversed order
unfoldable pub turned : ℕ → ℕ → ℕ
turned zero x = 0
turned (suc n) x = 2 * turned n x + x / 2 ^ n % 2
