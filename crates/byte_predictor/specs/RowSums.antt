-- A filter as rows of sums: what eight samples add to the predictions of those that follow.
use Rattle.std.specs.Prelude.{◌≡◌, ℕ, ◌<◌, ℤ, List, [], get_or, drop}
use Rattle.dst_spec.specs.Table.{filter_kind, IsTable}
use Rattle.byte_predictor.specs.Samples.{rising_bits}
use Rattle.byte_predictor.specs.Upward.{upward_sum, size_sum, far}

-- Row `byte` has for each lane what a byte of samples adds to the sample that follows after that many others, by the
-- coefficients from the ninth on; `near` has what the newest eight samples add by the first eight coefficients.
pub record HasRows (coefs : List ℤ) (rows : List (List ℕ)) (near : List ℕ) (size : ℕ) : Type 0 where
  pub table : IsTable filter_kind coefs
  pub added : (byte lane : ℕ) → byte < 256 → lane < 128 → get_or (get_or rows byte []) lane 0 ≡ upward_sum (drop lane (far coefs)) (rising_bits 8 byte)
  pub newest : (byte : ℕ) → byte < 256 → get_or near byte 0 ≡ upward_sum coefs (rising_bits 8 byte)
  pub sizes : size ≡ size_sum coefs
