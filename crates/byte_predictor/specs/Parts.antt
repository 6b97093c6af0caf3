-- Sums of eight coefficients at a time, looked up by the byte of their samples.
use Rattle.std.specs.Prelude.{◌≡◌, ℕ, ◌*◌, ◌<◌, ℤ, pos, List, [], get_or, drop}
use Rattle.dst_spec.specs.Table.{filter_kind, IsTable}
use Rattle.byte_predictor.specs.Samples.{rising_bits, signed_sum}

-- the sum of the coefficients from 8 j on with the samples of a byte
abbrev pub part_sum : List ℤ → ℕ → ℕ → ℤ
part_sum coefs j byte = signed_sum (drop (8 * j) coefs) (rising_bits 8 byte)

-- sixteen tables of such sums
pub record HasParts (coefs : List ℤ) (parts : List (List ℤ)) : Type 0 where
  pub table : IsTable filter_kind coefs
  pub sums : (j byte : ℕ) → j < 16 → byte < 256 → get_or (get_or parts j []) byte (pos 0) ≡ part_sum coefs j byte
