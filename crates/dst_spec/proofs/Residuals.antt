-- Residuals, worked out: spelled, read back, and cut.
use Rattle.std.proofs.Common.{◌≡◌, ℕ, ℤ, pos, negsuc, [], ◌∷◌, refl, Ok, Err}
use Rattle.dst_spec.specs.Bits.{low_bits, bits}
use Rattle.dst_spec.specs.Rice.{rice}
use Rattle.dst_spec.specs.Fields.{Fields, gives, residual, any, read}
use Rattle.dst_spec.specs.declared.faults.Reason.TheVariants.{Truncated}
use Rattle.dst_spec.proofs.Examples.{at, fields_open}

pub rice_of_zero : rice (pos 0) 0 ≡ 1 ∷ []
unfolding low_bits
rice_of_zero = refl

pub rice_of_minus_one : rice (negsuc 0) 0 ≡ 0 ∷ 1 ∷ 1 ∷ []
unfolding low_bits
rice_of_minus_one = refl

pub rice_of_five : rice (pos 5) 1 ≡ 0 ∷ 0 ∷ 1 ∷ 1 ∷ 0 ∷ []
unfolding low_bits
rice_of_five = refl

pub rice_of_minus_five : rice (negsuc 4) 1 ≡ 0 ∷ 0 ∷ 1 ∷ 1 ∷ 1 ∷ []
unfolding low_bits
rice_of_minus_five = refl

pub rice_of_zero_by_four : rice (pos 0) 2 ≡ 1 ∷ 0 ∷ 0 ∷ []
unfolding low_bits
rice_of_zero_by_four = refl

-- read back, with what follows and its place
abbrev one_residual : ℕ → Fields ℤ
one_residual m = residual m any gives

pub zero_is_read : read (one_residual 0) (1 ∷ 0 ∷ []) 0 ≡ Ok (pos 0, 0 ∷ [], 1)
unfolding fields_open
zero_is_read = refl

pub minus_one_is_read : read (one_residual 0) (0 ∷ 1 ∷ 1 ∷ 1 ∷ []) 0 ≡ Ok (negsuc 0, 1 ∷ [], 3)
unfolding fields_open
minus_one_is_read = refl

pub five_is_read : read (one_residual 1) (0 ∷ 0 ∷ 1 ∷ 1 ∷ 0 ∷ 1 ∷ []) 7 ≡ Ok (pos 5, 1 ∷ [], 12)
unfolding fields_open
five_is_read = refl

pub minus_five_is_read : read (one_residual 1) (0 ∷ 0 ∷ 1 ∷ 1 ∷ 1 ∷ 0 ∷ []) 7 ≡ Ok (negsuc 4, 0 ∷ [], 12)
unfolding fields_open
minus_five_is_read = refl

pub zero_by_four_is_read : read (one_residual 2) (1 ∷ 0 ∷ 0 ∷ 1 ∷ []) 0 ≡ Ok (pos 0, 1 ∷ [], 3)
unfolding fields_open
zero_by_four_is_read = refl

-- a residual that ends before its one, before its low bits or before its sign is cut
pub no_one_is_cut : read (one_residual 0) (bits (0 ∷ [])) 0 ≡ Err (at Truncated 0)
unfolding fields_open
no_one_is_cut = refl

pub low_bits_are_cut : read (one_residual 2) (0 ∷ 1 ∷ 0 ∷ []) 9 ≡ Err (at Truncated 9)
unfolding fields_open
low_bits_are_cut = refl

pub sign_is_cut : read (one_residual 0) (0 ∷ 1 ∷ []) 4 ≡ Err (at Truncated 4)
unfolding fields_open
sign_is_cut = refl
