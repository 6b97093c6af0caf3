-- What coefficients add upward, in natural numbers: a signed sum is twice that less the coefficients' sizes.
use Rattle.std.specs.Prelude.{ℕ, ◌+◌, ◌==◌, if◌then◌else◌, ℤ, pos, negsuc, ◌+ℤ◌, ◌-ℤ◌, ◌*ℤ◌, nat_abs, List, [], ◌∷◌, ◌++◌, drop, replicate}
use Rattle.dst_spec.specs.Guess.{signed}

-- a number above 0, and 0 for others
abbrev pub above_zero : ℤ → ℕ
above_zero (pos n) = n
above_zero (negsuc n) = 0

-- the sum of the coefficients' sizes where `signed_sum` takes them positive, the first with the newest sample
unfoldable pub upward_sum : List ℤ → List ℕ → ℕ
upward_sum [] samples = 0
upward_sum (a ∷ coefs) [] = 0
upward_sum (a ∷ coefs) (bit ∷ samples) = above_zero (signed bit a) + upward_sum coefs samples

-- the sum of the coefficients' sizes
unfoldable pub size_sum : List ℤ → ℕ
size_sum [] = 0
size_sum (a ∷ coefs) = nat_abs a + size_sum coefs

-- the coefficients without the first eight, at their places
unfoldable pub far : List ℤ → List ℤ
far coefs = replicate 8 (pos 0) ++ drop 8 coefs

-- the coefficients behind eight zeros: the lanes of a byte's own samples
unfoldable pub shifted : List ℤ → List ℤ
shifted coefs = replicate 8 (pos 0) ++ coefs

-- the sum of the coefficients whose sample is 1, the first with the newest sample
unfoldable pub ones_sum : List ℤ → List ℕ → ℤ
ones_sum [] samples = pos 0
ones_sum (a ∷ coefs) [] = pos 0
ones_sum (a ∷ coefs) (bit ∷ samples) = (if bit == 1 then a else pos 0) +ℤ ones_sum coefs samples

-- the sum of the coefficients
unfoldable pub whole_sum : List ℤ → ℤ
whole_sum [] = pos 0
whole_sum (a ∷ coefs) = a +ℤ whole_sum coefs

-- twice the coefficients whose sample is 1, less all
abbrev pub twice_ones : List ℤ → List ℕ → ℤ
twice_ones coefs samples = pos 2 *ℤ ones_sum coefs samples -ℤ whole_sum coefs
