-- A channel's latest samples as a list of bits, the newest first, and what filter coefficients predict from them.
use Rattle.std.specs.Prelude.{◌≡◌, ℕ, zero, suc, ◌/◌, ◌%◌, ◌<◌, ◌≤◌, ℤ, pos, ◌+ℤ◌, ◌-ℤ◌, List, [], ◌∷◌, ◌++◌, length, get_or}
use Rattle.dst_spec.specs.Sample.{Shape, sample}
use Rattle.dst_spec.specs.Guess.{signed}

-- the n low bits of a number, the least significant first
unfoldable pub rising_bits : ℕ → ℕ → List ℕ
rising_bits zero x = []
rising_bits (suc n) x = x % 2 ∷ rising_bits n (x / 2)

-- the samples of bytes, eight a byte: the newest in the least significant bit of the first byte
unfoldable pub samples_of : List ℕ → List ℕ
samples_of [] = []
samples_of (byte ∷ bytes) = rising_bits 8 byte ++ samples_of bytes

-- the sum of the coefficients, the first with the newest sample: each positive where its sample is 1, negative where it is 0
unfoldable pub signed_sum : List ℤ → List ℕ → ℤ
signed_sum [] samples = pos 0
signed_sum (a ∷ coefs) [] = pos 0
signed_sum (a ∷ coefs) (bit ∷ samples) = signed bit a +ℤ signed_sum coefs samples

-- The samples end with those of channel c before t, as far back as a filter reaches.
pub record IsBefore (f : Shape) (sound : List ℕ) (c t : ℕ) (samples : List ℕ) : Type 0 where
  pub long : 128 ≤ length samples
  pub each : (j : ℕ) → j < 128 → get_or samples j 0 ≡ sample f sound c (pos t -ℤ pos (suc j))
