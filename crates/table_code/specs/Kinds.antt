-- What the numbers of a kind of tables have to do with each other.
use Rattle.std.specs.Prelude.{◌≡◌, ℕ, ◌+◌, ◌^◌, ◌<◌, ◌≤◌, ℤ, pos, negsuc, ◌≤ℤ◌, length, nat_abs}
use Rattle.std.specs.List.{sum_by}
use Rattle.dst_spec.specs.Table.{Kind, InRange}
use Rattle.dst_spec.specs.Offends.{value_of}

-- lengths and values have few bits, and values are small
pub record IsSmall (K : Kind) : Type 0 where
  pub some_length : 1 ≤ K.length_bits
  pub most_length : K.length_bits ≤ 7
  pub some_value : 1 ≤ K.value_bits
  pub most_value : K.value_bits ≤ 9
  pub least : negsuc 255 ≤ℤ K.least
  pub greatest : K.greatest ≤ℤ pos 255

-- the plain values are exactly the numbers from the least to the greatest
abbrev pub HasPlainValues : Kind → Type 0
HasPlainValues K =
    ((x : ℕ) → x < 2 ^ K.value_bits → InRange K (value_of K x))
    × ((v : ℤ) → InRange K v → (x : ℕ) × (x < 2 ^ K.value_bits) × (value_of K x ≡ v))

-- method 0 has one weight, 1 has two, 2 three, whose sizes sum to at most 56
abbrev pub HasWeights : Kind → Type 0
HasWeights K = (method : ℕ) → method < 3 → (length (K.weights method) ≡ method + 1) × (sum_by nat_abs (K.weights method) ≤ 56)
