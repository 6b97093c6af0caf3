-- How many bits a filter comes to, in 4096ths: an estimate from its counts.
use Rattle.std.specs.Prelude.{ℕ, zero, suc, ◌+◌, ◌-◌, ◌*◌, ◌/◌, ◌^◌, min, max, pos, ℤ, not, ◌==◌, nat_le, if◌then◌else◌, List, length, map, take, get_or}
use Rattle.dst_spec.specs.Table.{Kind, filter_kind, prob_kind, table_bits}
use Rattle.dst_spec.specs.Spell.{shortest}
use Rattle.level_spec.specs.Scale.{last_place}

-- a table without its last entry, while there are more than two and it equals the one before it
unfoldable pub shortened : List ℕ → List ℕ
shortened entries = take (max 2 (last_place (λ p. not (get_or entries p 0 == get_or entries (p - 1) 0)) (length entries))) entries

-- the sum of F over the numbers below n
unfoldable pub sum_below : (ℕ → ℕ) → ℕ → ℕ
sum_below F zero = 0
sum_below F (suc n) = sum_below F n + F n

-- a number from 1 to 2 with 31 fraction bits, and the binary digits of the logarithm that are known
pub record Logarithm : Type 0 where
  pub rest : ℕ
  pub digits : ℕ

-- one digit more: 1 where the square is 2 or greater
unfoldable pub next_digit : Logarithm → Logarithm
next_digit s =
    let square = s.rest * s.rest / 2 ^ 31 in
    if nat_le (2 ^ 32) square then record { rest = square / 2; digits = 2 * s.digits + 1 }
    else (record { rest = square; digits = 2 * s.digits })

unfoldable pub digits_after : ℕ → Logarithm → Logarithm
digits_after zero s = s
digits_after (suc n) s = next_digit (digits_after n s)

-- the greatest power of 2 that isn't greater, of numbers from 1 to 255
abbrev pub power_in : ℕ → ℕ
power_in x = last_place (λ w. nat_le (2 ^ w) x) 8 - 1

-- the bits of a symbol of probability x / 256, in 4096ths: 8 less the logarithm
unfoldable pub bits_of : ℕ → ℕ
bits_of x = 4096 * (8 - power_in x) - (digits_after 12 (record { rest = x * 2 ^ (31 - power_in x); digits = 0 })).digits

-- the bits of a table in its shortest spelling
abbrev pub spelled_bits : Kind → List ℤ → ℕ
spelled_bits K values = length (table_bits K values (shortest K values))

-- the entry of a place, which is the last one where the table is shorter
abbrev pub entry_at : List ℕ → ℕ → ℕ
entry_at entries p = get_or entries (min p (length entries - 1)) 0

-- the symbols of a place: those guessed wrong, and the others
abbrev pub place_bits : (ℕ → ℕ) → (ℕ → ℕ) → List ℕ → ℕ → ℕ
place_bits totals wrongs entries p =
    wrongs p * bits_of (entry_at entries p) + (totals p - wrongs p) * bits_of (256 - entry_at entries p)

-- of a filter with a table over so many channels: the bits of both, one for each of the first samples, and those of all symbols
unfoldable pub size : List ℤ → ℕ → (ℕ → ℕ) → (ℕ → ℕ) → List ℕ → ℕ
size coefs channels totals wrongs entries =
    4096 * (spelled_bits filter_kind coefs + spelled_bits prob_kind (map pos entries) + channels * length coefs)
    + sum_below (place_bits totals wrongs entries) 64
