-- Symbols with their probabilities as bytes.
use Rattle.std.specs.Prelude.{ℕ, ◌+◌, ◌-◌, ◌%◌, nat_lt, not, Bool, false, min, if◌then◌else◌, List, ◌∷◌, map, length, get_or}
use Rattle.dst_spec.specs.Header.{Params}
use Rattle.dst_spec.specs.Symbols.{reserved_probability}
use Rattle.frame_store.specs.Probs.{prob_in}

-- a symbol in the highest bit, and its probability in the low seven bits, where 128 is 0
abbrev pub pair_of : ℕ → Bool × ℕ
pair_of byte = (not (nat_lt byte 128), prob_in (byte % 128))

-- the byte of a symbol 1 or 0, by the code of its sample, with a probability
abbrev pub byte_of : ℕ → ℕ → ℕ
byte_of code p = p % 128 + (if nat_lt code 64 then 128 else 0)

-- the byte of a sample, by its code: an early one has the probability 128, another one that at its place
abbrev pub symbol_byte : List ℕ → Bool → ℕ → ℕ
symbol_byte probs early code = byte_of code (if early then 128 else get_or probs (min (code % 64) (length probs - 1)) 0)

-- the symbols of a frame, the reserved one 0 and in front of the others
abbrev pub all_pairs : Params → List ℕ → List (Bool × ℕ)
all_pairs P bytes = (false, reserved_probability P) ∷ map pair_of bytes
