-- What reading a part of a frame's fields gives.
use Rattle.std.specs.Prelude.{◌≡◌, ℕ, ◌-◌, List, ◌∷◌, Ok}
use Rattle.dst_spec.specs.Fields.{Fields, gives, ◌>>=◌, read}
use Rattle.dst_spec.specs.Offends.{map_number_fields}
use Rattle.bit_io.specs.Reading.{Reading, left}

-- the fields are there and meet their rules, whatever they give and wherever the reader goes
abbrev pub IsReadable : {A : Type 0} → Fields A → Reading → Type 0
IsReadable {A} part old = (given : A × List ℕ × ℕ) × (read part (left old) old.place ≡ Ok given)

-- element 0, and a number for each later channel
abbrev pub element_fields : ℕ → Fields (List ℕ)
element_fields channels = map_number_fields (channels - 1) 1 >>= (λ es. gives (0 ∷ es))
