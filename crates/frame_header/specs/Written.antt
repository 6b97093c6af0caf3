-- The parts of a header's spelling.
use Rattle.std.specs.Prelude.{◌≡◌, ℕ, ◌+◌, if◌then◌else◌, List, ◌∷◌, ◌++◌, length, map, flat_map, ℤ}
use Rattle.dst_spec.specs.Table.{Kind, table_bits}
use Rattle.dst_spec.specs.Header.{Params, bit_of}
use Rattle.dst_spec.specs.Spell.{shortest, map_spelling, same_numbers}
use Rattle.bit_io.specs.Writing.{Writing}

-- both maps, given at once where they are equal
abbrev pub both_maps_spelling : List ℕ → List ℕ → List ℕ
both_maps_spelling filter_map prob_map =
    if same_numbers filter_map prob_map then 1 ∷ map_spelling filter_map else (0 ∷ map_spelling filter_map ++ map_spelling prob_map)

-- coded, the shortest segmentation, the maps, the half bits
abbrev pub front_spelling : Params → List ℕ
front_spelling P = 1 ∷ 1 ∷ 1 ∷ 1 ∷ both_maps_spelling P.filter_map P.prob_map ++ map bit_of P.half_prob

-- tables one after the other, each in its shortest spelling
abbrev pub tables_spelling : {T : Type 0} → Kind → (T → List ℤ) → List T → List ℕ
tables_spelling K values tables = flat_map (λ t. table_bits K (values t) (shortest K (values t))) tables

-- a writer has written these bits more, and has room for so many fewer
pub record Wrote (old : Writing) (w : List ℕ) (new : Writing) : Type 0 where
  pub bits : new.bits ≡ old.bits ++ w
  pub room : new.room + length w ≡ old.room
