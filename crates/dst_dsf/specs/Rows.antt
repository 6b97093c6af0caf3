-- Rows of blocks by the bytes of sound that are in them.
use Rattle.std.specs.Prelude.{◌≡◌, ℕ, ◌+◌, ◌-◌, ◌*◌, ◌/◌, ◌%◌, ◌<◌, List, get_or, flat_map, slice_index}
use Rattle.std.specs.List.{range_with_len}
use Rattle.dsdiff_spec.specs.Dsf.{Dsf, dsf_row, sample_to}
use Rattle.dsdiff_spec.specs.Samples.{sample_in}
use Rattle.dsf_files.specs.Rows.{cleared}

-- where byte p of a row's sound, the channels' bytes in turn, stands in its blocks
abbrev pub place_in : ℕ → ℕ → ℕ
place_in channels p = 4096 * (p % channels) + p / channels

-- the samples of a sound, 0 past the last one of a DSF file
abbrev pub samples_of : Dsf → List ℕ → ℕ → ℕ → ℕ
samples_of d sound = sample_to d.samples (sample_in sound d.channels)

-- the first rows of blocks of a sound
unfoldable pub rows_of : Dsf → List ℕ → ℕ → List ℕ
rows_of d sound n = flat_map (dsf_row d (samples_of d sound)) (range_with_len 0 n)

-- a row of blocks has the bytes of a sound from this row's first one on, and 0 where there are none
abbrev pub HasRow : ℕ → List ℕ → ℕ → List ℕ → Type 0
HasRow channels sound number row =
    (p : ℕ) → p < 4096 * channels → slice_index row (place_in channels p) ≡ get_or sound (number * (4096 * channels) + p) 0

-- the last sample is within a byte of this row, and this byte
abbrev pub ends_within : Dsf → ℕ → ℕ → Type 0
ends_within d number j = (d.samples % 8 ≡ 0 → ⊥) × (d.samples / 32768 ≡ number) × (d.samples % 32768 / 8 ≡ j)

-- of each block the byte in which the last sample stands has no bits behind it, and each other one is as it was
pub record IsClearedRow (d : Dsf) (number : ℕ) (old new : List ℕ) : Type 0 where
  pub last : (c j : ℕ) → c < d.channels → j < 4096 → ends_within d number j →
      slice_index new (4096 * c + j) ≡ cleared (8 - d.samples % 8) (slice_index old (4096 * c + j))
  pub others : (c j : ℕ) → c < d.channels → j < 4096 → (ends_within d number j → ⊥) → slice_index new (4096 * c + j) ≡ slice_index old (4096 * c + j)
