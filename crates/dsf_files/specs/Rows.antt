-- Rows of blocks, and bytes of sound.
use Rattle.std.specs.Prelude.{◌≡◌, ℕ, ◌+◌, ◌*◌, ◌/◌, ◌^◌, ◌<◌, ◌==◌, if◌then◌else◌, List, slice_index, Option, Some, None}
use Rattle.std.specs.Int.{w8, reverse_bits}
use Rattle.std.specs.Coded.{Unit-prop}
use Rattle.std.proofs.Props.{props}
use Rattle.dst_spec.specs.Bits.{number_from}
use Rattle.dsdiff_spec.specs.Dsf.{dsf_of, dsf_sample, octets}
use Rattle.dsdiff_spec.specs.Samples.{eight}

-- a byte with its bits the other way round, and one whose low bits are cleared
abbrev pub turned : ℕ → ℕ
turned byte = reverse_bits w8 byte

-- the byte of a block with its earliest sample in the most significant bit
abbrev pub in_order : ℕ → ℕ → ℕ
in_order order byte = if order == 1 then turned byte else byte

abbrev pub cleared : ℕ → ℕ → ℕ
cleared bits byte = byte / 2 ^ bits * 2 ^ bits

-- in each of some blocks one byte is cleared, and no other
abbrev pub IsCleared : List ℕ → List ℕ → (channels octet bits : ℕ) → Type 0
IsCleared old new channels octet bits =
    ((c : ℕ) → c < channels → slice_index new (4096 * c + octet) ≡ cleared bits (slice_index old (4096 * c + octet)))
    × ((c j : ℕ) → c < channels → j < 4096 → (j ≡ octet → ⊥) → slice_index new (4096 * c + j) ≡ slice_index old (4096 * c + j))

-- the byte of sound of a channel
abbrev pub sound_byte : List ℕ → ℕ → ℕ → ℕ
sound_byte f c i = number_from (eight (dsf_sample f) c i) 0 8

-- a row of the file's blocks has the sound's bytes, as far as there is sound
abbrev pub IsRowOf : List ℕ → ℕ → List ℕ → Type 0
IsRowOf f number row =
    (c j : ℕ) → c < (dsf_of f).channels → j < 4096 → 4096 * number + j < octets (dsf_of f) →
    slice_index row (4096 * c + j) ≡ sound_byte f c (4096 * number + j)

-- the row of this number, where there is one and the bytes are told
abbrev pub HoldsRow : Option ℕ → Option (List ℕ) → List ℕ → Type 0
HoldsRow None told row = Unit {0}
HoldsRow (Some number) None row = Unit {0}
HoldsRow (Some number) (Some f) row = IsRowOf f number row

-- which has one proof at most
pub HoldsRow-prop : (held : Option ℕ) (told : Option (List ℕ)) (row : List ℕ) → IsProp (HoldsRow held told row)
HoldsRow-prop None told row = Unit-prop
HoldsRow-prop (Some number) None row = Unit-prop
HoldsRow-prop (Some number) (Some f) row = Prim.hlevel props
