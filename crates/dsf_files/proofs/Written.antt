-- The header of a DSF file in the pieces in which it is written.
use Rattle.std.proofs.Common.{◌≡◌, ℕ, ◌+◌, ◌*◌, List, [], ◌∷◌, ◌++◌, refl}
use Rattle.std.specs.Prelude.{codes}
use Rattle.byteorder.specs.Endian.{little_bytes}
use Rattle.dsdiff_spec.specs.Dsf.{Dsf, bytes_of_blocks, dsf_header}

abbrev pub beginning : List ℕ
beginning = codes "DSD " ++ 28 ∷ 0 ∷ 0 ∷ 0 ∷ 0 ∷ 0 ∷ 0 ∷ 0 ∷ []

abbrev pub format : List ℕ
format = 0 ∷ 0 ∷ 0 ∷ 0 ∷ 0 ∷ 0 ∷ 0 ∷ 0 ∷ codes "fmt " ++ 52 ∷ 0 ∷ 0 ∷ 0 ∷ 0 ∷ 0 ∷ 0 ∷ 0 ∷ 1 ∷ 0 ∷ 0 ∷ 0 ∷ 0 ∷ 0 ∷ 0 ∷ 0 ∷ []

abbrev pub blocks : List ℕ
blocks = 0 ∷ 16 ∷ 0 ∷ 0 ∷ 0 ∷ 0 ∷ 0 ∷ 0 ∷ codes "data"

pub header_in_pieces : (d : Dsf) (size type channels rate bits samples of_data : List ℕ) →
    size ≡ little_bytes 8 (92 + bytes_of_blocks d) → type ≡ little_bytes 4 d.type → channels ≡ little_bytes 4 d.channels →
    rate ≡ little_bytes 4 (2822400 * d.multiple) → bits ≡ little_bytes 4 d.bits → samples ≡ little_bytes 8 d.samples →
    of_data ≡ little_bytes 8 (12 + bytes_of_blocks d) →
    beginning ++ (size ++ (format ++ (type ++ (channels ++ (rate ++ (bits ++ (samples ++ (blocks ++ (of_data ++ []))))))))) ≡ dsf_header d
header_in_pieces d size type channels rate bits samples of_data p q r s t u v = rw (p, q, r, s, t, u, v) refl
