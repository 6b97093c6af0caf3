-- The rules of a DSF file, by its size and its first 92 bytes.
use Rattle.std.specs.Prelude.{ℕ, ◌+◌, ◌*◌, Bool, not, ◌&&◌, ◌||◌, ◌==◌, List, Option}
use Rattle.dsdiff_spec.specs.Bytes.{bytes_at, ◌is◌, ◌below◌, ◌above◌}
use Rattle.dsdiff_spec.specs.Dsf.{Dsf, little_at, dsf_of, octets, bytes_of_blocks}
use Rattle.dsdiff_spec.specs.Faults.{◌when◌, ◌otherwise◌}
use Rattle.dsdiff_spec.specs.Form.{frames_for}
use Rattle.dsdiff_spec.specs.Origin.{outside}
use Rattle.dsdiff_spec.specs.Rules.{is_rate}
use Rattle.dsdiff_spec.specs.declared.faults.FileFault.{FileFault}
use Rattle.dsdiff_spec.specs.declared.faults.FileFault.TheVariants.{Channels, Rate, TooManyFrames, Overrun, DsfForm, DsfFormat, DsfCount}

-- ids, sizes and format
abbrev pub has_ids : List ℕ → Bool
has_ids f = bytes_at f 0 4 is "DSD " && bytes_at f 28 4 is "fmt " && bytes_at f 80 4 is "data"

abbrev pub are_sizes : ℕ → ℕ → Bool
are_sizes first second = first == 28 && second == 52

abbrev pub is_format : (version format bits block : ℕ) → Bool
is_format version format bits block = version == 1 && format == 0 && block == 4096 && (bits == 1 || bits == 8)

abbrev pub layout_fault : List ℕ → Option FileFault
layout_fault f =
    DsfForm when not (has_ids f && are_sizes (little_at f 4 8) (little_at f 32 8))
    otherwise DsfFormat when not (is_format (little_at f 40 4) (little_at f 44 4) (little_at f 60 4) (little_at f 72 4))

-- channels and rate
abbrev pub channels_fault : ℕ → ℕ → Option FileFault
channels_fault count rate = Channels when outside 1 6 count otherwise Rate when not (is_rate rate)

-- how many samples there are, and how large their blocks, in a file of some size
abbrev pub size_fault : ℕ → ℕ → Dsf → Option FileFault
size_fault size said d =
    TooManyFrames when frames_for (4704 * d.multiple) (octets d) above 1000000
    otherwise DsfCount d.samples said when said below 12 + bytes_of_blocks d
    otherwise Overrun 80 when 92 + bytes_of_blocks d above size

abbrev pub header_fault : ℕ → List ℕ → Option FileFault
header_fault size f =
    layout_fault f otherwise channels_fault (little_at f 52 4) (little_at f 56 4) otherwise size_fault size (little_at f 84 8) (dsf_of f)
