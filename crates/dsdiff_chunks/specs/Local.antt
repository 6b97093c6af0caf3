-- Whether the body of a chunk in `PROP` is refused.
use Rattle.std.specs.Prelude.{ℕ, ◌+◌, ◌*◌, Bool, not, ◌||◌, ◌==◌, List, length, take}
use Rattle.byteorder.specs.Endian.{big_number}
use Rattle.dsdiff_spec.specs.Bytes.{◌is◌, ◌below◌}
use Rattle.dsdiff_spec.specs.Origin.{outside}
use Rattle.dsdiff_spec.specs.Rules.{is_rate}

-- of `FS  `: it is one of the three rates
abbrev pub is_bad_rate : List ℕ → Bool
is_bad_rate body = not (length body == 4) || not (is_rate (big_number 4 body))

-- of `CHNL`: 1 to 6 channels, and an id of each
abbrev pub is_bad_count : List ℕ → Bool
is_bad_count body =
    length body below 2 || outside 1 6 (big_number 2 body) || length body below 2 + 4 * big_number 2 body

-- of `CMPR`
abbrev pub is_bad_compression : List ℕ → Bool
is_bad_compression body = length body below 4 || not (take 4 body is "DSD " || take 4 body is "DST ")
