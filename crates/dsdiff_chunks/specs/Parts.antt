-- Whether a part of a body of `KEPT` is refused.
use Rattle.std.specs.Prelude.{ℕ, ◌%◌, Bool, not, ◌&&◌, ◌||◌, ◌==◌, List}
use Rattle.dsdiff_spec.specs.Bytes.{bytes_at, number_at, ◌is◌, ◌below◌}
use Rattle.dsdiff_spec.specs.Form.{Origin, frames_for}
use Rattle.dsdiff_spec.specs.Origin.{origin_version, bad_version_1, bad_version_2, is_one_chunk}
use Rattle.dsdiff_chunks.specs.declared.origin.OriginParts.{OriginParts}

-- its version and that version's fields
abbrev pub is_bad_version : List ℕ → Bool
is_bad_version body =
    not (origin_version body == 1 || origin_version body == 2)
    || (origin_version body == 1 && bad_version_1 body)
    || (origin_version body == 2 && bad_version_2 body)

-- its `CMPR`, which is one whole chunk and says that the sound is plain
abbrev pub is_bad_cmpr : List ℕ → Bool
is_bad_cmpr w = not (is_one_chunk "CMPR" w) || number_at w 4 8 below 4 || not (bytes_at w 12 4 is "DSD ")

-- the size of its sound
abbrev pub is_bad_sound : ℕ → ℕ → ℕ → ℕ → Bool
is_bad_sound channels bytes count sound = not (sound % channels == 0) || not (frames_for bytes sound == count)

abbrev pub parts_seen : OriginParts → Origin
parts_seen p = record { sound = p.sound; pad = p.pad; cmpr = p.cmpr.now; kept = p.kept.now }
