-- The frames that are found up to some chunk.
use Rattle.std.specs.Prelude.{if◌then◌else◌, List, [], ◌∷◌, ◌++◌}
use Rattle.dsdiff_spec.specs.Bytes.{◌is◌}
use Rattle.dsdiff_spec.specs.Chunks.{Head}
use Rattle.dsdiff_spec.specs.Walk.{Entry, entry_of}

-- those found before, and a `DSTF` behind them
abbrev pub found_with : Head → List Entry → List Entry
found_with h found = if h.id is "DSTF" then found ++ entry_of h ∷ [] else found
