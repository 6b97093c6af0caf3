-- The words of a pipe: `pipe`, and the name of a file.
use Rattle.std.specs.Prelude.{Bool, false, ◌&&◌, List, [], ◌∷◌}
use Rattle.dsdiff_spec.specs.Bytes.{◌is◌}
use Rattle.dsdiff_spec.specs.Words.{Word}
use Rattle.words_spec.specs.Slots.{is_file_word}

abbrev pub is_pipe : List Word → Bool
is_pipe (name ∷ out ∷ []) = name is "pipe" && is_file_word out
is_pipe words = false
