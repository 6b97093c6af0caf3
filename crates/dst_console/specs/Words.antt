-- The words that the program answers itself, and those that name its files.
use Rattle.std.specs.Prelude.{ℕ, Bool, true, false, if◌then◌else◌, List, [], ◌∷◌, get_or, Option, Some, None}
use Rattle.dsdiff_spec.specs.Bytes.{◌is◌}
use Rattle.dsdiff_spec.specs.Words.{Word}
use Rattle.dst_console.specs.declared.asking.Asked.{Asked}
use Rattle.dst_console.specs.declared.asking.Asked.TheVariants.{Help, Version, HelpOf}
use Prim.Native.String.{String}

-- the names that have a help of their own: those of the commands, and `pipe`
abbrev pub names : List String
names =
    "encode" ∷ "decode" ∷ "cut" ∷ "frame" ∷ "range" ∷ "check" ∷ "show" ∷ "index" ∷ "make" ∷ "encode-dsf" ∷ "decode-dsf" ∷ "pipe" ∷ []

abbrev pub is_one_of : Word → List String → Bool
is_one_of word [] = false
is_one_of word (name ∷ names) = if word is name then true else is_one_of word names

abbrev pub has_help : Word → Bool
has_help word = is_one_of word names

-- one word that asks for help or the version, or one behind such a name that asks for its help
abbrev pub asked_of : List Word → Option Asked
asked_of (word ∷ []) = if word is "--help" then Some Help else if word is "--version" then Some Version else None
asked_of (name ∷ word ∷ []) = if word is "--help" then if has_help name then Some HelpOf else None else None
asked_of words = None

-- a word, or an empty one where there is none
abbrev pub word_of : List Word → ℕ → Word
word_of words k = get_or words k []

-- words of a pipe, whatever stands behind the first
abbrev pub begins_a_pipe : List Word → Bool
begins_a_pipe words = word_of words 0 is "pipe"
