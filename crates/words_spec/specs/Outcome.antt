-- The one outcome of words and a file.
use Rattle.std.specs.Prelude.{◌≡◌, ℕ, List, Option, Some, None}
use Rattle.dsdiff_spec.specs.Words.{Word, Command}
use Rattle.dsdiff_spec.specs.Refusal.{refusal}
use Rattle.dsdiff_spec.specs.Outcome.{Answer, not_understood, OfCommand}
use Rattle.words_spec.specs.Rows.{command_of}

abbrev pub OfWords : Option Command → List ℕ → Answer → Type 0
OfWords None file o = o ≡ not_understood
OfWords (Some c) file o = OfCommand c file (refusal c file) o

abbrev pub Outcome : List Word → List ℕ → Answer → Type 0
Outcome words file o = OfWords (command_of words) file o
