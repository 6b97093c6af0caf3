-- What the definitions say of one command and a file, in the words of the calls.
use Rattle.std.specs.Prelude.{ℕ, List, Option, Some, None}
use Rattle.dsdiff_spec.specs.Words.{Command, show, show_frame}
use Rattle.dsdiff_spec.specs.Refusal.{refusal}
use Rattle.dsdiff_spec.specs.Outcome.{Answer, OfCommand}

-- the outcome of a command on a file
abbrev pub OutcomeOf : Command → List ℕ → Answer → Type 0
OutcomeOf c file o = OfCommand c file (refusal c file) o

-- the command that shows a file, or one of its frames
abbrev pub shown : Option ℕ → Command
shown None = show
shown (Some k) = show_frame k
