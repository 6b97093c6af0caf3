-- Words that begin with `pipe` are no command.
use Rattle.std.proofs.Common.{◌≡◌, List, [], ◌∷◌, refl, true, None}
use Rattle.std.specs.Prelude.{codes}
use Rattle.std.proofs.lemmas.Slice.Eq.{bytes_eq-Decides}
use Rattle.dsdiff_spec.specs.Words.{Word}
use Rattle.words_spec.specs.Rows.{task_of, command_of}
use Rattle.dst_console.specs.Words.{begins_a_pipe}

behind_pipe : (words : List Word) → command_of (codes "pipe" ∷ words) ≡ None
unfolding task_of
behind_pipe words = refl

pub pipe_is_no_command : (words : List Word) → begins_a_pipe words ≡ true → command_of words ≡ None
unfolding task_of
pipe_is_no_command [] e = refl
pipe_is_no_command (name ∷ words) e = rw ((bytes_eq-Decides name (codes "pipe")).0 e) (behind_pipe words)
