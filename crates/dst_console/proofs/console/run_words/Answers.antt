-- Words that begin with `pipe` are no command, whatever became of the pipe.
use Rattle.std.proofs.Common.{map, ◌∙◌, sym}
use Rattle.std.specs.String.{string_bytes}
use Rattle.dst_console.proofs.PipeWords.{pipe_is_no_command}
use Rattle.dst_console.proofs.console.run_words.Goals as goal

pub returns-then-eq-clause-only_words : goal.returns-then-eq-clause-only_words
returns-then-eq-clause-only_words g c is_one =
    pipe_is_no_command (map string_bytes c.args.words.now) (rw (sym c.word_at.ensures) (sym c.eq.ensures ∙ c.if-eq.true))
