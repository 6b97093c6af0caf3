-- Words and a file have one outcome.
use Rattle.std.proofs.Common.{refl, Option, Some, None}
use Rattle.dsdiff_spec.specs.Words.{Command}
use Rattle.dsdiff_spec.specs.Outcome.{not_understood}
use Rattle.words_spec.specs.Rows.{command_of}
use Rattle.words_spec.specs.Outcome.{OfWords}
use Rattle.words_spec.specs.Laws.{OneOutcomeLaw}
use Rattle.dsdiff_spec.proofs.Stopping.{One}
use Rattle.dsdiff_spec.proofs.OneAnswer.{command_has_one_outcome}

pub one_outcome : OneOutcomeLaw
one_outcome words file bytes = go (command_of words)
  where
    go : (r : Option Command) → One (OfWords r file)
    go None = (not_understood, refl, λ other o. o)
    go (Some c) = command_has_one_outcome c file tt bytes
