-- Words that are those of a pipe, and words that aren't.
use Rattle.std.proofs.Common.{◌≡◌, List, [], ◌∷◌, map, refl, true, false}
use Rattle.std.specs.Prelude.{codes}
use Prim.Native.String.{String}
use Rattle.dsdiff_spec.specs.Words.{Word}
use Rattle.pipe_tool.specs.Words.{is_pipe}

abbrev pub words : List String → List Word
words texts = map codes texts

pub name_and_a_file : is_pipe (words ("pipe" ∷ "out.raw" ∷ [])) ≡ true
name_and_a_file = refl

pub file_may_be_named_pipe : is_pipe (words ("pipe" ∷ "pipe" ∷ [])) ≡ true
file_may_be_named_pipe = refl

pub no_words : is_pipe (words []) ≡ false
no_words = refl

pub name_without_a_file : is_pipe (words ("pipe" ∷ [])) ≡ false
name_without_a_file = refl

pub two_files : is_pipe (words ("pipe" ∷ "in.dff" ∷ "out.raw" ∷ [])) ≡ false
two_files = refl

pub empty_file_word : is_pipe (words ("pipe" ∷ "" ∷ [])) ≡ false
empty_file_word = refl

pub dash_in_front_of_the_file : is_pipe (words ("pipe" ∷ "-" ∷ [])) ≡ false
dash_in_front_of_the_file = refl

pub another_name : is_pipe (words ("pipes" ∷ "out.raw" ∷ [])) ≡ false
another_name = refl
