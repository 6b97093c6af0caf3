-- Words that ask for help or the version, those that don't, and the words that name files.
use Rattle.std.proofs.Common.{◌≡◌, [], ◌∷◌, length, map, replicate, refl, true, false, Some, None}
use Rattle.std.specs.Prelude.{codes}
use Rattle.words_spec.specs.Rows.{Row, rows}
use Rattle.words_spec.proofs.Commands.{words}
use Rattle.dst_console.specs.Words.{asked_of, begins_a_pipe, has_help, word_of}
use Rattle.dst_console.specs.declared.asking.Asked.TheVariants.{Help, Version, HelpOf}

-- ---- what is asked of the program itself
pub one_word_asks_for_help : asked_of (words ("--help" ∷ [])) ≡ Some Help
one_word_asks_for_help = refl

pub one_word_asks_for_the_version : asked_of (words ("--version" ∷ [])) ≡ Some Version
one_word_asks_for_the_version = refl

pub name_and_help_ask_for_its_help : asked_of (words ("decode" ∷ "--help" ∷ [])) ≡ Some HelpOf
name_and_help_ask_for_its_help = refl

pub pipe_and_help_ask_for_its_help : asked_of (words ("pipe" ∷ "--help" ∷ [])) ≡ Some HelpOf
pipe_and_help_ask_for_its_help = refl

pub no_name_and_help_ask_for_nothing : asked_of (words ("pip" ∷ "--help" ∷ [])) ≡ None
no_name_and_help_ask_for_nothing = refl

-- each command has a help of its own
pub every_row_has_help : map (λ (r : Row). has_help (codes r.name)) rows ≡ replicate (length rows) true
every_row_has_help = refl

pub no_words_ask_for_nothing : asked_of (words []) ≡ None
no_words_ask_for_nothing = refl

pub one_dash_asks_for_nothing : asked_of (words ("-help" ∷ [])) ≡ None
one_dash_asks_for_nothing = refl

pub version_behind_a_name_asks_for_nothing : asked_of (words ("decode" ∷ "--version" ∷ [])) ≡ None
version_behind_a_name_asks_for_nothing = refl

pub help_in_front_of_a_name_asks_for_nothing : asked_of (words ("--help" ∷ "decode" ∷ [])) ≡ None
help_in_front_of_a_name_asks_for_nothing = refl

pub help_behind_two_words_asks_for_nothing : asked_of (words ("decode" ∷ "a" ∷ "--help" ∷ [])) ≡ None
help_behind_two_words_asks_for_nothing = refl

-- ---- the word at a place
pub name_stands_at_place_0 : word_of (words ("decode" ∷ "a" ∷ "b" ∷ [])) 0 ≡ codes "decode"
name_stands_at_place_0 = refl

pub second_file_stands_at_place_2 : word_of (words ("decode" ∷ "a" ∷ "b" ∷ [])) 2 ≡ codes "b"
second_file_stands_at_place_2 = refl

pub behind_the_last_word_is_an_empty_one : word_of (words ("decode" ∷ "a" ∷ [])) 2 ≡ []
behind_the_last_word_is_an_empty_one = refl

-- ---- words of a pipe
pub one_word_begins_a_pipe : begins_a_pipe (words ("pipe" ∷ [])) ≡ true
one_word_begins_a_pipe = refl

pub two_files_begin_a_pipe : begins_a_pipe (words ("pipe" ∷ "a" ∷ "b" ∷ [])) ≡ true
two_files_begin_a_pipe = refl

pub decode_begins_no_pipe : begins_a_pipe (words ("decode" ∷ "pipe" ∷ "b" ∷ [])) ≡ false
decode_begins_no_pipe = refl

pub no_words_begin_no_pipe : begins_a_pipe (words []) ≡ false
no_words_begin_no_pipe = refl
