-- What isn't empty and doesn't begin with a dash is a file's word.
use Rattle.std.proofs.Common.{rules}
use Rattle.dst_words.proofs.slots.is_file_word.Goals as goal

pub returns-in-empty : goal.returns-in-empty
returns-in-empty c = search rules

pub returns-in-len1-up : goal.returns-in-len1-up
returns-in-len1-up c = search rules
