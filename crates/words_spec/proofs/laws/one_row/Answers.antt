-- No words have two rows, since any two rows differ by name, by the kind of a word, or by their number of words.
use Rattle.words_spec.proofs.OneRow.{one_row as law}
use Rattle.words_spec.proofs.laws.one_row.Goals as goal

pub returns : goal.returns
returns c = law
