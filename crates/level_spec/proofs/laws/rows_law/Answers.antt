-- There is a row for each step up to the one that stops, and a step stops where its numbers would be out of bounds.
use Rattle.level_spec.proofs.RowSizes.{rows_are_small}
use Rattle.level_spec.proofs.laws.rows_law.Goals as goal

pub returns : goal.returns
returns c = rows_are_small
