-- The parameters are those that were picked.
use Rattle.std.proofs.Common.{rules}
use Rattle.frame_store.proofs.picker.OnePickPicker.pick.Goals as goal

pub returns-then-len-count-clause-found : goal.returns-then-len-count-clause-found
returns-then-len-count-clause-found c = search rules

pub returns-then-len-count-clause-lawful : goal.returns-then-len-count-clause-lawful
returns-then-len-count-clause-lawful c = search rules
