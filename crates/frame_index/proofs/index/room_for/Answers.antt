-- There is room for so many entries.
use Rattle.std.proofs.Common.{rules}
use Rattle.frame_index.proofs.index.room_for.Goals as goal

pub returns-clause-exact : goal.returns-clause-exact
returns-clause-exact c = search rules
