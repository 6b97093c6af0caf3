-- The sound is the one chunk of its type behind `PROP`.
use Rattle.std.proofs.Common.{rules}
use Rattle.dsdiff_chunks.proofs.common.find_sound.Goals as goal

pub returns-then-eq-clause-sound : goal.returns-then-eq-clause-sound
returns-then-eq-clause-sound c = search rules

pub returns-then-eq-clause-accepted : goal.returns-then-eq-clause-accepted
returns-then-eq-clause-accepted c = search rules

pub returns-else-eq-clause-sound : goal.returns-else-eq-clause-sound
returns-else-eq-clause-sound c = search rules

pub returns-else-eq-clause-accepted : goal.returns-else-eq-clause-accepted
returns-else-eq-clause-accepted c = search rules

pub returns-then-prop_place-head-clause-refused : goal.returns-then-prop_place-head-clause-refused
returns-then-prop_place-head-clause-refused c = search rules
