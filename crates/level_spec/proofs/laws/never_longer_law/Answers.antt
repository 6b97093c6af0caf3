-- Level 3 tries all that level 2 does and more, and trying more never makes a frame longer.
use Rattle.level_spec.proofs.Longer.{never_longer}
use Rattle.level_spec.proofs.laws.never_longer_law.Goals as goal

pub returns : goal.returns
returns c = never_longer
