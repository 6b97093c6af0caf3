-- No frames are no sound; one frame more stands behind those before, and the maker behind it.
use Rattle.sound_maker.proofs.Making.{nothing_made, one_frame_more, maker_behind_a_frame}
use Rattle.sound_maker.proofs.laws.in_order.Goals as goal

pub returns-clause-none : goal.returns-clause-none
returns-clause-none c = nothing_made

pub returns-clause-next : goal.returns-clause-next
returns-clause-next c = one_frame_more

pub returns-clause-later : goal.returns-clause-later
returns-clause-later c = maker_behind_a_frame
