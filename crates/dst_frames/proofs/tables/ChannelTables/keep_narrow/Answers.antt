-- The filter that is put in place has the one coefficient 0, so its sums are small.
use Rattle.dst_frames.proofs.Beginning.{none_narrow}
use Rattle.dst_frames.proofs.tables.ChannelTables.keep_narrow.Goals as goal

pub returns-then-size-gt32767 : goal.returns-then-size-gt32767
returns-then-size-gt32767 c = none_narrow c.new-none.result c.new-none.ensures
