-- The first filter has the one coefficient 0, so its sums are small.
use Rattle.dst_frames.proofs.Beginning.{none_narrow}
use Rattle.dst_frames.proofs.tables.ChannelTables.new.Goals as goal

pub returns-clause-narrow : goal.returns-clause-narrow
returns-clause-narrow c = none_narrow c.new-filter.result c.new-filter.ensures
