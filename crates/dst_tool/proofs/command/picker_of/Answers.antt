-- The picker is that of the level.
use Rattle.std.proofs.Common.{rules}
use Rattle.dst_tool.proofs.command.picker_of.Goals as goal

pub returns : goal.returns
returns c = search rules
