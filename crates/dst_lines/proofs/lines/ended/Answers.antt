-- The line has its line feed.
use Rattle.std.proofs.Common.{rules}
use Rattle.dst_lines.proofs.lines.ended.Goals as goal

pub returns : goal.returns
returns c = search rules
