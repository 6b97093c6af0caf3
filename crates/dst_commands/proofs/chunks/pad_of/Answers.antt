-- The pad byte is the plain file's own.
use Rattle.std.proofs.Common.{rules}
use Rattle.dst_commands.proofs.chunks.pad_of.Goals as goal

pub returns-in-Some : goal.returns-in-Some
returns-in-Some c = search rules
