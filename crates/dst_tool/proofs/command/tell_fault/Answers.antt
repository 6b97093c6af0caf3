-- What is reported already has no line of its own.
use Rattle.std.proofs.Common.{rules}
use Rattle.dst_tool.proofs.command.tell_fault.Goals as goal

pub returns-in-Ok-clause-reported : goal.returns-in-Ok-clause-reported
returns-in-Ok-clause-reported g c = search rules

pub returns-in-Ok-clause-done : goal.returns-in-Ok-clause-done
returns-in-Ok-clause-done g c = search rules
