-- Twelve bytes that are read alone are the entry that stands at their place.
use Rattle.std.proofs.Common.{◌∙◌}
use Rattle.frame_index.proofs.Indexed.{entry_alone}
use Rattle.frame_index.proofs.lookup.read_entry.Goals as goal

pub returns-in-Ok-clause-entry : goal.returns-in-Ok-clause-entry
returns-in-Ok-clause-entry g c xs told = c.entry_in.ensures ∙ entry_alone xs _ c.args.place (c.in-Ok.ensures.read xs told)
