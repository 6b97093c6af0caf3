-- Twelve bytes for each frame are as many entries as there are frames.
use Rattle.std.proofs.Common.{sym}
use Rattle.frame_index.proofs.Entries.{length-entries_in}
use Rattle.frame_index.proofs.index.Index.length.Goals as goal

pub returns-clause-length : goal.returns-clause-length
returns-clause-length c = rw (← c.self.view_is) (sym (length-entries_in c.self.inside.bytes.items c.self.inside.frames c.self.invariant.0))
