-- The twelve bytes that are read have the head that stands at the place in the file.
use Rattle.std.proofs.Common.{sym, ◌∙◌}
use Rattle.chunk_view.proofs.InParts.{head_in_part}
use Rattle.dsdiff_chunks.proofs.head.read_head.Goals as goal

pub returns-in-Ok-clause-head : goal.returns-in-Ok-clause-head
returns-in-Ok-clause-head g c xs told = head_in_part xs _ c.args.place (c.in-Ok.ensures.read xs told) ∙ sym c.head_of.ensures
