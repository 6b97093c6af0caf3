-- Twelve bytes that stand at a place of the stream are the head of the chunk there.
use Rattle.std.proofs.Common.{sym, ◌∙◌}
use Rattle.chunk_view.proofs.InParts.{head_in_part}
use Rattle.push_decoder.proofs.moving.head_in.Goals as goal

pub returns-clause-head : goal.returns-clause-head
returns-clause-head c w at = head_in_part w _ c.args.place (c.copy_from_slice.ensures.after ∙ sym at) ∙ sym c.head_of.ensures
