-- A lane has the bytes of the frame with its number, or none where there is no such frame.
use Rattle.std.proofs.Common.{ap, ◌∙◌, arith}
use Rattle.dst_frames.specs.Batch.{stored_in}
use Rattle.dst_frames.specs.declared.stored.StoredFrame.{StoredFrame}
use Rattle.dst_frames.proofs.Running.{code_of, no_code}
use Rattle.dst_frames.proofs.octets.code_bytes.Goals as goal

pub returns-then-n-frames : goal.returns-then-n-frames
returns-then-n-frames c =
    c.stored.ensures.bytes ∙ ap (λ (f : StoredFrame). stored_in f) c.index-frames-n.is
    ∙ code_of c.args.frames.now c.args.n c.index-frames-n.result (omega arith)

pub returns-else-n-frames : goal.returns-else-n-frames
returns-else-n-frames c = no_code c.args.frames.now c.args.n (omega arith)
