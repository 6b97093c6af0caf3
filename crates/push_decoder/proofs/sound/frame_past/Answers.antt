-- A frame whose body came is the next one of the stream, and what stands behind it goes on.
use Rattle.std.proofs.Common.{ap, ◌∙◌}
use Rattle.dsdiff_spec.specs.Chunks.{body_of}
use Rattle.dsdiff_spec.specs.Streams.{with_frame}
use Rattle.dsdiff_chunks.specs.Seen.{head_seen}
use Rattle.push_decoder.proofs.SoundSteps.{frame_is_taken}
use Rattle.push_decoder.proofs.sound.frame_past.Goals as goal

pub returns-clause-goes_on : goal.returns-clause-goes_on
returns-clause-goes_on c w version prop there =
    frame_is_taken w c.args.sound (head_seen c.args.head) c.requires.few c.requires.frame there
    ∙ ap (with_frame (body_of w (head_seen c.args.head))) (c.behind_chunk.ensures.goes_on w version prop there)
