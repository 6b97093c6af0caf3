-- The first eighteen bytes of the sound have the frame count, and with its size they decide the rules on it.
use Rattle.std.proofs.Common.{◌∙◌}
use Rattle.dsdiff_chunks.specs.Seen.{head_seen}
use Rattle.dsdiff_chunks.proofs.CodedParts.{count_in_part, frte_in_part}
use Rattle.dsdiff_chunks.proofs.coded.read_frte.Goals as goal

pub returns-in-Ok-frame_count_in-clause-count : goal.returns-in-Ok-frame_count_in-clause-count
returns-in-Ok-frame_count_in-clause-count g c xs told =
    c.in-Ok-frame_count_in.ensures.count ∙ count_in_part xs _ _ (c.in-Ok.ensures.read xs told)

pub returns-in-Ok-frame_count_in-clause-accepted : goal.returns-in-Ok-frame_count_in-clause-accepted
returns-in-Ok-frame_count_in-clause-accepted g c xs told =
    frte_in_part xs _ (head_seen c.args.sound) c.if-sound-lt18.false (c.in-Ok.ensures.read xs told) ∙ c.in-Ok-frame_count_in.ensures.accepted

pub returns-in-Err-clause-stops : goal.returns-in-Err-clause-stops
returns-in-Err-clause-stops g c xs told =
    frte_in_part xs _ (head_seen c.args.sound) c.if-sound-lt18.false (c.in-Ok.ensures.read xs told) ∙ c.in-Err.ensures.refused
