-- Outcomes of streams by their bytes.
use Rattle.std.proofs.Common.{ℕ, ◌++◌, List, [], ◌∷◌, take, drop, refl, inr}
use Rattle.std.specs.Prelude.{codes}
use Rattle.dsdiff_spec.specs.Streams.{piped}
use Rattle.byteorder.specs.Endian.{big_bytes}
use Rattle.dsdiff_spec.specs.Lines.{decoded_line}
use Rattle.dsdiff_spec.specs.Outcome.{done}
use Rattle.dsdiff_spec.specs.declared.faults.FileFault.TheVariants.{NotCoded, Overrun, NotForm}
use Rattle.dsdiff_spec.proofs.Files.{example, empty, empty_coded}
use Rattle.dsdiff_spec.proofs.Restoring.{written_open}
use Rattle.dsdiff_spec.proofs.Streaming.{streams_open}
use Rattle.stream_spec.specs.Outcome.{stream_refused, StreamOutcome}

-- a stream of plain sound is refused at its sound, and one that is too short, and nothing is written
pub plain_sound_is_refused : StreamOutcome empty (stream_refused NotCoded [])
unfolding streams_open
plain_sound_is_refused = refl

pub fifteen_bytes_are_refused : StreamOutcome (take 15 example) (stream_refused NotForm [])
unfolding streams_open
fifteen_bytes_are_refused = refl

-- one that is cut off in its one frame is refused behind the head of the sound, which is byte for byte that of a plain file of one frame
abbrev head_of_one_frame : List ℕ
head_of_one_frame = codes "FRM8" ++ big_bytes 8 4818 ++ codes "DSD " ++ drop 16 (take 122 empty) ++ big_bytes 4 4704

pub a_cut_frame_is_refused_behind_126_bytes : StreamOutcome (take 157 example) (stream_refused (Overrun 140) head_of_one_frame)
unfolding streams_open written_open
a_cut_frame_is_refused_behind_126_bytes = inr (record {
  none = tt;
  out = piped (record { version = 1 ∷ 5 ∷ 0 ∷ 0 ∷ []; prop = take 66 (drop 44 example); frames = 1 }) [];
  written = record { has_front = refl; sounds = []; each = tt; written = refl };
  answer = refl;
})

-- one without frames is decoded to the plain file without sound
pub no_frames_are_decoded : StreamOutcome empty_coded (done empty (decoded_line 0 0 ∷ []))
unfolding streams_open written_open
no_frames_are_decoded = inr (record {
  none = tt;
  out = empty;
  written = record { has_front = refl; sounds = []; each = tt; written = refl };
  answer = refl;
})
