-- The one outcome of decoding a stream: the status, what is written, and the lines of the report.
use Rattle.std.specs.Prelude.{◌≡◌, ◌⊎◌, ℕ, ◌*◌, ◌<◌, List, [], ◌∷◌, length, take, get_or, Option, Some, None}
use Rattle.dst_spec.specs.Bits.{AreBytes}
use Rattle.dst_spec.specs.Sample.{sound_bytes}
use Rattle.dst_spec.specs.Offends.{Offends}
use Rattle.dst_spec.specs.declared.faults.FrameFault.{FrameFault}
use Rattle.dsdiff_spec.specs.declared.faults.FileFault.{FileFault}
use Rattle.dsdiff_spec.specs.Lines.{file_line, decoded_line}
use Rattle.dsdiff_spec.specs.Words.{decode}
use Rattle.dsdiff_spec.specs.Progress.{NoneOf}
use Rattle.dsdiff_spec.specs.Outcome.{Answer, done, frame_refused}
use Rattle.dsdiff_spec.specs.Streams.{Ending, ended, stopped, cut_off, Front, Stream, shape_in, stream, PipeOut, piped_before}

-- a stream is refused by its fault, behind what is written
abbrev pub stream_refused : FileFault → List ℕ → Answer
stream_refused fault out = record { status = 5; out = out; lines = file_line fault ∷ [] }

-- the bytes of all the sound that the frame count says
abbrev pub sound_size : Front → ℕ
sound_size front = front.frames * sound_bytes (shape_in front.prop)

-- behind the last frame that came
abbrev pub at_ending : Ending → Front → ℕ → List ℕ → Answer
at_ending ended front k out = done out (decoded_line front.frames (sound_size front) ∷ [])
at_ending (stopped fault) front k out = stream_refused fault (piped_before front out k)
at_ending (cut_off fault) front k out = stream_refused fault (piped_before front out k)

-- frame k is the first that offends: all earlier sounds are written
pub record IsStopped (s : Stream) (front : Front) (o : Answer) : Type 0 where
  pub k : ℕ
  pub fault : FrameFault
  pub within : k < length s.frames
  pub first : NoneOf decode (shape_in front.prop) (take k s.frames)
  pub offends : Offends (shape_in front.prop) (get_or s.frames k []) fault
  pub out : List ℕ
  pub written : PipeOut s front out
  pub answer : o ≡ frame_refused k fault (piped_before front out k)

-- none offends: it is done, or refused behind the last frame that came
pub record IsThrough (s : Stream) (front : Front) (o : Answer) : Type 0 where
  pub none : NoneOf decode (shape_in front.prop) s.frames
  pub out : List ℕ
  pub written : PipeOut s front out
  pub answer : o ≡ at_ending s.ending front (length s.frames) out

-- where nothing came that stands in front of frames, nothing is written
abbrev pub IsEarly : Ending → Answer → Type 0
IsEarly ended o = ⊥
IsEarly (stopped fault) o = o ≡ stream_refused fault []
IsEarly (cut_off fault) o = o ≡ stream_refused fault []

abbrev pub OfStream : Stream → Option Front → Answer → Type 0
OfStream s None o = IsEarly s.ending o
OfStream s (Some front) o = IsStopped s front o ⊎ IsThrough s front o

abbrev pub StreamOutcome : List ℕ → Answer → Type 0
StreamOutcome w o = OfStream (stream w) (stream w).front o

-- a stream has one outcome
abbrev pub OneOutcomeLaw : Type 0
OneOutcomeLaw = (w : List ℕ) → AreBytes w → (o : Answer) × StreamOutcome w o × ((other : Answer) → StreamOutcome w other → other ≡ o)
