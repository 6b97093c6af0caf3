-- How far the decoding of a stream came.
use Rattle.std.specs.Prelude.{◌≡◌, ℕ, ◌-◌, List, ◌++◌, length, Option, Some, None}
use Rattle.std.specs.List.{AllZip, concat}
use Rattle.dst_spec.specs.Sample.{sound_bytes}
use Rattle.dst_spec.specs.Means.{Means}
use Rattle.dsdiff_spec.specs.Words.{decode}
use Rattle.dsdiff_spec.specs.Progress.{NoneOf}
use Rattle.dsdiff_spec.specs.Streams.{Front, shape_in, stream}
use Rattle.push_decoder.specs.Events.{Answered, nothing_answered, begun}
use Rattle.push_decoder.specs.Laws.{AreOf}
use Rattle.push_decoder.specs.Decoder.{StandsFor}
use Rattle.push_decoder.specs.declared.decoder.PushDecoder.{PushDecoder}
use Rattle.dst_commands.specs.Writing.{Adds}
use Rattle.dst_pipes.specs.declared.work.Work.{Work}
use Rattle.dst_pipes.specs.Fronts.{front_bytes}

-- what frames behind a front are decoded in, so many of them being decoded
pub record WorksFor (front : Front) (count : ℕ) (m : Work) : Type 0 where
  pub channels : m.channels ≡ shape_in front.prop
  pub scratch : m.scratch.channels ≡ shape_in front.prop
  pub sound : length m.sound.items ≡ sound_bytes (shape_in front.prop)
  pub frame_count : m.frame_count ≡ front.frames
  pub decoded : m.decoded ≡ count

abbrev pub Works : Answered → Option Work → Type 0
Works nothing_answered work = work ≡ None
Works (begun front frames) work = (m : Work) × (work ≡ Some m) × WorksFor front (length frames) m

-- a decoder, and what its frames are decoded in
pub record IsReady (d : PushDecoder) (work : Option Work) : Type 0 where
  pub taken : List ℕ
  pub answered : Answered
  pub stands : StandsFor d taken answered
  pub works : Works answered work

-- at most so many events are still to come
abbrev pub events_left : Option Work → ℕ
events_left None = 1000002
events_left (Some m) = m.frame_count - m.decoded

-- ---- what is written: nothing, or the front and the sounds of all frames that came, none of which offends
pub record AreSounds (front : Front) (frames sounds : List (List ℕ)) : Type 0 where
  pub each : AllZip (Means (shape_in front.prop)) frames sounds
  pub none : NoneOf decode (shape_in front.prop) frames

pub record HasWritten (front : Front) (frames : List (List ℕ)) (old new : Option (List ℕ)) (room left : Option ℕ) : Type 0 where
  pub sounds : List (List ℕ)
  pub are : AreSounds front frames sounds
  pub adds : Adds (front_bytes front ++ concat sounds) old new room left

abbrev pub Wrote : Answered → (old new : Option (List ℕ)) → (room left : Option ℕ) → Type 0
Wrote nothing_answered old new room left = (new ≡ old) × (left ≡ room)
Wrote (begun front frames) old new room left = HasWritten front frames old new room left

-- the stream begins with these bytes and events, whatever follows
abbrev pub BeginsSo : List ℕ → Answered → Type 0
BeginsSo taken answered = (more : List ℕ) → AreOf answered (stream (taken ++ more))
