-- What a reader of a stream has, and what it has to do with the bytes that came.
use Rattle.std.specs.Prelude.{◌≡◌, ℕ, ◌+◌, true, false, List, [], ◌++◌, length, drop}
use Rattle.dsdiff_spec.specs.Streams.{Front, stream}
use Rattle.push_decoder.specs.Gathered.{Gathered}
use Rattle.push_decoder.specs.Events.{Answered, nothing_answered, begun, behind_answered}
use Rattle.push_decoder.specs.Stages.{still_to_come, is_looked_at, is_frame, part_start, Stands, StageTells}
use Rattle.push_decoder.specs.declared.stage.Stage.{Stage}
use Rattle.push_decoder.specs.declared.stage.Stage.TheVariants.{Start, FormHead, FormBody, FormRest, FrameCount, Opened}
use Rattle.push_decoder.specs.declared.stage.Stage.TheVariants.{SoundHead, FrameBody, SoundRest, FrameWhole, Ended, Refused}

-- The stage, how many bytes were taken, those of the part that is looked at and of the frame, and the bodies of `FVER` and `PROP`.
pub record Reading : Type 0 where
  pub stage : Stage
  pub taken : ℕ
  pub part : Gathered
  pub frame : Gathered
  pub version : List ℕ
  pub prop : Gathered

-- what a reader keeps to, whatever was taken
pub record IsReader (d : Reading) : Type 0 where
  pub stands : Stands d.stage d.taken
  pub part_room : d.part.room ≡ 65536
  pub frame_room : d.frame.room ≡ 225794
  pub prop_room : d.prop.room ≡ 65536
  pub part : is_looked_at d.stage ≡ true → part_start d.stage + length d.part.bytes ≡ d.taken
  pub frame : is_frame d.stage ≡ true → part_start d.stage + length d.frame.bytes ≡ d.taken
  pub empty : is_looked_at d.stage ≡ false → d.part.bytes ≡ []

-- ---- what was answered when a stage is reached: the front once `FRTE` came, and as many frames as were found
pub record HasBegun (answered : Answered) (found : ℕ) : Type 0 where
  pub front : Front
  pub frames : List (List ℕ)
  pub same : answered ≡ begun front frames
  pub count : length frames ≡ found

abbrev pub AnsweredAt : Stage → Answered → Type 0
AnsweredAt Start answered = answered ≡ nothing_answered
AnsweredAt (FormHead form place) answered = answered ≡ nothing_answered
AnsweredAt (FormBody form head) answered = answered ≡ nothing_answered
AnsweredAt (FormRest form place end) answered = answered ≡ nothing_answered
AnsweredAt (FrameCount form head) answered = answered ≡ nothing_answered
AnsweredAt (Opened sound place) answered = (answered ≡ nothing_answered) × (sound.found ≡ 0)
AnsweredAt (SoundHead sound place) answered = HasBegun answered sound.found
AnsweredAt (FrameBody sound head) answered = HasBegun answered sound.found
AnsweredAt (SoundRest sound place end) answered = HasBegun answered sound.found
AnsweredAt (FrameWhole sound head) answered = HasBegun answered sound.found
AnsweredAt Ended answered = Unit {0}
AnsweredAt (Refused fault) answered = Unit {0}

-- the bodies are those of the front that was answered
abbrev pub HasFront : Answered → List ℕ → List ℕ → Type 0
HasFront nothing_answered version prop = Unit {0}
HasFront (begun front frames) version prop = (front.version ≡ version) × (front.prop ≡ prop)

-- These bytes were taken, and these events answered: whatever follows, the stream is what was answered, and behind it what the stage
-- and the bytes from there on come to.
pub record HasRead (d : Reading) (taken : List ℕ) (answered : Answered) : Type 0 where
  pub count : d.taken ≡ length taken
  pub part : is_looked_at d.stage ≡ true → d.part.bytes ≡ drop (part_start d.stage) taken
  pub frame : is_frame d.stage ≡ true → d.frame.bytes ≡ drop (part_start d.stage) taken
  pub tells : StageTells d.stage d.prop.bytes
  pub at_stage : AnsweredAt d.stage answered
  pub front : HasFront answered d.version d.prop.bytes
  pub goes_on : (more : List ℕ) →
      stream (taken ++ more) ≡ behind_answered answered (still_to_come d.version d.prop.bytes d.stage (taken ++ more))
