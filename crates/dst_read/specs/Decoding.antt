-- Decoding step by step: what opening leaves, what is written of the chunks, and how the frames end.
use Rattle.std.specs.Prelude.{◌≡◌, ℕ, ◌<◌, List, [], ◌∷◌, get_or, length, take, Option, None, Result, Ok, Err}
use Rattle.std.specs.List.{concat}
use Rattle.dst_spec.specs.Offends.{Offends}
use Rattle.dst_spec.specs.declared.faults.FrameFault.{FrameFault}
use Rattle.dst_streams.specs.Causes.{Rose}
use Rattle.dst_streams.specs.Told.{and_then, IsCutShort}
use Rattle.dsdiff_spec.specs.Form.{Form, shape, size_of_sound}
use Rattle.dsdiff_spec.specs.Rules.{accepted}
use Rattle.dsdiff_spec.specs.Walk.{Entry, entries}
use Rattle.dsdiff_spec.specs.Decoded.{frames_of}
use Rattle.dsdiff_spec.specs.Words.{decode}
use Rattle.dsdiff_spec.specs.Refusal.{refusal}
use Rattle.dsdiff_spec.specs.Lines.{decoded_line}
use Rattle.dsdiff_spec.specs.Outcome.{Answer, done, frame_refused}
use Rattle.dsdiff_spec.specs.Progress.{AreDecoded}
use Rattle.dsdiff_chunks.specs.declared.copy.CopyFault.{CopyFault}
use Rattle.dsdiff_chunks.specs.declared.copy.CopyFault.TheVariants as copying
use Rattle.dsdiff_chunks.specs.declared.open.OpenFault.TheVariants.{Read}
use Rattle.dst_read.specs.declared.faults.DecodeFault.{DecodeFault}
use Rattle.dst_read.specs.declared.faults.DecodeFault.TheVariants.{Source, Write, Frame}
use Rattle.dst_read.specs.declared.faults.Decoded.{Decoded}
use Rattle.dst_commands.specs.Commands.{OutcomeOf}
use Rattle.dst_commands.specs.Writing.{Adds, Stops, Lacks}

-- the file is accepted for decoding, with this form and these frames
pub record IsOpened (file : List ℕ) (form : Form) (index : List Entry) : Type 0 where
  pub accepts : refusal decode file ≡ None
  pub form_is : accepted file ≡ form
  pub entries_are : entries file form ≡ index

-- the fault at which a device failed
abbrev pub of_device : CopyFault → DecodeFault
of_device copying.Read = Source Read
of_device copying.Write = Write

-- ---- all frames in order: what is written of their sounds, cut to the size of the sound
abbrev pub sound_of : Form → List (List ℕ) → List ℕ
sound_of form sounds = take (size_of_sound form) (concat sounds)

-- frame k is the first that is refused
pub record StopsAt (file : List ℕ) (form : Form) (k : ℕ) (fault : FrameFault) (sounds : List (List ℕ)) : Type 0 where
  pub before : AreDecoded file form k sounds
  pub within : k < form.frames
  pub refuses : Offends (shape form) (get_or (frames_of file form) k []) fault

abbrev pub FramesEnd : {A : Type 0} → Result A DecodeFault → List ℕ → Form → (old new : Option (List ℕ)) → (room left : Option ℕ) → Type 0
FramesEnd (Ok u) file form old new room left =
    (sounds : List (List ℕ)) × AreDecoded file form form.frames sounds × Adds (sound_of form sounds) old new room left
FramesEnd (Err (Frame k fault)) file form old new room left =
    (sounds : List (List ℕ)) × StopsAt file form k fault sounds × (new ≡ and_then old (sound_of form sounds))
FramesEnd (Err fault) file form old new room left =
    (k : ℕ) × (sounds : List (List ℕ)) × AreDecoded file form k sounds × Stops (fault ≡ Write) (sound_of form sounds) old new room

-- ---- the whole file
-- a prefix of what the outcome writes is added
abbrev pub IsStoppedShort : List ℕ → (old new : Option (List ℕ)) → Type 0
IsStoppedShort file old new = (o : Answer) × OutcomeOf decode file o × IsCutShort old o.out new

abbrev pub LacksRoomForOutcome : List ℕ → Option ℕ → Type 0
LacksRoomForOutcome file room = (o : Answer) → OutcomeOf decode file o → Lacks room (length o.out)

abbrev pub DecodingEnds : Result Decoded DecodeFault → List ℕ → (old new : Option (List ℕ)) → Option ℕ → Type 0
DecodingEnds (Ok s) file old new room = (out : List ℕ) × OutcomeOf decode file (done out (decoded_line s.frames s.bytes ∷ [])) × (new ≡ and_then old out)
DecodingEnds (Err (Frame k fault)) file old new room = (out : List ℕ) × OutcomeOf decode file (frame_refused k fault out) × (new ≡ and_then old out)
DecodingEnds (Err Write) file old new room = IsStoppedShort file old new × LacksRoomForOutcome file room
DecodingEnds (Err fault) file old new room = IsStoppedShort file old new

-- while a file is written a device may fail, or a frame be refused
abbrev pub HasItsCause : DecodeFault → (source_before source_now sink_before sink_now : ℕ) → Type 0
HasItsCause (Source Read) source_before source_now sink_before sink_now = Rose source_before source_now
HasItsCause (Source fault) source_before source_now sink_before sink_now = ⊥
HasItsCause Write source_before source_now sink_before sink_now = Rose sink_before sink_now
HasItsCause (Frame k fault) source_before source_now sink_before sink_now = Unit {0}
