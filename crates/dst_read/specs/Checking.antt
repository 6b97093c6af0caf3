-- Checking step by step: the unread bytes of the frames, and how checking a file ends.
use Rattle.std.specs.Prelude.{◌≡◌, ℕ, ◌<◌, List, [], ◌∷◌, length, map, take, sum, get_or, Option, Some, Result, Ok, Err, IfErr}
use Rattle.std.specs.List.{AllZip}
use Rattle.dst_spec.specs.Means.{MeansWithTail}
use Rattle.dst_spec.specs.Offends.{Offends}
use Rattle.dst_spec.specs.declared.faults.FrameFault.{FrameFault}
use Rattle.dst_streams.specs.Causes.{Rose}
use Rattle.dsdiff_spec.specs.Form.{Form, shape}
use Rattle.dsdiff_spec.specs.Rules.{accepted}
use Rattle.dsdiff_spec.specs.Decoded.{frames_of}
use Rattle.dsdiff_spec.specs.Words.{check}
use Rattle.dsdiff_spec.specs.Refusal.{refusal}
use Rattle.dsdiff_spec.specs.Lines.{check_line}
use Rattle.dsdiff_spec.specs.Outcome.{done, frame_refused}
use Rattle.dsdiff_spec.specs.Progress.{NoneOf}
use Rattle.dsdiff_chunks.specs.declared.open.OpenFault.TheVariants.{Read, Memory, File}
use Rattle.dst_read.specs.declared.faults.CheckFault.{CheckFault}
use Rattle.dst_read.specs.declared.faults.CheckFault.TheVariants.{Source, Frame}
use Rattle.dst_read.specs.declared.faults.Checked.{Checked}
use Rattle.dst_read.specs.declared.feed.StoredFrames.{StoredFrames}
use Rattle.dst_commands.specs.Commands.{OutcomeOf}
use Rattle.dst_read.specs.Feeding.{IsLater}

-- the first k frames mean these sounds with so many unread bytes behind each, and none of them is refused
pub record AreHeard (file : List ℕ) (form : Form) (k : ℕ) (sounds : List (List ℕ × ℕ)) : Type 0 where
  pub each : AllZip (λ f s. MeansWithTail (shape form) f s.0 s.1) (take k (frames_of file form)) sounds
  pub none : NoneOf check (shape form) (take k (frames_of file form))

-- frame k is the first that is refused
pub record IsRefusedAt (file : List ℕ) (form : Form) (k : ℕ) (fault : FrameFault) : Type 0 where
  pub within : k < length (frames_of file form)
  pub first : NoneOf check (shape form) (take k (frames_of file form))
  pub refuses : Offends (shape form) (get_or (frames_of file form) k []) fault

-- the sum of all unread bytes, or the first frame that is refused
abbrev pub TailsEnd : Result ℕ CheckFault → List ℕ → Form → Type 0
TailsEnd (Ok unread) file form =
    (sounds : List (List ℕ × ℕ)) × AreHeard file form (length (frames_of file form)) sounds × (unread ≡ sum (map (λ s. s.1) sounds))
TailsEnd (Err (Frame k fault)) file form = IsRefusedAt file form k fault
TailsEnd (Err (Source (File fault))) file form = ⊥
TailsEnd (Err fault) file form = Unit {0}

-- where no memory is taken the source may fail, and a file or a frame be refused
abbrev pub HasSourceCause : CheckFault → (before now : ℕ) → Type 0
HasSourceCause (Source Read) before now = Rose before now
HasSourceCause (Source (Memory refused)) before now = ⊥
HasSourceCause fault before now = Unit {0}

-- the frames of a feed were worked, and their unread bytes added, up to the first cause to stop
pub record HasSummed {S : Type 0} (bytes : S → Option (List ℕ)) (known : S → Option ℕ) (faults gave : S → ℕ) (form : Form) (s s' : StoredFrames S)
    (result : Result ℕ CheckFault) : Type 0 where
  pub feed : IsLater bytes known faults gave s s'
  pub cause : IfErr result (λ fault. HasSourceCause fault (faults s.source.now) (faults s'.source.now))
  pub ends : (file : List ℕ) → bytes s.source.now ≡ Some file → TailsEnd result file form

-- ---- the whole file
abbrev pub CheckingEnds : Result Checked CheckFault → List ℕ → Type 0
CheckingEnds (Ok s) file = OutcomeOf check file (done [] (check_line s.frames s.unread ∷ [])) × (s.frames ≡ (accepted file).frames)
CheckingEnds (Err (Source (File fault))) file = refusal check file ≡ Some fault
CheckingEnds (Err (Frame k fault)) file = OutcomeOf check file (frame_refused k fault [])
CheckingEnds (Err fault) file = Unit {0}
