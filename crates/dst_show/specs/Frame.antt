-- One frame that is read for its sound.
use Rattle.std.specs.Prelude.{◌≡◌, ℕ, List, [], Option, Some}
use Rattle.dst_streams.specs.Causes.{Rose}
use Rattle.dst_spec.specs.Sample.{Shape}
use Rattle.dst_spec.specs.Means.{Means}
use Rattle.dst_spec.specs.Offends.{Offends}
use Rattle.dst_spec.specs.declared.faults.FrameFault.{FrameFault}
use Rattle.dsdiff_spec.specs.Walk.{Entry, frame_at}
use Rattle.dsdiff_spec.specs.Words.{Command}
use Rattle.dsdiff_spec.specs.Refusal.{refusal}
use Rattle.dsdiff_spec.specs.Outcome.{frame_refused}
use Rattle.dsdiff_chunks.specs.Opening as opening
use Rattle.dst_commands.specs.Commands.{OutcomeOf}
use Rattle.dst_read.specs.declared.faults.DecodeFault.{DecodeFault}
use Rattle.dst_read.specs.declared.faults.DecodeFault.TheVariants.{Source, Write, Frame}
use Rattle.dsdiff_chunks.specs.declared.open.OpenFault.TheVariants.{Read, Memory, File}

-- it means a sound, and isn't refused
pub record IsSoundOf (f : Shape) (frame sound : List ℕ) : Type 0 where
  pub means : Means f frame sound
  pub not_refused : (fault : FrameFault) → Offends f frame fault → ⊥

-- or frame k is refused, or the source fails; no memory is taken
abbrev pub HasNoSound : Shape → ℕ → Entry → DecodeFault → Option (List ℕ) → (source_before source_now : ℕ) → Type 0
HasNoSound f k e (Frame j fault) bytes before now = (j ≡ k) × ((file : List ℕ) → bytes ≡ Some file → Offends f (frame_at file e) fault)
HasNoSound f k e (Source Read) bytes before now = Rose before now
HasNoSound f k e (Source (Memory refused)) bytes before now = ⊥
HasNoSound f k e (Source (File fault)) bytes before now = ⊥
HasNoSound f k e Write bytes before now = ⊥

-- why a command on one frame finds no sound: the file or the frame is refused, or the source or memory fails
abbrev pub FindsNoSound : Command → Option (List ℕ) → (source_before source_now : ℕ) → DecodeFault → Type 0
FindsNoSound c bytes before now (Source fault) = opening.HasOpenCause (refusal c) bytes before now fault
FindsNoSound c bytes before now (Frame k fault) = (file : List ℕ) → bytes ≡ Some file → OutcomeOf c file (frame_refused k fault [])
FindsNoSound c bytes before now Write = ⊥
