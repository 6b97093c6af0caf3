-- The sound is written, or a prefix of it, or none was found.
use Rattle.std.proofs.Common.{◌≡◌, ℕ, List, Option, [], ◌∷◌, length, refl, ap, sym, subst, ◌∙◌, Err, Result, arith}
use Rattle.dst_streams.specs.Told.{and_then, IsCutShort}
use Rattle.dsdiff_spec.specs.Lines.{frame_line}
use Rattle.dsdiff_spec.specs.Outcome.{done}
use Rattle.dsdiff_spec.specs.Words.{Command, frame}
use Rattle.dsdiff_spec.proofs.ByRules.{not_refused}
use Rattle.dst_spec.specs.declared.faults.FrameFault.{FrameFault}
use Rattle.dsdiff_chunks.specs.declared.open.OpenFault.{OpenFault}
use Rattle.dsdiff_chunks.specs.declared.open.OpenFault.TheVariants.{File, Read}
use Rattle.dst_commands.specs.Commands.{OutcomeOf}
use Rattle.dst_commands.proofs.Writing.{stops_same}
use Rattle.dst_read.specs.declared.faults.DecodeFault.{DecodeFault}
use Rattle.dst_read.specs.declared.faults.DecodeFault.TheVariants.{Source, Write, Frame}
use Rattle.dst_show.specs.declared.faults.FrameWritten.{FrameWritten}
use Rattle.dst_show.specs.Frame.{FindsNoSound}
use Rattle.dst_show.proofs.FrameSounds.{sink_is_sure}
use Rattle.dst_show.proofs.ReportedLines.{done_or_fault, one_fault}
use Rattle.dst_show.proofs.frame.frame_out.Goals as goal

abbrev failed : DecodeFault → Result FrameWritten DecodeFault
failed fault = Err fault

source_is_no_write : (fault : OpenFault) → Write ≡ Source fault → ⊥
source_is_no_write fault e = cc

frame_is_no_write : (k : ℕ) (fault : FrameFault) → Write ≡ Frame k fault → ⊥
frame_is_no_write k fault e = cc

-- what is known of the fault that is answered is known of it by its name
by_name : (c : Command) (bytes : Option (List ℕ)) (before now : ℕ) (found fault : DecodeFault) → FindsNoSound c bytes before now found →
    failed found ≡ failed fault → FindsNoSound c bytes before now fault
by_name c bytes before now found fault known e = subst (FindsNoSound c bytes before now) (one_fault found fault e) known

pub returns-in-Err-clause-file : goal.returns-in-Err-clause-file
returns-in-Err-clause-file g c fault e file told = by_name _ _ _ _ _ (Source (File fault)) c.in-Err.ensures.no_sound e file told

pub returns-in-Err-clause-read : goal.returns-in-Err-clause-read
returns-in-Err-clause-read g c e = by_name _ _ _ _ _ (Source Read) c.in-Err.ensures.no_sound e

pub returns-in-Err-clause-frame : goal.returns-in-Err-clause-frame
returns-in-Err-clause-frame g c k fault e file told = by_name _ _ _ _ _ (Frame k fault) c.in-Err.ensures.no_sound e file told

pub returns-in-Err-clause-write : goal.returns-in-Err-clause-write
returns-in-Err-clause-write g c e = absurd (by_name _ _ _ _ _ Write c.in-Err.ensures.no_sound e)

pub returns-in-Err-clause-cut_short : goal.returns-in-Err-clause-cut_short
returns-in-Err-clause-cut_short g c e file told = absurd (by_name _ _ _ _ _ Write c.in-Err.ensures.no_sound e)

pub returns-in-Err-clause-sure : goal.returns-in-Err-clause-sure
returns-in-Err-clause-sure g c e file told o is room holds fits = by_name _ _ _ _ _ Write c.in-Err.ensures.no_sound e

-- a file whose frame is written isn't refused
pub returns-in-Ok-write_sound-clause-refused : goal.returns-in-Ok-write_sound-clause-refused
returns-in-Ok-write_sound-clause-refused g c file told fault e = absurd (not_refused _ fault (c.in-Ok.ensures.accepted file told) e)

pub returns-clause-refused : goal.returns-clause-refused
returns-clause-refused g c file told fault e = absurd (not_refused _ fault (c.in-Ok.ensures.accepted file told) e)

pub returns-in-Ok-write_sound-clause-written : goal.returns-in-Ok-write_sound-clause-written
returns-in-Ok-write_sound-clause-written g c file told =
    let count : c.len.result ≡ length c.in-Ok.sound.items = c.len.ensures ∙ sym c.deref.ensures.len ∙ ap length c.deref.ensures.value in (
      c.in-Ok.sound.items,
      subst (λ n. OutcomeOf (frame c.args.frame c.args.by_index) file (done c.in-Ok.sound.items (frame_line c.args.frame n ∷ []))) (sym count)
          (c.in-Ok.ensures.sound file told),
      c.in-Ok-write_sound.ensures.written ∙ ap (and_then (g.K.Sink.written c.args.sink.now)) c.deref.ensures.value,
    )

pub returns-clause-cut_short : goal.returns-clause-cut_short
returns-clause-cut_short g c e file told = (
  done c.in-Ok.sound.items (frame_line c.args.frame (length c.in-Ok.sound.items) ∷ []),
  c.in-Ok.ensures.sound file told,
  subst (λ w. IsCutShort (g.K.Sink.written c.args.sink.now) w (g.K.Sink.written c.write_sound.new.sink)) c.deref.ensures.value
      c.in-Err-write_sound.ensures.written.cut,
)

pub returns-clause-sure : goal.returns-clause-sure
returns-clause-sure g c e file told =
    sink_is_sure (frame c.args.frame c.args.by_index) file c.in-Ok.sound.items (frame_line c.args.frame (length c.in-Ok.sound.items) ∷ []) _ _ _ tt
    (g.met.S.Source.told_are_bytes c.args.source.now file told) (c.in-Ok.ensures.sound file told)
    (stops_same (Unit {0}) _ c.in-Ok.sound.items _ _ _ c.deref.ensures.value c.in-Err-write_sound.ensures.written)

-- ---- where no sound is found

pub returns-in-Err-clause-bytes : goal.returns-in-Err-clause-bytes
returns-in-Err-clause-bytes g c = c.find_sound.ensures.bytes

pub returns-in-Err-clause-later : goal.returns-in-Err-clause-later
returns-in-Err-clause-later g c = (c.find_sound.ensures.later, omega arith)

pub returns-in-Err-clause-untouched : goal.returns-in-Err-clause-untouched
returns-in-Err-clause-untouched g c fault e other = refl

pub returns-in-Err-clause-refused : goal.returns-in-Err-clause-refused
returns-in-Err-clause-refused g c file told fault e = refl

pub returns-in-Err-clause-given : goal.returns-in-Err-clause-given
returns-in-Err-clause-given g c = c.find_sound.ensures.given

pub returns-in-Err-clause-given_any : goal.returns-in-Err-clause-given_any
returns-in-Err-clause-given_any g c = c.find_sound.ensures.given_any

pub returns-in-Err-clause-given_walk : goal.returns-in-Err-clause-given_walk
returns-in-Err-clause-given_walk g c = c.find_sound.ensures.given_walk

-- ---- where it is written

pub returns-in-Ok-write_sound-clause-bytes : goal.returns-in-Ok-write_sound-clause-bytes
returns-in-Ok-write_sound-clause-bytes g c = c.find_sound.ensures.bytes

pub returns-in-Ok-write_sound-clause-later : goal.returns-in-Ok-write_sound-clause-later
returns-in-Ok-write_sound-clause-later g c = (c.find_sound.ensures.later, c.write_sound.ensures.cause.later)

pub returns-in-Ok-write_sound-clause-settled : goal.returns-in-Ok-write_sound-clause-settled
returns-in-Ok-write_sound-clause-settled g c = c.in-Ok-write_sound.ensures.settled

pub returns-in-Ok-write_sound-clause-file : goal.returns-in-Ok-write_sound-clause-file
returns-in-Ok-write_sound-clause-file g c fault e file told = absurd (done_or_fault _ _ e)

pub returns-in-Ok-write_sound-clause-frame : goal.returns-in-Ok-write_sound-clause-frame
returns-in-Ok-write_sound-clause-frame g c k fault e file told = absurd (done_or_fault _ _ e)

pub returns-in-Ok-write_sound-clause-read : goal.returns-in-Ok-write_sound-clause-read
returns-in-Ok-write_sound-clause-read g c e = absurd (done_or_fault _ _ e)

pub returns-in-Ok-write_sound-clause-write : goal.returns-in-Ok-write_sound-clause-write
returns-in-Ok-write_sound-clause-write g c e = absurd (done_or_fault _ _ e)

pub returns-in-Ok-write_sound-clause-cut_short : goal.returns-in-Ok-write_sound-clause-cut_short
returns-in-Ok-write_sound-clause-cut_short g c e file told = absurd (done_or_fault _ _ e)

pub returns-in-Ok-write_sound-clause-sure : goal.returns-in-Ok-write_sound-clause-sure
returns-in-Ok-write_sound-clause-sure g c e file told o is room holds fits = absurd (done_or_fault _ _ e)

pub returns-in-Ok-write_sound-clause-untouched : goal.returns-in-Ok-write_sound-clause-untouched
returns-in-Ok-write_sound-clause-untouched g c fault e other = absurd (done_or_fault _ _ e)

pub returns-in-Ok-write_sound-clause-given : goal.returns-in-Ok-write_sound-clause-given
returns-in-Ok-write_sound-clause-given g c = c.find_sound.ensures.given

pub returns-in-Ok-write_sound-clause-given_any : goal.returns-in-Ok-write_sound-clause-given_any
returns-in-Ok-write_sound-clause-given_any g c = c.find_sound.ensures.given_any

pub returns-in-Ok-write_sound-clause-given_walk : goal.returns-in-Ok-write_sound-clause-given_walk
returns-in-Ok-write_sound-clause-given_walk g c = c.find_sound.ensures.given_walk

-- ---- where it isn't written

pub returns-clause-bytes : goal.returns-clause-bytes
returns-clause-bytes g c = c.find_sound.ensures.bytes

pub returns-clause-later : goal.returns-clause-later
returns-clause-later g c = (c.find_sound.ensures.later, c.write_sound.ensures.cause.later)

pub returns-clause-file : goal.returns-clause-file
returns-clause-file g c fault e file told = absurd (source_is_no_write _ (one_fault _ _ e))

pub returns-clause-frame : goal.returns-clause-frame
returns-clause-frame g c k fault e file told = absurd (frame_is_no_write k fault (one_fault _ _ e))

pub returns-clause-read : goal.returns-clause-read
returns-clause-read g c e = absurd (source_is_no_write _ (one_fault _ _ e))

pub returns-clause-write : goal.returns-clause-write
returns-clause-write g c e = c.in-Err-write_sound.ensures.cause.failed

pub returns-clause-untouched : goal.returns-clause-untouched
returns-clause-untouched g c fault e other = absurd (other (sym (one_fault _ _ e)))

pub returns-clause-given : goal.returns-clause-given
returns-clause-given g c = c.find_sound.ensures.given

pub returns-clause-given_any : goal.returns-clause-given_any
returns-clause-given_any g c = c.find_sound.ensures.given_any

pub returns-clause-given_walk : goal.returns-clause-given_walk
returns-clause-given_walk g c = c.find_sound.ensures.given_walk
