-- Clause by clause what checking comes to.
use Rattle.std.proofs.Common.{◌≡◌, ℕ, List, [], ◌∷◌, Option, Some, Result, Ok, Err, IfOk, ap, refl, sym, subst, ◌∙◌, arith}
use Rattle.std.proofs.Math.Nat.{le_trans}
use Rattle.dst_spec.specs.declared.faults.FrameFault.{FrameFault}
use Rattle.dst_streams.proofs.Counts.{Rose-earlier}
use Rattle.dsdiff_spec.specs.Form.{Form}
use Rattle.dsdiff_spec.specs.Rules.{accepted}
use Rattle.dsdiff_spec.specs.Refusal.{form_refusal}
use Rattle.dsdiff_spec.specs.Lines.{check_line}
use Rattle.dsdiff_spec.specs.Outcome.{done}
use Rattle.dsdiff_spec.specs.Words.{check}
use Rattle.dsdiff_chunks.specs.Forms.{plain_seen}
use Rattle.dsdiff_chunks.specs.declared.open.OpenFault.{OpenFault}
use Rattle.dsdiff_chunks.specs.Opening as opening
use Rattle.dst_commands.specs.Commands.{OutcomeOf}
use Rattle.dst_commands.specs.Opened.{IsAny}
use Rattle.dst_commands.proofs.InOrder.{rules_of_check}
use Rattle.dst_read.specs.declared.faults.Checked.{Checked}
use Rattle.dst_read.specs.declared.faults.CheckFault.{CheckFault}
use Rattle.dst_read.specs.declared.faults.CheckFault.TheVariants.{Source, Frame}
use Rattle.dst_read.specs.Checking.{CheckingEnds}
use Rattle.dst_read.proofs.Checks.{plain_is_sound, sound_not_fault}
use Rattle.dst_read.proofs.check.check_file.Goals as goal

-- ---- of opening
same_source : (a b : OpenFault) → ◌≡◌ {A = Result Checked CheckFault} (Err (Source a)) (Err (Source b)) → a ≡ b
same_source a b e = cc

pub returns-in-Err-clause-file : goal.returns-in-Err-clause-file
returns-in-Err-clause-file g c fault e file told =
    rules_of_check file
    ∙ (subst (λ f. opening.HasOpenCause (form_refusal check) (g.S.Source.bytes c.args.source.now) (g.S.Source.faults c.args.source.now)
    (g.S.Source.faults c.open_file.new.source) f) (same_source c.in-Err.fault _ e) c.in-Err.ensures.stops) file told

pub returns-in-Err-clause-read : goal.returns-in-Err-clause-read
returns-in-Err-clause-read g c e =
    subst (λ f. opening.HasOpenCause (form_refusal check) (g.S.Source.bytes c.args.source.now) (g.S.Source.faults c.args.source.now)
    (g.S.Source.faults c.open_file.new.source) f) (same_source c.in-Err.fault _ e) c.in-Err.ensures.stops

pub returns-in-Err-clause-bytes : goal.returns-in-Err-clause-bytes
returns-in-Err-clause-bytes g c = c.open_file.ensures.bytes

pub returns-in-Err-clause-later : goal.returns-in-Err-clause-later
returns-in-Err-clause-later g c = c.open_file.ensures.later

pub returns-in-Err-clause-sound : goal.returns-in-Err-clause-sound
returns-in-Err-clause-sound g c = tt {0}

pub returns-in-Err-clause-frames : goal.returns-in-Err-clause-frames
returns-in-Err-clause-frames g c = tt {0}

source_not_frame : (a : OpenFault) (k : ℕ) (fault : FrameFault) → ◌≡◌ {A = Result Checked CheckFault} (Err (Source a)) (Err (Frame k fault)) → ⊥
source_not_frame a k fault e = cc

pub returns-in-Err-clause-frame : goal.returns-in-Err-clause-frame
returns-in-Err-clause-frame g c k fault e file told = absurd (source_not_frame c.in-Err.fault k fault e)

pub returns-in-Err-clause-given : goal.returns-in-Err-clause-given
returns-in-Err-clause-given g c file told = omega (arith, c.open_file.ensures.given)

pub returns-in-Err-clause-given_any : goal.returns-in-Err-clause-given_any
returns-in-Err-clause-given_any g c = omega (arith, c.open_file.ensures.given)

-- ---- of a plain form
pub returns-in-Plain-clause-sound : goal.returns-in-Plain-clause-sound
returns-in-Plain-clause-sound g c file told =
    let is = subst (IsAny file) c.in-Plain.is (c.in-Ok.ensures.opened file told) in
    plain_is_sound file (plain_seen c.in-Plain.form) is refl (rules_of_check file ∙ c.in-Ok.ensures.accepted file told)

pub returns-in-Plain-clause-frames : goal.returns-in-Plain-clause-frames
returns-in-Plain-clause-frames g c file told = ap (λ (f : Form). f.frames) (sym (subst (IsAny file) c.in-Plain.is (c.in-Ok.ensures.opened file told)))

pub returns-in-Plain-clause-bytes : goal.returns-in-Plain-clause-bytes
returns-in-Plain-clause-bytes g c = c.open_file.ensures.bytes

pub returns-in-Plain-clause-later : goal.returns-in-Plain-clause-later
returns-in-Plain-clause-later g c = c.open_file.ensures.later

pub returns-in-Plain-clause-file : goal.returns-in-Plain-clause-file
returns-in-Plain-clause-file g c fault e file told = absurd (sound_not_fault _ _ e)

pub returns-in-Plain-clause-frame : goal.returns-in-Plain-clause-frame
returns-in-Plain-clause-frame g c k fault e file told = absurd (sound_not_fault _ _ e)

pub returns-in-Plain-clause-read : goal.returns-in-Plain-clause-read
returns-in-Plain-clause-read g c e = absurd (sound_not_fault _ _ e)

pub returns-in-Plain-clause-given : goal.returns-in-Plain-clause-given
returns-in-Plain-clause-given g c file told = omega (arith, c.in-Ok.ensures.given)

pub returns-in-Plain-clause-given_any : goal.returns-in-Plain-clause-given_any
returns-in-Plain-clause-given_any g c = omega (arith, c.in-Ok.ensures.given)

-- ---- of the frames of a coded one
pub check_frames-requires-clause-walked : goal.check_frames-requires-clause-walked
check_frames-requires-clause-walked g c κs within file told = subst (IsAny file) c.in-Coded.is (c.in-Ok.ensures.opened file (sym c.in-Ok.ensures.bytes ∙ told))

pub check_frames-requires-clause-accepted : goal.check_frames-requires-clause-accepted
check_frames-requires-clause-accepted g c κs within file told = rules_of_check file ∙ c.in-Ok.ensures.accepted file (sym c.in-Ok.ensures.bytes ∙ told)

if_sound : (r : Result Checked CheckFault) (bytes : Option (List ℕ)) → ((file : List ℕ) → bytes ≡ Some file → CheckingEnds r file) →
    IfOk r (λ s. (file : List ℕ) → bytes ≡ Some file → OutcomeOf check file (done [] (check_line s.frames s.unread ∷ [])))
if_sound (Ok s) bytes h = λ file told. (h file told).0
if_sound (Err fault) bytes h = tt {0}

if_counted : (r : Result Checked CheckFault) (bytes : Option (List ℕ)) → ((file : List ℕ) → bytes ≡ Some file → CheckingEnds r file) →
    IfOk r (λ s. (file : List ℕ) → bytes ≡ Some file → s.frames ≡ (accepted file).frames)
if_counted (Ok s) bytes h = λ file told. (h file told).1
if_counted (Err fault) bytes h = tt {0}

pub returns-in-Coded-clause-sound : goal.returns-in-Coded-clause-sound
returns-in-Coded-clause-sound g c = if_sound c.check_frames.result (g.S.Source.bytes c.args.source.now)
    (λ file told. c.check_frames.ensures.ends file (c.in-Ok.ensures.bytes ∙ told))

pub returns-in-Coded-clause-frames : goal.returns-in-Coded-clause-frames
returns-in-Coded-clause-frames g c = if_counted c.check_frames.result (g.S.Source.bytes c.args.source.now)
    (λ file told. c.check_frames.ensures.ends file (c.in-Ok.ensures.bytes ∙ told))

pub returns-in-Coded-clause-file : goal.returns-in-Coded-clause-file
returns-in-Coded-clause-file g c fault e file told = subst (λ r. CheckingEnds r file) e (c.check_frames.ensures.ends file (c.in-Ok.ensures.bytes ∙ told))

pub returns-in-Coded-clause-frame : goal.returns-in-Coded-clause-frame
returns-in-Coded-clause-frame g c k fault e file told = subst (λ r. CheckingEnds r file) e (c.check_frames.ensures.ends file (c.in-Ok.ensures.bytes ∙ told))

pub returns-in-Coded-clause-given : goal.returns-in-Coded-clause-given
returns-in-Coded-clause-given g c file told =
    let is = subst (IsAny file) c.in-Coded.is (c.in-Ok.ensures.opened file told) in
    omega (arith, c.in-Ok.ensures.given, c.check_frames.ensures.given, ap (λ (f : Form). f.sound.size) is.form_is)

pub returns-in-Coded-clause-bytes : goal.returns-in-Coded-clause-bytes
returns-in-Coded-clause-bytes g c = c.check_frames.ensures.bytes ∙ c.open_file.ensures.bytes

pub returns-in-Coded-clause-later : goal.returns-in-Coded-clause-later
returns-in-Coded-clause-later g c = le_trans c.open_file.ensures.later c.check_frames.ensures.later

pub returns-in-Coded-clause-read : goal.returns-in-Coded-clause-read
returns-in-Coded-clause-read g c e =
    Rose-earlier (g.S.Source.faults c.args.source.now) (g.S.Source.faults c.open_file.new.source) (g.S.Source.faults c.check_frames.new.source)
    c.open_file.ensures.later (c.check_frames.ensures.read e)

pub returns-in-Coded-clause-given_any : goal.returns-in-Coded-clause-given_any
returns-in-Coded-clause-given_any g c = omega (arith, c.in-Ok.ensures.given, c.check_frames.ensures.given_any)
