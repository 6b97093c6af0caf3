-- Each answer is one of opening, or one of writing.
use Rattle.std.proofs.Common.{◌≡◌, ◌+◌, ◌^◌, refl, inl, inr, ℕ, List, ◌∷◌, [], Option, Some, Result, Ok, Err, IfOk, ap, sym, subst, ◌∙◌, arith}
use Rattle.std.proofs.Math.Nat.{le_refl, le_trans}
use Rattle.dst_streams.specs.Told.{and_then}
use Rattle.dsdiff_spec.specs.Form.{Form, size_of_sound}
use Rattle.dsdiff_spec.specs.Refusal.{form_refusal}
use Rattle.dsdiff_spec.specs.Rules.{accepted}
use Rattle.dsdiff_spec.specs.Lines.{decoded_line}
use Rattle.dsdiff_spec.specs.Outcome.{done}
use Rattle.dsdiff_spec.specs.Words.{decode, index}
use Rattle.dsdiff_spec.proofs.ByRules.{not_refused}
use Rattle.dsdiff_chunks.specs.declared.open.OpenFault.{OpenFault}
use Rattle.dsdiff_chunks.specs.declared.open.OpenFault.TheVariants.{Read, Memory, File}
use Rattle.dst_streams.proofs.Counts.{Rose-earlier}
use Rattle.dsdiff_chunks.specs.Opening as opening
use Rattle.dst_commands.specs.Commands.{OutcomeOf}
use Rattle.dst_commands.proofs.InOrder.{rules_of_decode}
use Rattle.dst_read.specs.declared.faults.DecodeFault.{DecodeFault}
use Rattle.dst_read.specs.declared.faults.DecodeFault.TheVariants.{Source, Write}
use Rattle.dst_read.specs.declared.faults.Decoded.{Decoded}
use Rattle.dst_read.specs.Decoding.{DecodingEnds}
use Rattle.dst_read.proofs.Stopping.{nothing_written}
use Rattle.dst_read.proofs.Causes.{given_by_opening, its_cause, not_frame, not_write, not_read, not_file}
use Rattle.dst_read.proofs.decode.decode_file.Goals as goal

-- ---- of opening
same_source : (a b : OpenFault) → ◌≡◌ {A = Result Decoded DecodeFault} (Err (Source a)) (Err (Source b)) → a ≡ b
same_source a b e = cc

pub returns-in-Err-clause-file : goal.returns-in-Err-clause-file
returns-in-Err-clause-file g c fault e file told =
    rules_of_decode file
    ∙ (subst (λ f. opening.HasOpenCause (form_refusal index) (g.S.Source.bytes c.args.source.now) (g.S.Source.faults c.args.source.now)
    (g.S.Source.faults c.open_file.new.source) f) (same_source c.in-Err.fault _ e) c.in-Err.ensures.stops) file told

pub returns-in-Err-clause-read : goal.returns-in-Err-clause-read
returns-in-Err-clause-read g c e =
    subst (λ f. opening.HasOpenCause (form_refusal index) (g.S.Source.bytes c.args.source.now) (g.S.Source.faults c.args.source.now)
    (g.S.Source.faults c.open_file.new.source) f) (same_source c.in-Err.fault _ e) c.in-Err.ensures.stops

pub returns-in-Err-clause-cut_short : goal.returns-in-Err-clause-cut_short
returns-in-Err-clause-cut_short g c e file told =
    nothing_written file (g.K.Sink.written c.args.sink.now) (g.met.S.Source.told_are_bytes c.args.source.now file told)

pub returns-in-Err-clause-bytes : goal.returns-in-Err-clause-bytes
returns-in-Err-clause-bytes g c = c.open_file.ensures.bytes

pub returns-in-Err-clause-later : goal.returns-in-Err-clause-later
returns-in-Err-clause-later g c = (c.open_file.ensures.later, le_refl (g.K.Sink.faults c.args.sink.now))

pub returns-in-Err-clause-untouched : goal.returns-in-Err-clause-untouched
returns-in-Err-clause-untouched g c fault e = refl

pub returns-in-Err-clause-refused : goal.returns-in-Err-clause-refused
returns-in-Err-clause-refused g c file told fault e = refl

pub returns-in-Err-clause-memory : goal.returns-in-Err-clause-memory
returns-in-Err-clause-memory g c refused e = refl

pub returns-in-Err-clause-frame : goal.returns-in-Err-clause-frame
returns-in-Err-clause-frame g c k fault e file told = absurd (not_frame c.in-Err.fault k fault e)

pub returns-in-Err-clause-write : goal.returns-in-Err-clause-write
returns-in-Err-clause-write g c e = absurd (not_write c.in-Err.fault e)

pub returns-in-Err-clause-sure : goal.returns-in-Err-clause-sure
returns-in-Err-clause-sure g c e file told o is room holds fits = not_write c.in-Err.fault e

pub returns-in-Err-clause-given : goal.returns-in-Err-clause-given
returns-in-Err-clause-given g c file told =
    given_by_opening (g.S.Source.given c.args.source.now) (g.S.Source.given c.open_file.new.source) (accepted file).end c.open_file.ensures.given

pub returns-in-Err-clause-given_any : goal.returns-in-Err-clause-given_any
returns-in-Err-clause-given_any g c =
    given_by_opening (g.S.Source.given c.args.source.now) (g.S.Source.given c.open_file.new.source) (2 ^ 50 + 12) c.open_file.ensures.given

-- ---- of room
pub returns-in-Err-new-clause-bytes : goal.returns-in-Err-new-clause-bytes
returns-in-Err-new-clause-bytes g c = c.open_file.ensures.bytes

pub returns-in-Err-new-clause-later : goal.returns-in-Err-new-clause-later
returns-in-Err-new-clause-later g c = (c.open_file.ensures.later, le_refl (g.K.Sink.faults c.args.sink.now))

pub returns-in-Err-new-clause-untouched : goal.returns-in-Err-new-clause-untouched
returns-in-Err-new-clause-untouched g c fault e = refl

pub returns-in-Err-new-clause-refused : goal.returns-in-Err-new-clause-refused
returns-in-Err-new-clause-refused g c file told fault e = refl

pub returns-in-Err-new-clause-memory : goal.returns-in-Err-new-clause-memory
returns-in-Err-new-clause-memory g c refused e = refl

pub returns-in-Err-new-clause-frame : goal.returns-in-Err-new-clause-frame
returns-in-Err-new-clause-frame g c k fault e file told = absurd (not_frame (Memory c.in-Err-new.refused) k fault e)

pub returns-in-Err-new-clause-write : goal.returns-in-Err-new-clause-write
returns-in-Err-new-clause-write g c e = absurd (not_write (Memory c.in-Err-new.refused) e)

pub returns-in-Err-new-clause-sure : goal.returns-in-Err-new-clause-sure
returns-in-Err-new-clause-sure g c e file told o is room holds fits = not_write (Memory c.in-Err-new.refused) e

pub returns-in-Err-new-clause-given : goal.returns-in-Err-new-clause-given
returns-in-Err-new-clause-given g c file told =
    given_by_opening (g.S.Source.given c.args.source.now) (g.S.Source.given c.open_file.new.source) (accepted file).end c.open_file.ensures.given

pub returns-in-Err-new-clause-given_any : goal.returns-in-Err-new-clause-given_any
returns-in-Err-new-clause-given_any g c =
    given_by_opening (g.S.Source.given c.args.source.now) (g.S.Source.given c.open_file.new.source) (2 ^ 50 + 12) c.open_file.ensures.given

pub returns-in-Err-new-clause-file : goal.returns-in-Err-new-clause-file
returns-in-Err-new-clause-file g c fault e file told = absurd (not_file c.in-Err-new.refused fault e)

pub returns-in-Err-new-clause-read : goal.returns-in-Err-new-clause-read
returns-in-Err-new-clause-read g c e = absurd (not_read c.in-Err-new.refused e)

pub returns-in-Err-new-clause-cut_short : goal.returns-in-Err-new-clause-cut_short
returns-in-Err-new-clause-cut_short g c e file told =
    nothing_written file (g.K.Sink.written c.args.sink.now) (g.met.S.Source.told_are_bytes c.args.source.now file told)

-- ---- of writing
pub write_decoded-requires-clause-size : goal.write_decoded-requires-clause-size
write_decoded-requires-clause-size g c κs within = c.in-Ok.ensures.size

pub write_decoded-requires-clause-opened : goal.write_decoded-requires-clause-opened
write_decoded-requires-clause-opened g c κs within file told =
    let told_before = sym c.in-Ok.ensures.bytes ∙ told in
    let is = c.in-Ok.ensures.opened file told_before in
    record { accepts = rules_of_decode file ∙ c.in-Ok.ensures.accepted file told_before; form_is = is.form_is; entries_are = is.entries_are }

-- a file that is written from isn't refused
pub returns-clause-refused : goal.returns-clause-refused
returns-clause-refused g c file told fault e = absurd (not_refused _ fault (rules_of_decode file ∙ c.in-Ok.ensures.accepted file told) e)

if_decoded : (r : Result Decoded DecodeFault) (bytes : Option (List ℕ)) (old new : Option (List ℕ)) (room : Option ℕ) →
    ((file : List ℕ) → bytes ≡ Some file → DecodingEnds r file old new room) →
    IfOk r (λ s. (file : List ℕ) → bytes ≡ Some file →
    (out : List ℕ) × OutcomeOf decode file (done out (decoded_line s.frames s.bytes ∷ [])) × (new ≡ and_then old out))
if_decoded (Ok s) bytes old new room h = h
if_decoded (Err fault) bytes old new room h = tt {0}

pub returns-clause-decoded : goal.returns-clause-decoded
returns-clause-decoded g c =
    if_decoded c.write_decoded.result (g.S.Source.bytes c.args.source.now) (g.K.Sink.written c.args.sink.now) (g.K.Sink.written c.write_decoded.new.sink)
    (g.K.Sink.room c.args.sink.now)
    (λ file told. c.write_decoded.ensures.written file (c.in-Ok.ensures.bytes ∙ told))

pub returns-clause-frame : goal.returns-clause-frame
returns-clause-frame g c k fault e file told =
    subst (λ r. DecodingEnds r file (g.K.Sink.written c.args.sink.now) (g.K.Sink.written c.write_decoded.new.sink) (g.K.Sink.room c.args.sink.now)) e
    (c.write_decoded.ensures.written file (c.in-Ok.ensures.bytes ∙ told))

pub returns-clause-cut_short : goal.returns-clause-cut_short
returns-clause-cut_short g c (inl e) file told =
    subst (λ r. DecodingEnds r file (g.K.Sink.written c.args.sink.now) (g.K.Sink.written c.write_decoded.new.sink) (g.K.Sink.room c.args.sink.now)) e
    (c.write_decoded.ensures.written file (c.in-Ok.ensures.bytes ∙ told))
returns-clause-cut_short g c (inr e) file told =
    (subst (λ r. DecodingEnds r file (g.K.Sink.written c.args.sink.now) (g.K.Sink.written c.write_decoded.new.sink) (g.K.Sink.room c.args.sink.now)) e
    (c.write_decoded.ensures.written file (c.in-Ok.ensures.bytes ∙ told))).0

pub returns-clause-sure : goal.returns-clause-sure
returns-clause-sure g c e file told =
    (subst (λ r. DecodingEnds r file (g.K.Sink.written c.args.sink.now) (g.K.Sink.written c.write_decoded.new.sink) (g.K.Sink.room c.args.sink.now)) e
    (c.write_decoded.ensures.written file (c.in-Ok.ensures.bytes ∙ told))).1

-- ---- the devices
pub returns-clause-bytes : goal.returns-clause-bytes
returns-clause-bytes g c = c.write_decoded.ensures.bytes ∙ c.open_file.ensures.bytes

pub returns-clause-later : goal.returns-clause-later
returns-clause-later g c = (
  le_trans c.open_file.ensures.later c.write_decoded.ensures.source_later,
  c.write_decoded.ensures.sink_later,
)

pub returns-clause-settled : goal.returns-clause-settled
returns-clause-settled g c = c.write_decoded.ensures.settled

-- while a file is written it isn't refused, nor memory
pub returns-clause-file : goal.returns-clause-file
returns-clause-file g c fault e file told = absurd (its_cause c.write_decoded.result (Source (File fault)) _ _ _ _ c.write_decoded.ensures.cause e)

pub returns-clause-untouched : goal.returns-clause-untouched
returns-clause-untouched g c fault e = absurd (its_cause c.write_decoded.result (Source (File fault)) _ _ _ _ c.write_decoded.ensures.cause e)

pub returns-clause-memory : goal.returns-clause-memory
returns-clause-memory g c refused e = absurd (its_cause c.write_decoded.result (Source (Memory refused)) _ _ _ _ c.write_decoded.ensures.cause e)

pub returns-clause-read : goal.returns-clause-read
returns-clause-read g c e =
    Rose-earlier (g.S.Source.faults c.args.source.now) (g.S.Source.faults c.open_file.new.source) (g.S.Source.faults c.write_decoded.new.source)
    c.open_file.ensures.later (its_cause c.write_decoded.result (Source Read) _ _ _ _ c.write_decoded.ensures.cause e)

pub returns-clause-write : goal.returns-clause-write
returns-clause-write g c e = its_cause c.write_decoded.result Write _ _ _ _ c.write_decoded.ensures.cause e

-- what is answered
if_done : (r : Result Decoded DecodeFault) (is : Decoded) (P : Decoded → Type 0) → IfOk r (λ d. d ≡ is) → P is → IfOk r P
if_done (Ok d) is P e h = subst P (sym e) h
if_done (Err fault) is P e h = tt {0}

pub returns-clause-frames : goal.returns-clause-frames
returns-clause-frames g c =
    if_done c.write_decoded.result _ (λ s. (file : List ℕ) → g.S.Source.bytes c.args.source.now ≡ Some file →
    s.frames ≡ (accepted file).frames) c.write_decoded.ensures.done
    (λ file told. ap (λ (form : Form). form.frames) (sym (c.in-Ok.ensures.opened file told).form_is))

pub returns-clause-size : goal.returns-clause-size
returns-clause-size g c =
    if_done c.write_decoded.result _ (λ s. (file : List ℕ) → g.S.Source.bytes c.args.source.now ≡ Some file →
    s.bytes ≡ size_of_sound (accepted file)) c.write_decoded.ensures.done
    (λ file told. ap size_of_sound (sym (c.in-Ok.ensures.opened file told).form_is))

-- what is read
pub returns-clause-given : goal.returns-clause-given
returns-clause-given g c file told =
    let end = ap (λ (form : Form). form.end) (c.in-Ok.ensures.opened file told).form_is in
    omega (arith, c.in-Ok.ensures.given, c.write_decoded.ensures.given, end)

pub returns-clause-given_any : goal.returns-clause-given_any
returns-clause-given_any g c = omega (arith, c.in-Ok.ensures.given, c.write_decoded.ensures.given, c.in-Ok.walked.form.lawful.end)
