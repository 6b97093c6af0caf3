-- Each answer is one of opening, or one of writing.
use Rattle.std.proofs.Common.{◌≡◌, inl, inr, ℕ, List, ◌∷◌, [], Option, Some, Result, Ok, Err, IfOk, ap, sym, subst, ◌∙◌, arith}
use Rattle.dst_streams.specs.Told.{and_then}
use Rattle.dsdiff_spec.specs.Form.{Form, size_of_sound}
use Rattle.dsdiff_spec.specs.Refusal.{form_refusal}
use Rattle.dsdiff_spec.specs.Rules.{accepted}
use Rattle.dsdiff_spec.specs.Lines.{decoded_line}
use Rattle.dsdiff_spec.specs.Outcome.{done}
use Rattle.dsdiff_spec.specs.Words.{decode_dsf}
use Rattle.dsdiff_spec.proofs.ByRules.{not_refused}
use Rattle.dsdiff_chunks.specs.declared.open.OpenFault.{OpenFault}
use Rattle.dsdiff_chunks.specs.Opening as opening
use Rattle.dst_commands.specs.Commands.{OutcomeOf}
use Rattle.dst_dsf.proofs.OneDsf.{rules_of_decode_dsf, decodable}
use Rattle.dst_read.specs.declared.faults.DecodeFault.{DecodeFault}
use Rattle.dst_read.specs.declared.faults.DecodeFault.TheVariants.{Source}
use Rattle.dst_read.specs.declared.faults.Decoded.{Decoded}
use Rattle.dst_dsf.specs.Decoding.{DecodingEnds}
use Rattle.dst_dsf.proofs.Ending.{nothing_written}
use Rattle.dst_dsf.proofs.decode.decode_dsf.Goals as goal

-- ---- of opening
same_source : (a b : OpenFault) → ◌≡◌ {A = Result Decoded DecodeFault} (Err (Source a)) (Err (Source b)) → a ≡ b
same_source a b e = cc

pub returns-in-Err-clause-file : goal.returns-in-Err-clause-file
returns-in-Err-clause-file g c fault e file told =
    rules_of_decode_dsf file
    ∙ (subst (λ f. opening.HasOpenCause (form_refusal decode_dsf) (g.S.Source.bytes c.args.source.now) (g.S.Source.faults c.args.source.now)
    (g.S.Source.faults c.open_file.new.source) f) (same_source c.in-Err.fault _ e) c.in-Err.ensures.stops) file told

pub returns-in-Err-clause-read : goal.returns-in-Err-clause-read
returns-in-Err-clause-read g c e =
    subst (λ f. opening.HasOpenCause (form_refusal decode_dsf) (g.S.Source.bytes c.args.source.now) (g.S.Source.faults c.args.source.now)
    (g.S.Source.faults c.open_file.new.source) f) (same_source c.in-Err.fault _ e) c.in-Err.ensures.stops

pub returns-in-Err-clause-cut_short : goal.returns-in-Err-clause-cut_short
returns-in-Err-clause-cut_short g c e file told =
    nothing_written file (g.K.Sink.written c.args.sink.now) (g.met.S.Source.told_are_bytes c.args.source.now file told)

-- ---- of writing
-- a file that is written from isn't refused
pub returns-clause-refused : goal.returns-clause-refused
returns-clause-refused g c file told fault e = absurd (not_refused _ fault (rules_of_decode_dsf file ∙ c.in-Ok.ensures.accepted file told) e)

pub write_decoded-requires-clause-walked : goal.write_decoded-requires-clause-walked
write_decoded-requires-clause-walked g c κs within file told =
    let told_before = sym c.in-Ok.ensures.bytes ∙ told in
    let opened = c.in-Ok.ensures.opened file told_before in
    record {
      accepts = decodable file (rules_of_decode_dsf file ∙ c.in-Ok.ensures.accepted file told_before);
      form_is = opened.walk.form_is;
      entries_are = opened.walk.entries_are;
    }

pub write_decoded-requires-clause-opened : goal.write_decoded-requires-clause-opened
write_decoded-requires-clause-opened g c κs within file told =
    let told_before = sym c.in-Ok.ensures.bytes ∙ told in
    let opened = c.in-Ok.ensures.opened file told_before in
    record {
      accepts = rules_of_decode_dsf file ∙ c.in-Ok.ensures.accepted file told_before;
      form_is = opened.walk.form_is;
      said_is = opened.said_is;
    }

if_decoded : (r : Result Decoded DecodeFault) (bytes : Option (List ℕ)) (old new : Option (List ℕ)) (room : Option ℕ) →
    ((file : List ℕ) → bytes ≡ Some file → DecodingEnds r file old new room) →
    IfOk r (λ s. (file : List ℕ) → bytes ≡ Some file →
    (out : List ℕ) × OutcomeOf decode_dsf file (done out (decoded_line s.frames s.bytes ∷ [])) × (new ≡ and_then old out))
if_decoded (Ok s) bytes old new room h = h
if_decoded (Err fault) bytes old new room h = tt {0}

pub returns-clause-decoded : goal.returns-clause-decoded
returns-clause-decoded g c =
    if_decoded c.write_decoded.result (g.S.Source.bytes c.args.source.now) (g.K.Sink.written c.args.sink.now) (g.K.Sink.written c.write_decoded.new.sink)
    (g.K.Sink.room c.args.sink.now)
    (λ file told. c.write_decoded.ensures.written file (c.in-Ok.ensures.bytes ∙ told))

pub returns-clause-frame : goal.returns-clause-frame
returns-clause-frame g c k fault e file told =
    subst (λ r. DecodingEnds r file (g.K.Sink.written c.args.sink.now) (g.K.Sink.written c.write_decoded.new.sink) (g.K.Sink.room c.args.sink.now)) e
    (c.write_decoded.ensures.written file (c.in-Ok.ensures.bytes ∙ told))

pub returns-clause-cut_short : goal.returns-clause-cut_short
returns-clause-cut_short g c (inl e) file told =
    subst (λ r. DecodingEnds r file (g.K.Sink.written c.args.sink.now) (g.K.Sink.written c.write_decoded.new.sink) (g.K.Sink.room c.args.sink.now)) e
    (c.write_decoded.ensures.written file (c.in-Ok.ensures.bytes ∙ told))
returns-clause-cut_short g c (inr e) file told =
    (subst (λ r. DecodingEnds r file (g.K.Sink.written c.args.sink.now) (g.K.Sink.written c.write_decoded.new.sink) (g.K.Sink.room c.args.sink.now)) e
    (c.write_decoded.ensures.written file (c.in-Ok.ensures.bytes ∙ told))).0

pub returns-clause-sure : goal.returns-clause-sure
returns-clause-sure g c e file told =
    (subst (λ r. DecodingEnds r file (g.K.Sink.written c.args.sink.now) (g.K.Sink.written c.write_decoded.new.sink) (g.K.Sink.room c.args.sink.now)) e
    (c.write_decoded.ensures.written file (c.in-Ok.ensures.bytes ∙ told))).1

-- what is answered
if_done : (r : Result Decoded DecodeFault) (is : Decoded) (P : Decoded → Type 0) → IfOk r (λ d. d ≡ is) → P is → IfOk r P
if_done (Ok d) is P e h = subst P (sym e) h
if_done (Err fault) is P e h = tt {0}

pub returns-clause-frames : goal.returns-clause-frames
returns-clause-frames g c =
    if_done c.write_decoded.result _ (λ s. (file : List ℕ) → g.S.Source.bytes c.args.source.now ≡ Some file →
    s.frames ≡ (accepted file).frames) c.write_decoded.ensures.done
    (λ file told. ap (λ (form : Form). form.frames) (sym (c.in-Ok.ensures.opened file told).walk.form_is))

pub returns-clause-size : goal.returns-clause-size
returns-clause-size g c =
    if_done c.write_decoded.result _ (λ s. (file : List ℕ) → g.S.Source.bytes c.args.source.now ≡ Some file →
    s.bytes ≡ size_of_sound (accepted file)) c.write_decoded.ensures.done
    (λ file told. ap size_of_sound (sym (c.in-Ok.ensures.opened file told).walk.form_is))

-- what is read
pub returns-clause-given : goal.returns-clause-given
returns-clause-given g c file told =
    let end = ap (λ (form : Form). form.end) (c.in-Ok.ensures.opened file told).walk.form_is in
    omega (arith, c.in-Ok.ensures.given, c.write_decoded.ensures.given, end)

pub returns-clause-given_any : goal.returns-clause-given_any
returns-clause-given_any g c = omega (arith, c.in-Ok.ensures.given, c.write_decoded.ensures.given, c.in-Ok.opened.walked.form.lawful.end)
