-- Each answer is one of opening, or one of writing.
use Rattle.std.proofs.Common.{◌≡◌, inl, inr, ℕ, List, Option, Some, None, Result, Ok, Err, IfOk, ap, refl, sym, subst, ◌∙◌, arith}
use Rattle.std.specs.Prelude.{IfErr}
use Rattle.std.proofs.Math.Nat.{le_refl, le_trans}
use Rattle.std.proofs.lemmas.Result.{IfErr-at_err, IfOk-weaker}
use Rattle.dst_streams.proofs.Counts.{Rose-earlier}
use Rattle.dsdiff_spec.specs.Form.{Form}
use Rattle.dsdiff_spec.specs.Coded.{Picks, coded, stored_bytes}
use Rattle.dsdiff_spec.specs.Refusal.{form_refusal, refusal}
use Rattle.dsdiff_spec.specs.Rules.{accepted}
use Rattle.dsdiff_spec.specs.Words.{encode}
use Rattle.dsdiff_spec.proofs.ByRules.{not_refused}
use Rattle.dsdiff_chunks.specs.Forms.{plain_seen}
use Rattle.dsdiff_chunks.specs.declared.open.OpenFault.{OpenFault}
use Rattle.dsdiff_chunks.specs.declared.open.OpenFault.TheVariants.{Read, Memory, File}
use Rattle.dsdiff_chunks.specs.Opening as opening
use Rattle.dst_streams.specs.Told.{and_then}
use Rattle.dst_write.specs.Encoding.{EncodingEnds, HasItsCause}
use Rattle.dst_write.specs.Unfinished.{HoldsNothing}
use Rattle.dst_write.specs.declared.faults.EncodeFault.{EncodeFault}
use Rattle.dst_write.specs.declared.faults.EncodeFault.TheVariants.{Source, Write}
use Rattle.dst_write.specs.declared.faults.Encoded.{Encoded}
use Rattle.dst_write.proofs.Ending.{nothing_yet}
use Rattle.dst_write.proofs.encode.encode_file.Goals as goal

-- ---- of opening
abbrev failed : EncodeFault → Result Encoded EncodeFault
failed fault = Err fault

same_source : (a b : OpenFault) → failed (Source a) ≡ failed (Source b) → a ≡ b
same_source a b e = cc

of_source : (a : OpenFault) → failed (Source a) ≡ failed Write → ⊥
of_source a e = absurd cc

rules_of_encode : (level : ℕ) (file : List ℕ) → refusal (encode level) file ≡ form_refusal (encode 1) file
unfolding refusal
rules_of_encode level file = refl

pub returns-in-Err-clause-bytes : goal.returns-in-Err-clause-bytes
returns-in-Err-clause-bytes g c = c.open_plain.ensures.bytes

pub returns-in-Err-clause-loan : goal.returns-in-Err-clause-loan
returns-in-Err-clause-loan g c = c.open_plain.ensures.loan

pub returns-in-Err-clause-later : goal.returns-in-Err-clause-later
returns-in-Err-clause-later g c = (c.open_plain.ensures.later, le_refl (g.K.Sink.faults c.args.sink.now))

pub returns-in-Err-clause-file : goal.returns-in-Err-clause-file
returns-in-Err-clause-file g c fault e file told level =
    rules_of_encode level file
    ∙ (subst (λ f. opening.HasOpenCause (form_refusal (encode 1)) (g.S.Source.bytes c.args.source.now) (g.S.Source.faults c.args.source.now)
    (g.S.Source.faults c.open_plain.new.source) f) (same_source c.in-Err.fault _ e) c.in-Err.ensures.stops) file told

pub returns-in-Err-clause-read : goal.returns-in-Err-clause-read
returns-in-Err-clause-read g c e =
    subst (λ f. opening.HasOpenCause (form_refusal (encode 1)) (g.S.Source.bytes c.args.source.now) (g.S.Source.faults c.args.source.now)
    (g.S.Source.faults c.open_plain.new.source) f) (same_source c.in-Err.fault Read e) c.in-Err.ensures.stops

pub returns-in-Err-clause-untouched : goal.returns-in-Err-clause-untouched
returns-in-Err-clause-untouched g c fault e = refl

pub returns-in-Err-clause-write : goal.returns-in-Err-clause-write
returns-in-Err-clause-write g c e = absurd (of_source c.in-Err.fault e)

pub returns-in-Err-clause-unfinished : goal.returns-in-Err-clause-unfinished
returns-in-Err-clause-unfinished g c e file told nothing = nothing_yet _ _ (g.K.Sink.written c.args.sink.now) nothing

pub returns-in-Err-clause-sure : goal.returns-in-Err-clause-sure
returns-in-Err-clause-sure g c e file told room holds fits = of_source c.in-Err.fault e

pub returns-in-Err-clause-write_accepted : goal.returns-in-Err-clause-write_accepted
returns-in-Err-clause-write_accepted g c e file told level = absurd (of_source c.in-Err.fault e)

pub returns-in-Err-clause-memory : goal.returns-in-Err-clause-memory
returns-in-Err-clause-memory g c refused e = refl

pub returns-in-Err-clause-refused : goal.returns-in-Err-clause-refused
returns-in-Err-clause-refused g c file told level fault e = refl

pub returns-in-Err-clause-given : goal.returns-in-Err-clause-given
returns-in-Err-clause-given g c file told = omega (arith, c.open_plain.ensures.given)

pub returns-in-Err-clause-given_any : goal.returns-in-Err-clause-given_any
returns-in-Err-clause-given_any g c = omega (arith, c.open_plain.ensures.given)

-- ---- of writing
-- the cause of the fault that is answered
its_cause : (r : Result Encoded EncodeFault) (fault : EncodeFault) (source_before source_now sink_before sink_now : ℕ) → r ≡ Err fault →
    IfErr r (λ fault. HasItsCause fault source_before source_now sink_before sink_now) → HasItsCause fault source_before source_now sink_before sink_now
its_cause r fault a b d e is h = IfErr-at_err (λ fault. HasItsCause fault a b d e) is h

pub returns-clause-bytes : goal.returns-clause-bytes
returns-clause-bytes g c = c.write_encoded.ensures.bytes ∙ c.open_plain.ensures.bytes

pub returns-clause-loan : goal.returns-clause-loan
returns-clause-loan g c = c.write_encoded.ensures.loan ∙ c.open_plain.ensures.loan

pub returns-clause-later : goal.returns-clause-later
returns-clause-later g c = (le_trans c.open_plain.ensures.later c.write_encoded.ensures.source_later, c.write_encoded.ensures.sink_later)

pub returns-clause-settled : goal.returns-clause-settled
returns-clause-settled g c = c.write_encoded.ensures.settled

pub returns-clause-file : goal.returns-clause-file
returns-clause-file g c fault e file told level =
    absurd (its_cause c.write_encoded.result (Source (File fault)) _ _ _ _ e c.write_encoded.ensures.cause)

pub returns-clause-untouched : goal.returns-clause-untouched
returns-clause-untouched g c fault e = absurd (its_cause c.write_encoded.result (Source (File fault)) _ _ _ _ e c.write_encoded.ensures.cause)

pub returns-clause-memory : goal.returns-clause-memory
returns-clause-memory g c refused e = absurd (its_cause c.write_encoded.result (Source (Memory refused)) _ _ _ _ e c.write_encoded.ensures.cause)

pub returns-clause-read : goal.returns-clause-read
returns-clause-read g c e =
    Rose-earlier _ _ _ c.open_plain.ensures.later (its_cause c.write_encoded.result (Source Read) _ _ _ _ e c.write_encoded.ensures.cause)

pub returns-clause-write : goal.returns-clause-write
returns-clause-write g c e = its_cause c.write_encoded.result Write _ _ _ _ e c.write_encoded.ensures.cause

if_encoded : (r : Result Encoded EncodeFault) (picks : Picks) (bytes : Option (List ℕ)) (form : List ℕ → Form) (old new : Option (List ℕ)) (room : Option ℕ) →
    ((file : List ℕ) → bytes ≡ Some file → EncodingEnds r picks file (form file) old new room) →
    IfOk r (λ _. (file : List ℕ) → bytes ≡ Some file → HoldsNothing old → new ≡ and_then old (coded picks file (form file)))
if_encoded (Ok e) picks bytes form old new room h = λ file told. (h file told).written
if_encoded (Err fault) picks bytes form old new room h = tt {0}

if_stored : (r : Result Encoded EncodeFault) (picks : Picks) (bytes : Option (List ℕ)) (form : List ℕ → Form) (old new : Option (List ℕ)) (room : Option ℕ) →
    ((file : List ℕ) → bytes ≡ Some file → EncodingEnds r picks file (form file) old new room) →
    IfOk r (λ e. (file : List ℕ) → bytes ≡ Some file → e.bytes ≡ stored_bytes picks file (form file))
if_stored (Ok e) picks bytes form old new room h = λ file told. (h file told).bytes
if_stored (Err fault) picks bytes form old new room h = tt {0}

if_ok : (r : Result Encoded EncodeFault) (P : Type 0) → P → IfOk r (λ _. P)
if_ok (Ok e) P p = p
if_ok (Err fault) P p = tt {0}

pub returns-clause-accepted : goal.returns-clause-accepted
returns-clause-accepted g c =
    if_ok c.write_encoded.result ((file : List ℕ) → g.S.Source.bytes c.args.source.now ≡ Some file → (level : ℕ) → refusal (encode level) file ≡ None)
    (λ file told level. rules_of_encode level file ∙ c.in-Ok.ensures.accepted file told)

pub returns-clause-encoded : goal.returns-clause-encoded
returns-clause-encoded g c =
    if_encoded c.write_encoded.result (g.P.Picker.picks c.args.picker.now) (g.S.Source.bytes c.args.source.now) accepted (g.K.Sink.written c.args.sink.now)
    (g.K.Sink.written c.write_encoded.new.sink) (g.K.Sink.room c.args.sink.now)
    (λ file told.
    subst (λ form. EncodingEnds c.write_encoded.result (g.P.Picker.picks c.args.picker.now) file form (g.K.Sink.written c.args.sink.now)
    (g.K.Sink.written c.write_encoded.new.sink) (g.K.Sink.room c.args.sink.now)) (sym (c.in-Ok.ensures.opened file told))
    (c.write_encoded.ensures.written file (c.in-Ok.ensures.bytes ∙ told)))

pub returns-clause-stored : goal.returns-clause-stored
returns-clause-stored g c =
    if_stored c.write_encoded.result (g.P.Picker.picks c.args.picker.now) (g.S.Source.bytes c.args.source.now) accepted (g.K.Sink.written c.args.sink.now)
    (g.K.Sink.written c.write_encoded.new.sink) (g.K.Sink.room c.args.sink.now)
    (λ file told.
    subst (λ form. EncodingEnds c.write_encoded.result (g.P.Picker.picks c.args.picker.now) file form (g.K.Sink.written c.args.sink.now)
    (g.K.Sink.written c.write_encoded.new.sink) (g.K.Sink.room c.args.sink.now)) (sym (c.in-Ok.ensures.opened file told))
    (c.write_encoded.ensures.written file (c.in-Ok.ensures.bytes ∙ told)))

ends_with : (r : Result Encoded EncodeFault) (fault : EncodeFault) (picks : Picks) (file : List ℕ) (seen form : Form) (old new : Option (List ℕ))
    (room : Option ℕ) → r ≡ Err fault → form ≡ seen →
    EncodingEnds r picks file seen old new room → EncodingEnds (Err fault) picks file form old new room
ends_with r fault picks file seen form old new room e is h =
    subst (λ form. EncodingEnds (Err fault) picks file form old new room) (sym is) (subst (λ r. EncodingEnds r picks file seen old new room) e h)

pub returns-clause-unfinished : goal.returns-clause-unfinished
returns-clause-unfinished g c (inl e) file told =
    (ends_with c.write_encoded.result _ (g.P.Picker.picks c.args.picker.now) file (plain_seen c.in-Ok.opened.form) (accepted file)
    (g.K.Sink.written c.args.sink.now) (g.K.Sink.written c.write_encoded.new.sink) (g.K.Sink.room c.args.sink.now) e (c.in-Ok.ensures.opened file told)
    (c.write_encoded.ensures.written file (c.in-Ok.ensures.bytes ∙ told))).unfinished
returns-clause-unfinished g c (inr e) file told =
    (ends_with c.write_encoded.result _ (g.P.Picker.picks c.args.picker.now) file (plain_seen c.in-Ok.opened.form) (accepted file)
    (g.K.Sink.written c.args.sink.now) (g.K.Sink.written c.write_encoded.new.sink) (g.K.Sink.room c.args.sink.now) e (c.in-Ok.ensures.opened file told)
    (c.write_encoded.ensures.written file (c.in-Ok.ensures.bytes ∙ told))).unfinished

pub returns-clause-sure : goal.returns-clause-sure
returns-clause-sure g c e file told =
    (ends_with c.write_encoded.result _ (g.P.Picker.picks c.args.picker.now) file (plain_seen c.in-Ok.opened.form) (accepted file)
    (g.K.Sink.written c.args.sink.now) (g.K.Sink.written c.write_encoded.new.sink) (g.K.Sink.room c.args.sink.now) e (c.in-Ok.ensures.opened file told)
    (c.write_encoded.ensures.written file (c.in-Ok.ensures.bytes ∙ told))).lacks refl

pub returns-clause-refused : goal.returns-clause-refused
returns-clause-refused g c file told level fault e =
    absurd (not_refused (form_refusal (encode 1) file) fault (c.in-Ok.ensures.accepted file told) (sym (rules_of_encode level file) ∙ e))

pub returns-clause-write_accepted : goal.returns-clause-write_accepted
returns-clause-write_accepted g c e file told level = rules_of_encode level file ∙ c.in-Ok.ensures.accepted file told

pub returns-clause-frames : goal.returns-clause-frames
returns-clause-frames g c =
    IfOk-weaker c.write_encoded.result _ _ (λ e known file told. known ∙ ap (λ (f : Form). f.frames) (sym (c.in-Ok.ensures.opened file told)))
    c.write_encoded.ensures.frames

-- what is read
pub returns-clause-given : goal.returns-clause-given
returns-clause-given g c file told =
    let end = ap (λ (f : Form). f.end) (c.in-Ok.ensures.opened file told) in
    omega (arith, c.in-Ok.ensures.given, c.write_encoded.ensures.given, end)

pub returns-clause-given_any : goal.returns-clause-given_any
returns-clause-given_any g c = omega (arith, c.in-Ok.ensures.given, c.write_encoded.ensures.given, c.in-Ok.opened.form.lawful.end)
