-- Each answer is one of opening, or one of writing.
use Rattle.std.proofs.Common.{◌≡◌, inl, inr, ℕ, Result, Err, refl, ap, subst, ◌∙◌, arith}
use Rattle.std.proofs.Math.Nat.{le_refl, le_trans}
use Rattle.std.specs.Prelude.{IfErr}
use Rattle.std.proofs.lemmas.Result.{IfErr-at_err}
use Rattle.dst_streams.proofs.Counts.{Rose-earlier}
use Rattle.dsdiff_spec.specs.Form.{Form}
use Rattle.dsdiff_spec.specs.Refusal.{form_refusal}
use Rattle.dsdiff_spec.specs.Words as words
use Rattle.dsdiff_spec.proofs.ByRules.{not_refused}
use Rattle.dsdiff_chunks.specs.declared.open.OpenFault.{OpenFault}
use Rattle.dsdiff_chunks.specs.declared.open.OpenFault.TheVariants.{Read, Memory, File}
use Rattle.dsdiff_chunks.specs.Opening as opening
use Rattle.dst_cut.specs.Cutting.{HasItsCause}
use Rattle.dst_cut.specs.declared.cut.Cut.{Cut}
use Rattle.dst_cut.specs.declared.cut.CutFault.{CutFault}
use Rattle.dst_cut.specs.declared.cut.CutFault.TheVariants.{Source, Write}
use Rattle.dst_cut.proofs.CutOutcome.{rules_of_cut, if_cut, cut_stopped, cut_lacks, cut_nothing}
use Rattle.dst_cut.proofs.cut.cut_file.Goals as goal

abbrev failed : CutFault → Result Cut CutFault
failed fault = Err fault

-- ---- of opening
same_source : (a b : OpenFault) → failed (Source a) ≡ failed (Source b) → a ≡ b
same_source a b e = cc

of_source : (a : OpenFault) → failed (Source a) ≡ failed Write → ⊥
of_source a e = absurd cc

pub returns-in-Err-clause-bytes : goal.returns-in-Err-clause-bytes
returns-in-Err-clause-bytes g c = c.open_cut.ensures.bytes

pub returns-in-Err-clause-later : goal.returns-in-Err-clause-later
returns-in-Err-clause-later g c = (c.open_cut.ensures.later, le_refl (g.K.Sink.faults c.args.sink.now))

pub returns-in-Err-clause-file : goal.returns-in-Err-clause-file
returns-in-Err-clause-file g c fault e file told =
    rules_of_cut c.args.first c.args.last file
    ∙ (subst (λ f. opening.HasOpenCause (form_refusal (words.cut c.args.first c.args.last)) (g.S.Source.bytes c.args.source.now)
    (g.S.Source.faults c.args.source.now) (g.S.Source.faults c.open_cut.new.source) f) (same_source c.in-Err.fault _ e) c.in-Err.ensures.stops) file told

pub returns-in-Err-clause-untouched : goal.returns-in-Err-clause-untouched
returns-in-Err-clause-untouched g c fault e = refl

pub returns-in-Err-clause-refused : goal.returns-in-Err-clause-refused
returns-in-Err-clause-refused g c file told fault e = refl

pub returns-in-Err-clause-read : goal.returns-in-Err-clause-read
returns-in-Err-clause-read g c e =
    subst (λ f. opening.HasOpenCause (form_refusal (words.cut c.args.first c.args.last)) (g.S.Source.bytes c.args.source.now)
    (g.S.Source.faults c.args.source.now) (g.S.Source.faults c.open_cut.new.source) f) (same_source c.in-Err.fault Read e) c.in-Err.ensures.stops

pub returns-in-Err-clause-write : goal.returns-in-Err-clause-write
returns-in-Err-clause-write g c e = absurd (of_source c.in-Err.fault e)

pub returns-in-Err-clause-cut_short : goal.returns-in-Err-clause-cut_short
returns-in-Err-clause-cut_short g c e file told = cut_nothing file c.args.first c.args.last (g.K.Sink.written c.args.sink.now)

pub returns-in-Err-clause-sure : goal.returns-in-Err-clause-sure
returns-in-Err-clause-sure g c e file told o is room holds fits = of_source c.in-Err.fault e

pub returns-in-Err-clause-memory : goal.returns-in-Err-clause-memory
returns-in-Err-clause-memory g c refused e = refl

pub returns-in-Err-clause-given : goal.returns-in-Err-clause-given
returns-in-Err-clause-given g c file told = omega (arith, c.open_cut.ensures.given)

pub returns-in-Err-clause-given_any : goal.returns-in-Err-clause-given_any
returns-in-Err-clause-given_any g c = omega (arith, c.open_cut.ensures.given)

-- ---- of writing
pub returns-clause-bytes : goal.returns-clause-bytes
returns-clause-bytes g c = c.write_cut.ensures.bytes ∙ c.open_cut.ensures.bytes

pub returns-clause-later : goal.returns-clause-later
returns-clause-later g c = (le_trans c.open_cut.ensures.later c.write_cut.ensures.source_later, c.write_cut.ensures.sink_later)

pub returns-clause-cut : goal.returns-clause-cut
returns-clause-cut g c =
    if_cut c.write_cut.result c.args.first c.args.last c.in-Ok.opened.cut (g.S.Source.bytes c.args.source.now) (g.K.Sink.written c.args.sink.now)
    (g.K.Sink.written c.write_cut.new.sink) (g.K.Sink.room c.args.sink.now) c.in-Ok.ensures.accepted c.in-Ok.ensures.opened
    (λ file told. c.write_cut.ensures.written file (c.open_cut.ensures.bytes ∙ told))

pub returns-clause-settled : goal.returns-clause-settled
returns-clause-settled g c = c.write_cut.ensures.settled

-- the cause of the fault that is answered
its_cause : (r : Result Cut CutFault) (fault : CutFault) (source_before source_now sink_before sink_now : ℕ) → r ≡ Err fault →
    IfErr r (λ fault. HasItsCause fault source_before source_now sink_before sink_now) → HasItsCause fault source_before source_now sink_before sink_now
its_cause r fault a b d e is h = IfErr-at_err (λ fault. HasItsCause fault a b d e) is h

pub returns-clause-file : goal.returns-clause-file
returns-clause-file g c fault e file told = absurd (its_cause c.write_cut.result (Source (File fault)) _ _ _ _ e c.write_cut.ensures.cause)

pub returns-clause-untouched : goal.returns-clause-untouched
returns-clause-untouched g c fault e = absurd (its_cause c.write_cut.result (Source (File fault)) _ _ _ _ e c.write_cut.ensures.cause)

pub returns-clause-refused : goal.returns-clause-refused
returns-clause-refused g c file told fault e =
    absurd (not_refused _ fault (rules_of_cut c.args.first c.args.last file ∙ c.in-Ok.ensures.accepted file told) e)

pub returns-clause-read : goal.returns-clause-read
returns-clause-read g c e =
    Rose-earlier _ _ _ c.open_cut.ensures.later (its_cause c.write_cut.result (Source Read) _ _ _ _ e c.write_cut.ensures.cause)

pub returns-clause-write : goal.returns-clause-write
returns-clause-write g c e = its_cause c.write_cut.result Write _ _ _ _ e c.write_cut.ensures.cause

pub returns-clause-cut_short : goal.returns-clause-cut_short
returns-clause-cut_short g c (inl e) file told =
    cut_stopped c.write_cut.result (Source Read) file c.args.first c.args.last c.in-Ok.opened.cut _ _ _ (c.in-Ok.ensures.accepted file told)
    (c.in-Ok.ensures.opened file told) e (c.write_cut.ensures.written file (c.open_cut.ensures.bytes ∙ told))
returns-clause-cut_short g c (inr e) file told =
    cut_stopped c.write_cut.result Write file c.args.first c.args.last c.in-Ok.opened.cut _ _ _ (c.in-Ok.ensures.accepted file told)
    (c.in-Ok.ensures.opened file told) e (c.write_cut.ensures.written file (c.open_cut.ensures.bytes ∙ told))

pub returns-clause-sure : goal.returns-clause-sure
returns-clause-sure g c e file told =
    cut_lacks c.write_cut.result file c.args.first c.args.last c.in-Ok.opened.cut _ _ _ (c.in-Ok.ensures.accepted file told)
    (c.in-Ok.ensures.opened file told) e (c.write_cut.ensures.written file (c.open_cut.ensures.bytes ∙ told))

pub returns-clause-memory : goal.returns-clause-memory
returns-clause-memory g c refused e = absurd (its_cause c.write_cut.result (Source (Memory refused)) _ _ _ _ e c.write_cut.ensures.cause)

pub returns-clause-given : goal.returns-clause-given
returns-clause-given g c file told =
    let end = ap (λ (f : Form). f.end) (c.in-Ok.ensures.opened file told).form_is in
    omega (arith, c.open_cut.ensures.given, c.write_cut.ensures.given, end)

pub returns-clause-given_any : goal.returns-clause-given_any
returns-clause-given_any g c = omega (arith, c.open_cut.ensures.given, c.write_cut.ensures.given, c.in-Ok.opened.cut.form.lawful.end)
