-- What is coded is the plain form that stands for the file, which is accepted where the file is.
use Rattle.std.proofs.Common.{◌≡◌, ℕ, List, Option, Some, None, Result, Ok, Err, IfOk, refl, sym, ap, ◌∙◌}
use Rattle.dsdiff_spec.specs.Dsf.{dsdiff, dsf_fault}
use Rattle.dsdiff_spec.specs.Refusal.{refusal}
use Rattle.dsdiff_spec.specs.Words.{encode_dsf}
use Rattle.dsdiff_spec.proofs.ByRules.{not_refused}
use Rattle.dsdiff_chunks.specs.declared.open.OpenFault.{OpenFault}
use Rattle.dsf_files.specs.Standing.{plain_of}
use Rattle.dst_write.specs.declared.faults.EncodeFault.{EncodeFault}
use Rattle.dst_write.specs.declared.faults.EncodeFault.TheVariants.{Source}
use Rattle.dst_write.specs.declared.faults.Encoded.{Encoded}
use Rattle.dst_dsf.proofs.encode.encode_dsf.Goals as goal

same_source : (a b : OpenFault) → ◌≡◌ {A = Result Encoded EncodeFault} (Err (Source a)) (Err (Source b)) → a ≡ b
same_source a b e = cc

rules_of_dsf : (level : ℕ) (file : List ℕ) → refusal (encode_dsf level) file ≡ dsf_fault file
unfolding refusal
rules_of_dsf level file = refl

if_ok : (r : Result Encoded EncodeFault) (P : Type 0) → P → IfOk r (λ _. P)
if_ok (Ok e) P p = p
if_ok (Err fault) P p = tt {0}

-- what is answered of the plain form that a source tells is answered of the DSF file
if_told : (r : Result Encoded EncodeFault) (P : Encoded → List ℕ → Type 0) (bytes plain : Option (List ℕ)) →
    ((file : List ℕ) → bytes ≡ Some file → plain ≡ Some (dsdiff file)) → IfOk r (λ e. (f : List ℕ) → plain ≡ Some f → P e f) →
    IfOk r (λ e. (file : List ℕ) → bytes ≡ Some file → P e (dsdiff file))
if_told (Ok e) P bytes plain stands h = λ file told. h (dsdiff file) (stands file told)
if_told (Err fault) P bytes plain stands h = tt {0}

pub returns-in-Err-clause-file : goal.returns-in-Err-clause-file
returns-in-Err-clause-file g c fault e file told level =
    rules_of_dsf level file ∙ c.in-Err.ensures.fault fault (ap Err (same_source c.in-Err.fault _ e)) file told

pub returns-clause-accepted : goal.returns-clause-accepted
returns-clause-accepted g c =
    if_ok c.encode_file.result ((file : List ℕ) → g.S.Source.bytes c.args.source.now ≡ Some file → (level : ℕ) → refusal (encode_dsf level) file ≡ None)
    (λ file told level. rules_of_dsf level file ∙ (c.in-Ok.ensures.form file told).accepted)

pub returns-clause-encoded : goal.returns-clause-encoded
returns-clause-encoded g c =
    if_told c.encode_file.result _ (g.S.Source.bytes c.args.source.now) _ (λ file told. c.new-plain.ensures.bytes ∙ ap plain_of (c.in-Ok.ensures.bytes ∙ told))
    c.encode_file.ensures.encoded

pub returns-clause-frames : goal.returns-clause-frames
returns-clause-frames g c =
    if_told c.encode_file.result _ (g.S.Source.bytes c.args.source.now) _ (λ file told. c.new-plain.ensures.bytes ∙ ap plain_of (c.in-Ok.ensures.bytes ∙ told))
    c.encode_file.ensures.frames

pub returns-clause-stored : goal.returns-clause-stored
returns-clause-stored g c =
    if_told c.encode_file.result _ (g.S.Source.bytes c.args.source.now) _ (λ file told. c.new-plain.ensures.bytes ∙ ap plain_of (c.in-Ok.ensures.bytes ∙ told))
    c.encode_file.ensures.stored

pub returns-clause-file : goal.returns-clause-file
returns-clause-file g c fault e file told level =
    let stands = c.new-plain.ensures.bytes ∙ ap plain_of (c.in-Ok.ensures.bytes ∙ told) in
    let bytes = g.met.S.Source.told_are_bytes c.args.source.now file told in
    absurd (not_refused _ fault (c.plain_form_is_accepted.ensures file bytes (c.in-Ok.ensures.form file told).accepted level)
    (c.encode_file.ensures.file fault e (dsdiff file) stands level))

pub returns-clause-sure : goal.returns-clause-sure
returns-clause-sure g c e file told =
    c.encode_file.ensures.sure e (dsdiff file) (c.new-plain.ensures.bytes ∙ ap plain_of (c.in-Ok.ensures.bytes ∙ told))

pub returns-clause-write_accepted : goal.returns-clause-write_accepted
returns-clause-write_accepted g c e file told level = rules_of_dsf level file ∙ (c.in-Ok.ensures.form file told).accepted

pub returns-clause-refused : goal.returns-clause-refused
returns-clause-refused g c file told level fault e =
    absurd (not_refused (dsf_fault file) fault (c.in-Ok.ensures.form file told).accepted (sym (rules_of_dsf level file) ∙ e))
