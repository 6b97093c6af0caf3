-- The refusals of the form and of the walk, in their order; the entries are as many as the form's frames.
use Rattle.std.proofs.Common.{◌≡◌, ℕ, Result, refl, sym, ap, ◌∙◌, Ok, Err}
use Rattle.dsdiff_spec.specs.Form.{Form}
use Rattle.dsdiff_chunks.specs.Forms.{coded_seen, form_seen}
use Rattle.dsdiff_chunks.specs.declared.open.OpenFault.{OpenFault}
use Rattle.dsdiff_spec.proofs.ByRules.{accepted_is}
use Rattle.uses.proofs.Walked.{no_form, not_coded_form, no_walk, walked}
use Rattle.uses.proofs.files.frames_of_file.Goals as goal

same : (a b : OpenFault) → ◌≡◌ {A = Result ℕ OpenFault} (Err a) (Err b) → a ≡ b
same a b e = cc

pub returns-in-Ok-Plain-clause-file : goal.returns-in-Ok-Plain-clause-file
returns-in-Ok-Plain-clause-file g c fault is file told =
    not_coded_form file (form_seen c.in-Ok-Plain.field-0) (c.in-Ok-Plain.ensures.form file told) (ap (λ f. (form_seen f).kind) c.in-Ok-Plain.field-0-is) ∙ cc

pub returns-in-Err-clause-file : goal.returns-in-Err-clause-file
returns-in-Err-clause-file g c fault is file told =
    no_form file fault (c.in-Err.ensures.fault fault (ap Err (same c.in-Err.fault _ is)) file told)

pub returns-in-Err-walk-clause-file : goal.returns-in-Err-walk-clause-file
returns-in-Err-walk-clause-file g c fault is file told =
    no_walk file (coded_seen c.in-Ok-Coded.form) fault
    (c.in-Ok-Coded.ensures.form file told ∙ ap (λ f. Ok (form_seen f)) c.in-Ok-Coded.field-0-is) refl
    (c.in-Err-walk.ensures.fault fault (ap Err (same c.in-Err-walk.fault _ is)) file (c.in-Ok-Coded.ensures.bytes ∙ told))

pub returns-clause-accepted : goal.returns-clause-accepted
returns-clause-accepted g c file told =
    walked file (coded_seen c.in-Ok-Coded.form) c.in-Ok.index
    (c.in-Ok-Coded.ensures.form file told ∙ ap (λ f. Ok (form_seen f)) c.in-Ok-Coded.field-0-is) refl
    (c.in-Ok.ensures.index file (c.in-Ok-Coded.ensures.bytes ∙ told))

pub returns-clause-count : goal.returns-clause-count
returns-clause-count g c file told =
    c.length.ensures.length ∙ c.in-Ok.ensures.fits.count
    ∙ sym (ap (λ (f : Form). f.frames) (accepted_is file (coded_seen c.in-Ok-Coded.form)
    (c.in-Ok-Coded.ensures.form file told ∙ ap (λ f. Ok (form_seen f)) c.in-Ok-Coded.field-0-is)))
