-- The rules of decoding hold; what is left is `DSFK`.
use Rattle.std.proofs.Common.{◌≡◌, List, ℕ, Option, None, sym, ap, subst, ◌∙◌, arith}
use Rattle.std.proofs.Math.Nat.{le_trans}
use Rattle.dst_streams.specs.Told.{Loan}
use Rattle.dsdiff_spec.specs.Dsf.{dsfk_fault}
use Rattle.dsdiff_spec.specs.Faults.{◌otherwise◌}
use Rattle.dsdiff_spec.specs.Refusal.{command_fault}
use Rattle.dsdiff_spec.specs.Walk.{entries, walk_fault}
use Rattle.dsdiff_spec.specs.Words.{decode_dsf}
use Rattle.dsdiff_chunks.specs.declared.form.CodedForm.{CodedForm}
use Rattle.dsdiff_chunks.specs.declared.form.Form.{Form}
use Rattle.dsdiff_chunks.specs.Forms.{coded_seen, end_of, form_seen}
use Rattle.dsdiff_chunks.specs.Opening.{Reads, HasOpenCause}
use Rattle.dsdiff_chunks.proofs.Stopping.{HasOpenCause-in}
use Rattle.dst_commands.proofs.InOrder.{plain_refused, stops_ahead, then_is}
use Rattle.dst_dsf.proofs.opened.DsfFramesRules.keep.Goals as goal

-- ---- what is read: the walk, and what the form says behind it
module _ {S : Type 0} (bytes : S → Option (List ℕ)) (known : S → Option ℕ) (loan : S → Loan) (faults given : S → ℕ)
  where
    walks : (old new : S) → Reads bytes known loan faults given old new 48000000 → Reads bytes known loan faults given old new 48000014
    walks old new walk = record {
      same_bytes = walk.same_bytes;
      same_size = walk.same_size;
      same_loan = walk.same_loan;
      later = walk.later;
      given_most = omega (arith, walk.given_most);
    }

    reads_both : (old mid new : S) → Reads bytes known loan faults given old mid 48000000 → Reads bytes known loan faults given mid new 14 →
        Reads bytes known loan faults given old new 48000014
    reads_both old mid new walk said = record {
      same_bytes = said.same_bytes ∙ walk.same_bytes;
      same_size = said.same_size ∙ walk.same_size;
      same_loan = said.same_loan ∙ walk.same_loan;
      later = le_trans walk.later said.later;
      given_most = omega (arith, walk.given_most, said.given_most);
    }

-- ---- the rules in their order
behind_walk : (file : List ℕ) (form : CodedForm) → walk_fault file (coded_seen form) ≡ None →
    command_fault decode_dsf file (coded_seen form) ≡ dsfk_fault file (coded_seen form)
behind_walk file form none = then_is (walk_fault file (coded_seen form)) (dsfk_fault file (coded_seen form)) none

pub returns-in-Err-clause-stops : goal.returns-in-Err-clause-stops
returns-in-Err-clause-stops g c file told =
    let form = form_seen c.args.form in
    ap (λ o. o otherwise dsfk_fault file form) (plain_refused form c.in-Err.fault (walk_fault file form) c.in-Err.ensures.plain)

pub returns-in-Err-walk_form-clause-source : goal.returns-in-Err-walk_form-clause-source
returns-in-Err-walk_form-clause-source g c =
    walks g.S.Source.bytes g.S.Source.known g.S.Source.loan g.S.Source.faults g.S.Source.given _ _ c.walk_form.ensures.source

pub returns-in-Err-walk_form-clause-stops : goal.returns-in-Err-walk_form-clause-stops
returns-in-Err-walk_form-clause-stops g c =
    subst (λ (f : Form). HasOpenCause (λ file. command_fault decode_dsf file (form_seen f)) (g.S.Source.bytes c.args.source.now)
    (g.S.Source.faults c.args.source.now) (g.S.Source.faults c.walk_form.new.source) c.in-Err-walk_form.fault) (sym c.in-Ok.ensures.coded)
    (stops_ahead (λ file. walk_fault file (coded_seen c.in-Ok.form)) (λ file. dsfk_fault file (coded_seen c.in-Ok.form))
    c.in-Err-walk_form.fault (g.S.Source.bytes c.args.source.now) (g.S.Source.faults c.args.source.now) (g.S.Source.faults c.walk_form.new.source)
    c.in-Err-walk_form.ensures.stops)

pub returns-in-Ok-read_said-clause-source : goal.returns-in-Ok-read_said-clause-source
returns-in-Ok-read_said-clause-source g c =
    reads_both g.S.Source.bytes g.S.Source.known g.S.Source.loan g.S.Source.faults g.S.Source.given _ _ _ c.walk_form.ensures.source
    c.read_said.ensures.source

pub returns-in-Ok-read_said-clause-end : goal.returns-in-Ok-read_said-clause-end
returns-in-Ok-read_said-clause-end g c = ap (λ (f : CodedForm). f.end) c.in-Ok-walk_form.ensures.form ∙ sym (ap end_of c.in-Ok.ensures.coded)

pub returns-in-Ok-read_said-clause-passes : goal.returns-in-Ok-read_said-clause-passes
returns-in-Ok-read_said-clause-passes g c file told =
    ap (λ (f : Form). command_fault decode_dsf file (form_seen f)) c.in-Ok.ensures.coded
    ∙ behind_walk file c.in-Ok.form (c.in-Ok-walk_form.ensures.passes file told)
    ∙ ap (λ (f : CodedForm). dsfk_fault file (coded_seen f)) (sym c.in-Ok-walk_form.ensures.form)
    ∙ c.in-Ok-read_said.ensures.passes file (c.walk_form.ensures.source.same_bytes ∙ told)

pub returns-in-Ok-read_said-clause-opened : goal.returns-in-Ok-read_said-clause-opened
returns-in-Ok-read_said-clause-opened g c file told accepts =
    let same : coded_seen c.in-Ok.form ≡ coded_seen c.in-Ok-walk_form.walked.form = ap coded_seen (sym c.in-Ok-walk_form.ensures.form) in
    record {
      walk = record {
        form_is = accepts ∙ ap form_seen c.in-Ok.ensures.coded ∙ same;
        entries_are = ap (entries file) (sym same) ∙ c.in-Ok-walk_form.ensures.entries file told;
      };
      said_is = c.in-Ok-read_said.ensures.said file (c.in-Ok-walk_form.ensures.source.same_bytes ∙ told);
    }

pub returns-in-Err-read_said-clause-stops : goal.returns-in-Err-read_said-clause-stops
returns-in-Err-read_said-clause-stops g c =
    let same : coded_seen c.in-Ok.form ≡ coded_seen c.in-Ok-walk_form.walked.form = ap coded_seen (sym c.in-Ok-walk_form.ensures.form) in
    HasOpenCause-in _ (λ file. command_fault decode_dsf file (form_seen c.args.form)) (g.S.Source.bytes c.args.source.now)
    (g.S.Source.bytes c.walk_form.new.source)
    (g.S.Source.faults c.args.source.now) (g.S.Source.faults c.walk_form.new.source) _
    c.in-Err-read_said.fault c.in-Ok-walk_form.ensures.source.same_bytes c.in-Ok-walk_form.ensures.source.later
    (λ file f told e.
    ap (λ f. command_fault decode_dsf file (form_seen f)) c.in-Ok.ensures.coded
    ∙ behind_walk file c.in-Ok.form (c.in-Ok-walk_form.ensures.passes file told)
    ∙ ap (dsfk_fault file) same ∙ e)
    c.in-Err-read_said.ensures.stops

pub returns-in-Err-read_said-clause-source : goal.returns-in-Err-read_said-clause-source
returns-in-Err-read_said-clause-source g c =
    reads_both g.S.Source.bytes g.S.Source.known g.S.Source.loan g.S.Source.faults g.S.Source.given _ _ _ c.walk_form.ensures.source
    c.read_said.ensures.source
