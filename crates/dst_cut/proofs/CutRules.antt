-- The rules of cutting behind those of the form, as they are asked one after the other.
use Rattle.std.proofs.Common.{◌≡◌, ℕ, ◌≤◌, List, length, Option, None, refl, ap, sym, ◌∙◌, arith}
use Rattle.dsdiff_spec.specs.Walk.{Entry, entries, walk_fault}
use Rattle.dsdiff_spec.specs.Words as words
use Rattle.dsdiff_spec.specs.Cut.{cut_chunks}
use Rattle.dsdiff_spec.specs.Refusal.{command_fault, cut_fault, no_frame, not_coded}
use Rattle.dsdiff_spec.specs.declared.faults.FileFault.{FileFault}
use Rattle.dsdiff_spec.proofs.Cuts.{its_chunks_are_asked}
use Rattle.dsdiff_chunks.specs.declared.form.CodedForm.{CodedForm}
use Rattle.dsdiff_chunks.specs.declared.form.Form as kinds
use Rattle.dsdiff_chunks.specs.declared.form.Form.TheVariants.{Coded}
use Rattle.dsdiff_chunks.specs.Forms.{coded_seen, end_of, form_seen}
use Rattle.dst_commands.proofs.InOrder.{coded_passes, then_is}

-- where the walk finds the frames and the last is there, the chunks that would be written are asked; the fault is answered of a form that
-- ends within the n bytes of the file
pub chunks_asked : (file : List ℕ) (given : kinds.Form) (f seen : CodedForm) (index : List Entry) (first last n : ℕ) (fault : Option FileFault) →
    given ≡ Coded f → seen ≡ f → walk_fault file (coded_seen f) ≡ None → entries file (coded_seen f) ≡ index → no_frame last seen.frames ≡ None →
    n ≡ length file → end_of given ≤ n →
    (seen.end ≤ length file → entries file (coded_seen seen) ≡ index → fault ≡ cut_fault (cut_chunks file (coded_seen seen) first last)) →
    command_fault (words.cut first last) file (form_seen given) ≡ fault
chunks_asked file given f seen index first last n fault is same walked found there known within told =
    let end : end_of given ≡ seen.end = ap end_of is ∙ ap (λ (f : CodedForm). f.end) (sym same) in
    let e = told (omega (arith, known, within, end)) (ap (λ f. entries file (coded_seen f)) same ∙ found) in
    ap (λ k. command_fault (words.cut first last) file (form_seen k)) (is ∙ ap Coded (sym same))
    ∙ its_chunks_are_asked file (coded_seen seen) first last
    (then_is (not_coded (coded_seen seen)) (walk_fault file (coded_seen seen)) (coded_passes (coded_seen seen) refl)
    ∙ ap (λ k. walk_fault file (coded_seen k)) same ∙ walked)
    there
    ∙ sym e
