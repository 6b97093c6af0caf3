-- What follows from a form that opens, from a file that is accepted, and from a walk that ends or fails.
use Rattle.std.proofs.Common.{◌≡◌, ℕ, List, Option, Some, None, Result, Ok, Err, refl, ap, ◌∙◌}
use Rattle.dsdiff_spec.specs.Form.{Form}
use Rattle.dsdiff_spec.specs.Rules.{form_fault, form, accepted}
use Rattle.dsdiff_spec.specs.Walk.{Entry, entries, walk, walk_fault}
use Rattle.dsdiff_spec.specs.declared.faults.FileFault.{FileFault}
use Rattle.dsdiff_spec.proofs.CodedFiles.{form_by}

pub accepted_is : (file : List ℕ) (f : Form) → form file ≡ Ok f → accepted file ≡ f
accepted_is file f e = go (form_fault file) e
  where
    go : (o : Option FileFault) → form_by o file ≡ Ok f → accepted file ≡ f
    go (Some fault) e = absurd cc
    go None e = cc

-- a file that is accepted isn't refused
pub not_refused : (refusal : Option FileFault) (fault : FileFault) → refusal ≡ None → refusal ≡ Some fault → ⊥
not_refused refusal fault e h = absurd (let never : None ≡ Some fault = cc in cc)

abbrev walk_by : Option FileFault → List ℕ → Form → Result (List Entry) FileFault
walk_by o file f = elim o [ Some fault ↦ Err fault | None ↦ Ok (entries file f) ]

pub walk_passes : (file : List ℕ) (f : Form) (es : List Entry) → walk file f ≡ Ok es → (walk_fault file f ≡ None) × (entries file f ≡ es)
walk_passes file f es e = go (walk_fault file f) refl e
  where
    go : (o : Option FileFault) → walk_fault file f ≡ o → walk_by o file f ≡ Ok es → (walk_fault file f ≡ None) × (entries file f ≡ es)
    go (Some fault) is e = absurd cc
    go None is e = (is, cc)

pub walk_fails : (file : List ℕ) (f : Form) (fault : FileFault) → walk file f ≡ Err fault → walk_fault file f ≡ Some fault
walk_fails file f fault e = go (walk_fault file f) refl e
  where
    go : (o : Option FileFault) → walk_fault file f ≡ o → walk_by o file f ≡ Err fault → walk_fault file f ≡ Some fault
    go (Some other) is e = cc
    go None is e = absurd cc

pub walk_is : (file : List ℕ) (f : Form) (es : List Entry) → walk_fault file f ≡ None → entries file f ≡ es → walk file f ≡ Ok es
walk_is file f es none is = ap (λ o. walk_by o file f) none ∙ ap Ok is
