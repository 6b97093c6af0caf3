-- What is refused of a file whose frames are asked for: its form, a plain one, or its walk.
use Rattle.std.proofs.Common.{◌≡◌, ℕ, List, Some, None, Ok, Err, ap, ◌∙◌}
use Rattle.dsdiff_spec.specs.Faults.{◌when◌, ◌otherwise◌}
use Rattle.dsdiff_spec.specs.Form.{Form, plain, coded, is_plain}
use Rattle.dsdiff_spec.specs.Refusal.{refusal}
use Rattle.dsdiff_spec.specs.Rules.{form}
use Rattle.dsdiff_spec.specs.Walk.{Entry, walk, walk_fault}
use Rattle.dsdiff_spec.specs.Words.{index}
use Rattle.dsdiff_spec.specs.declared.faults.FileFault.{FileFault}
use Rattle.dsdiff_spec.specs.declared.faults.FileFault.TheVariants.{NotCoded}
use Rattle.dsdiff_spec.proofs.ByRules.{walk_fails, walk_passes}
use Rattle.dsdiff_spec.proofs.CodedFiles.{refused_by}

pub no_form : (file : List ℕ) (fault : FileFault) → form file ≡ Err fault → refusal index file ≡ Some fault
unfolding refusal
no_form file fault e = ap (λ r. refused_by r index file) e

pub not_coded_form : (file : List ℕ) (f : Form) → form file ≡ Ok f → f.kind ≡ plain → refusal index file ≡ Some NotCoded
unfolding refusal
not_coded_form file f e kind = ap (λ r. refused_by r index file) e ∙ ap (λ k. (NotCoded when is_plain k) otherwise walk_fault file f) kind

-- of a coded form the walk is what is left
of_the_walk : (file : List ℕ) (f : Form) → form file ≡ Ok f → f.kind ≡ coded → refusal index file ≡ walk_fault file f
unfolding refusal
of_the_walk file f e kind = ap (λ r. refused_by r index file) e ∙ ap (λ k. (NotCoded when is_plain k) otherwise walk_fault file f) kind

pub no_walk : (file : List ℕ) (f : Form) (fault : FileFault) → form file ≡ Ok f → f.kind ≡ coded → walk file f ≡ Err fault → refusal index file ≡ Some fault
no_walk file f fault e kind w = of_the_walk file f e kind ∙ walk_fails file f fault w

pub walked : (file : List ℕ) (f : Form) (es : List Entry) → form file ≡ Ok f → f.kind ≡ coded → walk file f ≡ Ok es → refusal index file ≡ None
walked file f es e kind w = of_the_walk file f e kind ∙ (walk_passes file f es w).0
