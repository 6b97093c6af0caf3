-- Rules in order: what the ones before leave, and the first that fails.
use Rattle.std.proofs.Common.{◌≡◌, ℕ, ◌<◌, List, true, false, Option, Some, None, Result, Ok, refl, ap, sym, subst, ◌∙◌}
use Rattle.std.specs.Prelude.{not}
use Rattle.std.proofs.lemmas.Bool.{ltb-true, not-false}
use Rattle.dst_streams.specs.Causes.{Rose}
use Rattle.dsdiff_spec.specs.Bytes.{◌above◌}
use Rattle.dsdiff_spec.specs.Faults.{◌when◌, ◌otherwise◌}
use Rattle.dsdiff_spec.specs.Form.{Form, plain, coded, is_plain}
use Rattle.dsdiff_spec.specs.Refusal.{command_fault, form_refusal, no_frame, not_coded, refusal}
use Rattle.dsdiff_spec.specs.Rules.{form}
use Rattle.dsdiff_spec.specs.Walk.{Entry, by_index_fault, check_index_fault, entries, walk, walk_fault}
use Rattle.dsdiff_spec.specs.Words.{Command, check, decode, frame, index, show, show_frame}
use Rattle.dsdiff_spec.specs.declared.faults.FileFault.{FileFault}
use Rattle.dsdiff_spec.specs.declared.faults.FileFault.TheVariants.{NotCoded, Range}
use Rattle.dsdiff_spec.proofs.ByRules.{walk_is}
use Rattle.dsdiff_spec.proofs.CodedFiles.{refused_by}
use Rattle.dsdiff_spec.proofs.Lawful.{when_not}
use Rattle.dsdiff_chunks.specs.declared.open.OpenFault.{OpenFault}
use Rattle.dsdiff_chunks.specs.declared.open.OpenFault.TheVariants.{Read, Memory, File}
use Rattle.dsdiff_chunks.specs.Opening.{HasOpenCause}

pub then_is : (a b : Option FileFault) → a ≡ None → (a otherwise b) ≡ b
then_is a b e = ap (λ a. a otherwise b) e

-- ---- the rules of the form in front of those of a command
pub refusal_of : (c : Command) (file : List ℕ) (r : Result Form FileFault) → form file ≡ r → form_refusal c file ≡ refused_by r c file
refusal_of c file r e = ap (λ r. refused_by r c file) e

-- ---- a coded form passes the rule on its kind, a plain one doesn't
pub coded_passes : (f : Form) → f.kind ≡ coded → not_coded f ≡ None
coded_passes f e = ap (λ k. NotCoded when is_plain k) e

pub plain_fails : (f : Form) → f.kind ≡ plain → not_coded f ≡ Some NotCoded
plain_fails f e = ap (λ k. NotCoded when is_plain k) e

pub plain_refused : (f : Form) (fault : FileFault) (rest : Option FileFault) → (fault ≡ NotCoded) × (f.kind ≡ plain) → (not_coded f otherwise rest) ≡ Some fault
plain_refused f fault rest is = ap (λ o. o otherwise rest) (plain_fails f is.1) ∙ ap Some (sym is.0)

-- ---- a number that names a frame
pub names_one : (k frames : ℕ) → no_frame k frames ≡ None → k < frames
names_one k frames e = ltb-true k frames (not-false (frames above k) (when_not (Range k frames) (not (frames above k)) e))

-- ---- why a step stops
pub stops_by : (rules : List ℕ → Option FileFault) (fault : OpenFault) (bytes : Option (List ℕ)) (before now : ℕ) →
    ((f : FileFault) → fault ≡ File f → (file : List ℕ) → bytes ≡ Some file → rules file ≡ Some f) → (fault ≡ Read → Rose before now) →
    HasOpenCause rules bytes before now fault
stops_by rules (File f) bytes before now h read = h f refl
stops_by rules Read bytes before now h read = read refl
stops_by rules (Memory refused) bytes before now h read = tt

-- a rule that refuses a file before others does
pub stops_ahead : (rule rest : List ℕ → Option FileFault) (fault : OpenFault) (bytes : Option (List ℕ)) (before now : ℕ) →
    HasOpenCause rule bytes before now fault →
    HasOpenCause (λ file. rule file otherwise rest file) bytes before now fault
stops_ahead rule rest (File f) bytes before now stops = λ file told. ap (λ o. o otherwise rest file) (stops file told)
stops_ahead rule rest Read bytes before now stops = stops
stops_ahead rule rest (Memory refused) bytes before now stops = stops

-- ---- the index behind the number
pub indexed_is : (k : ℕ) (file : List ℕ) (f : Form) (fault : FileFault) → no_frame k f.frames ≡ None → by_index_fault file f k ≡ Some fault → f.kind ≡ coded →
    command_fault (frame k true) file f ≡ Some fault
indexed_is k file f fault none e is_coded =
    then_is (not_coded f) (no_frame k f.frames otherwise by_index_fault file f k) (coded_passes f is_coded)
    ∙ then_is (no_frame k f.frames) (by_index_fault file f k) none ∙ e

-- behind a walk that passes only the rule on the index is left, of the form by another name
pub index_left : (file : List ℕ) (f g : Form) (es : List Entry) {answer : Option FileFault} → g ≡ f → walk_fault file f ≡ None → entries file f ≡ es →
    (walk file g ≡ Ok es → check_index_fault file g ≡ answer) → (walk_fault file f otherwise check_index_fault file f) ≡ answer
index_left file f g es same passes found left =
    then_is (walk_fault file f) (check_index_fault file f) passes
    ∙ ap (check_index_fault file) (sym same)
    ∙ left (subst (λ f. walk file f ≡ Ok es) (sym same) (walk_is file f es passes found))

-- ---- the commands whose rules are these
pub rules_of_decode : (file : List ℕ) → refusal decode file ≡ form_refusal index file
unfolding refusal
rules_of_decode file = refl

pub rules_of_index : (file : List ℕ) → refusal index file ≡ form_refusal index file
unfolding refusal
rules_of_index file = refl

pub rules_of_check : (file : List ℕ) → refusal check file ≡ form_refusal check file
unfolding refusal
rules_of_check file = refl

pub rules_of_show : (file : List ℕ) → refusal show file ≡ form_refusal show file
unfolding refusal
rules_of_show file = refl

pub rules_of_show_frame : (k : ℕ) (file : List ℕ) → refusal (show_frame k) file ≡ form_refusal (show_frame k) file
unfolding refusal
rules_of_show_frame k file = refl

pub rules_by_walk : (k : ℕ) (file : List ℕ) → refusal (frame k false) file ≡ form_refusal (show_frame k) file
unfolding refusal
rules_by_walk k file = refl

pub rules_by_index : (k : ℕ) (file : List ℕ) → refusal (frame k true) file ≡ form_refusal (frame k true) file
unfolding refusal
rules_by_index k file = refl

-- rules that refuse the same stop a step for the same cause
pub stops_as : (a b : List ℕ → Option FileFault) (fault : OpenFault) (bytes : Option (List ℕ)) (before now : ℕ) → ((file : List ℕ) → b file ≡ a file) →
    HasOpenCause a bytes before now fault → HasOpenCause b bytes before now fault
stops_as a b (File f) bytes before now same stops = λ file told. same file ∙ stops file told
stops_as a b Read bytes before now same stops = stops
stops_as a b (Memory refused) bytes before now same stops = stops
