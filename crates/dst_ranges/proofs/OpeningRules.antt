-- The rules of parts behind those of listing a file's frames: each pair lies in the sound.
use Rattle.std.proofs.Common.{◌≡◌, ℕ, suc, ◌+◌, ◌*◌, ◌<◌, ◌≤◌, if◌then◌else◌, List, [], ◌∷◌, length, get_or, drop, Option, Some, None, refl, sym, ap, ap₂}
use Rattle.std.proofs.Common.{subst, ◌∙◌, arith, drop-cons}
use Rattle.std.specs.List.{AllByRecursion}
use Rattle.std.proofs.Math.Nat.{le-div_iff_mul-le}
use Rattle.std.proofs.lemmas.Bool.{ltb-false, lt-ltb, le-ltb}
use Rattle.dst_spec.specs.Sample.{Shape, IsShape}
use Rattle.dsdiff_spec.specs.Bytes.{◌above◌}
use Rattle.dsdiff_spec.specs.Faults.{◌when◌, ◌otherwise◌, first_some}
use Rattle.dsdiff_spec.specs.Form.{Form, size_of_sound}
use Rattle.dsdiff_spec.specs.Refusal.{form_refusal, not_walked, past_fault, groups, refusal}
use Rattle.dsdiff_spec.specs.Rules.{form_fault, accepted}
use Rattle.dsdiff_spec.specs.Words.{range, index}
use Rattle.dsdiff_spec.specs.declared.faults.FileFault.{FileFault}
use Rattle.dsdiff_spec.specs.declared.faults.FileFault.TheVariants.{RangePast}
use Rattle.dsdiff_spec.proofs.CodedFiles.{form_by, refused_by}
use Rattle.dsdiff_spec.proofs.Lawful.{when_not, first_of}
use Rattle.dsdiff_chunks.specs.declared.open.OpenFault.{OpenFault}
use Rattle.dsdiff_chunks.specs.declared.open.OpenFault.TheVariants.{Read, Memory, File}
use Rattle.dsdiff_chunks.specs.Opening.{HasOpenCause}
use Rattle.dst_commands.proofs.InOrder.{then_is}
use Rattle.frame_cache.specs.Reader.{Reader}

rules_of_range : (pairs : List (ℕ × ℕ)) (file : List ℕ) → refusal (range pairs) file ≡ form_refusal (range pairs) file
unfolding refusal
rules_of_range pairs file = refl

-- ---- where listing is refused, so are parts
pub refused_first : (pairs : List (ℕ × ℕ)) (file : List ℕ) (fault : FileFault) → form_refusal index file ≡ Some fault → refusal (range pairs) file ≡ Some fault
refused_first pairs file fault h = rules_of_range pairs file ∙ go (form_fault file) h
  where
    go : (o : Option FileFault) → refused_by (form_by o file) index file ≡ Some fault → refused_by (form_by o file) (range pairs) file ≡ Some fault
    go (Some other) e = e
    go None e = ap (λ r. r otherwise first_some (past_fault (accepted file)) pairs) e

pub stops_first : (pairs : List (ℕ × ℕ)) (fault : OpenFault) (bytes : Option (List ℕ)) (before now : ℕ) →
    HasOpenCause (form_refusal index) bytes before now fault →
    HasOpenCause (refusal (range pairs)) bytes before now fault
stops_first pairs (File f) bytes before now stops = λ file told. refused_first pairs file f (stops file told)
stops_first pairs Read bytes before now stops = stops
stops_first pairs (Memory refused) bytes before now stops = stops

-- ---- where it isn't, the pairs are asked
pub pairs_asked : (pairs : List (ℕ × ℕ)) (file : List ℕ) (form : Form) → form_refusal index file ≡ None → accepted file ≡ form →
    refusal (range pairs) file ≡ first_some (past_fault form) pairs
pairs_asked pairs file form h is = rules_of_range pairs file ∙ go (form_fault file) h ∙ ap (λ f. first_some (past_fault f) pairs) is
  where
    go : (o : Option FileFault) → refused_by (form_by o file) index file ≡ None →
        refused_by (form_by o file) (range pairs) file ≡ first_some (past_fault (accepted file)) pairs
    go (Some other) e = absurd cc
    go None e = then_is (not_walked file (accepted file)) (first_some (past_fault (accepted file)) pairs) e

-- ---- a pair that isn't past the end lies in the sound
pair_inside : (form : Form) (p : ℕ × ℕ) → 0 < form.channels → past_fault form p ≡ None → (p.0 + p.1) * form.channels ≤ size_of_sound form
pair_inside form p some none =
    let not_past = ltb-false (groups form) (p.0 + p.1) (when_not (RangePast (p.0 + p.1) (groups form)) (p.0 + p.1 above groups form) none) in
    (le-div_iff_mul-le {k = form.channels} {x = p.0 + p.1} {y = size_of_sound form} some).0 not_past

-- none of them is past it where the first isn't and none of the others is
both_inside : (first later : Option FileFault) → first_of first later ≡ None → (first ≡ None) × (later ≡ None)
both_inside (Some fault) later e = absurd cc
both_inside None later e = (refl, e)

pub all_inside : (form : Form) (pairs : List (ℕ × ℕ)) → 0 < form.channels → first_some (past_fault form) pairs ≡ None →
    AllByRecursion (λ p. (p.0 + p.1) * form.channels ≤ size_of_sound form) pairs
all_inside form [] some none = tt
all_inside form (p ∷ ps) some none =
    let both = both_inside (past_fault form p) (first_some (past_fault form) ps) none in
    (pair_inside form p some both.0, all_inside form ps some both.1)

-- ---- the first pair that asks past the end
pub pair_is_past : (form : Form) (p : ℕ × ℕ) (end g : ℕ) → end ≡ p.0 + p.1 → g ≡ groups form → g < end → past_fault form p ≡ Some (RangePast end g)
pair_is_past form p end g is of over =
    ap₂ {A = ℕ} {B = ℕ} (λ e n. RangePast e n when e above n) (sym is) (sym of) ∙ ap (λ b. if b then Some (RangePast end g) else None) (lt-ltb g end over)

pub pair_is_not : (form : Form) (p : ℕ × ℕ) (end g : ℕ) → end ≡ p.0 + p.1 → g ≡ groups form → end ≤ g → past_fault form p ≡ None
pair_is_not form p end g is of within =
    ap₂ {A = ℕ} {B = ℕ} (λ e n. RangePast e n when e above n) (sym is) (sym of) ∙ ap (λ b. if b then Some (RangePast end g) else None) (le-ltb g end within)

pub next_pair : (form : Form) (pairs : List (ℕ × ℕ)) (i : ℕ) (d : ℕ × ℕ) (o : Option FileFault) → i < length pairs → past_fault form (get_or pairs i d) ≡ o →
    first_some (past_fault form) (drop i pairs) ≡ first_of o (first_some (past_fault form) (drop (i + 1) pairs))
next_pair form pairs i d o h is =
    let next : suc i ≡ i + 1 = omega arith in
    ap (first_some (past_fault form)) (drop-cons pairs i d h) ∙ ap (λ f. first_of f (first_some (past_fault form) (drop (suc i) pairs))) is
    ∙ ap (λ j. first_of o (first_some (past_fault form) (drop j pairs))) next

-- ---- pairs that lie in the sound of a form lie in that of its reader
pub inside_reader : (form : Form) (r : Reader) (f : Shape) (pairs : List (ℕ × ℕ)) → form.channels ≡ f.channels → size_of_sound form ≡ r.size → IsShape f →
    first_some (past_fault form) pairs ≡ None → AllByRecursion (λ p. (p.0 + p.1) * f.channels ≤ r.size) pairs
inside_reader form r f pairs same size lawful none =
    let some : 0 < form.channels = omega (arith, same, lawful.least) in
    subst (λ m. AllByRecursion (λ p. (p.0 + p.1) * f.channels ≤ m) pairs) size
    (subst (λ m. AllByRecursion (λ p. (p.0 + p.1) * m ≤ size_of_sound form) pairs) same (all_inside form pairs some none))
