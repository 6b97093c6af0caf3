-- The rules of a form in order: the first that fails gives the fault, and where none fails the form is as its parts tell.
use Rattle.std.proofs.Common.{◌≡◌, ℕ, ◌≤◌, List, [], ◌∷◌, Bool, false, Option, Some, None, Ok, Err, refl, ap, ◌∙◌}
use Rattle.std.specs.Prelude.{nat_lt, filter}
use Rattle.dsdiff_spec.specs.Chunks.{Head, named, the_first, body_place, body_of}
use Rattle.dsdiff_spec.specs.Faults.{◌when◌, ◌otherwise◌}
use Rattle.dsdiff_spec.specs.Parts.{top_level, prop_head, prop, sound_head, compression, kind}
use Rattle.dsdiff_spec.specs.Rules.{opening_fault, version_fault, prop_fault, prop_chunk_fault, local_fault, sound_fault, kind_fault, form_fault, form}
use Rattle.dsdiff_spec.specs.Rules.{accepted}
use Rattle.std.proofs.lemmas.Bool.{le-ltb}
use Rattle.dsdiff_spec.specs.declared.faults.FileFault.{FileFault}
use Rattle.dsdiff_spec.specs.declared.faults.FileFault.TheVariants.{PropTooLong}
use Rattle.dsdiff_chunks.specs.Opening.{first_fault, props_fault, sounds_fault, is_sound}

-- ---- the rules on all forms, as far as they are holds
pub past_opening : (xs : List ℕ) → opening_fault xs ≡ None →
    form_fault xs ≡ (version_fault xs otherwise prop_fault xs otherwise sound_fault xs otherwise kind_fault (kind xs) xs)
unfolding form_fault
past_opening xs e = ap (λ o. o otherwise version_fault xs otherwise prop_fault xs otherwise sound_fault xs otherwise kind_fault (kind xs) xs) e

pub at_opening : (xs : List ℕ) (f : FileFault) → opening_fault xs ≡ Some f → form_fault xs ≡ Some f
unfolding form_fault
at_opening xs f e = ap (λ o. o otherwise version_fault xs otherwise prop_fault xs otherwise sound_fault xs otherwise kind_fault (kind xs) xs) e

version_of : (xs : List ℕ) (heads : List Head) (o : Option FileFault) → (top_level xs).heads ≡ heads → first_fault xs (the_first heads) ≡ o →
    version_fault xs ≡ o
version_of xs heads o top e = ap (λ hs. first_fault xs (the_first hs)) top ∙ e

pub at_version : (xs : List ℕ) (heads : List Head) (f : FileFault) → opening_fault xs ≡ None → (top_level xs).heads ≡ heads →
    first_fault xs (the_first heads) ≡ Some f → form_fault xs ≡ Some f
at_version xs heads f opened top e =
    past_opening xs opened
    ∙ ap (λ o. o otherwise prop_fault xs otherwise sound_fault xs otherwise kind_fault (kind xs) xs) (version_of xs heads (Some f) top e)

pub past_version : (xs : List ℕ) (heads : List Head) → opening_fault xs ≡ None → (top_level xs).heads ≡ heads → first_fault xs (the_first heads) ≡ None →
    form_fault xs ≡ (prop_fault xs otherwise sound_fault xs otherwise kind_fault (kind xs) xs)
past_version xs heads opened top e =
    past_opening xs opened
    ∙ ap (λ o. o otherwise prop_fault xs otherwise sound_fault xs otherwise kind_fault (kind xs) xs) (version_of xs heads None top e)

-- the chunk `PROP`: none or several, one that is too long, or a body that is refused
props_of : (xs : List ℕ) (heads : List Head) (o : Option FileFault) → (top_level xs).heads ≡ heads → props_fault (named "PROP" heads) ≡ o →
    prop_chunk_fault xs ≡ o
props_of xs heads o top e = ap (λ hs. props_fault (named "PROP" hs)) top ∙ e

pub at_props : (xs : List ℕ) (heads : List Head) (f : FileFault) → opening_fault xs ≡ None → (top_level xs).heads ≡ heads →
    first_fault xs (the_first heads) ≡ None → props_fault (named "PROP" heads) ≡ Some f → form_fault xs ≡ Some f
at_props xs heads f opened top first e =
    past_version xs heads opened top first
    ∙ ap (λ o. (o otherwise local_fault (body_place (prop_head xs)) (prop xs)) otherwise sound_fault xs otherwise kind_fault (kind xs) xs)
    (props_of xs heads (Some f) top e)

pub the_prop : (xs : List ℕ) (heads : List Head) (h : Head) → (top_level xs).heads ≡ heads → named "PROP" heads ≡ h ∷ [] → prop_head xs ≡ h
the_prop xs heads h top e = ap (λ hs. the_first (named "PROP" hs)) top ∙ ap the_first e

pub the_body : (xs : List ℕ) (heads : List Head) (h : Head) → (top_level xs).heads ≡ heads → named "PROP" heads ≡ h ∷ [] → prop xs ≡ body_of xs h
the_body xs heads h top e = ap (body_of xs) (the_prop xs heads h top e)

props_hold : (h : Head) (props : List Head) → props ≡ h ∷ [] → h.size ≤ 65536 → props_fault props ≡ None
props_hold h props e le = ap props_fault e ∙ holds (nat_lt 65536 h.size) (le-ltb 65536 h.size le)
  where
    holds : (b : Bool) → b ≡ false → (PropTooLong when b) ≡ None
    holds b q = rw q refl

prop_of : (xs : List ℕ) (heads : List Head) (h : Head) (o : Option FileFault) → (top_level xs).heads ≡ heads → named "PROP" heads ≡ h ∷ [] →
    h.size ≤ 65536 → local_fault (body_place h) (body_of xs h) ≡ o → prop_fault xs ≡ o
prop_of xs heads h o top found le e =
    ap (λ p. p otherwise local_fault (body_place (prop_head xs)) (prop xs)) (props_of xs heads None top (props_hold h (named "PROP" heads) found le))
    ∙ ap (λ i. local_fault (body_place i) (body_of xs i)) (the_prop xs heads h top found)
    ∙ e

pub at_prop : (xs : List ℕ) (heads : List Head) (h : Head) (f : FileFault) → opening_fault xs ≡ None → (top_level xs).heads ≡ heads →
    first_fault xs (the_first heads) ≡ None → named "PROP" heads ≡ h ∷ [] → h.size ≤ 65536 →
    local_fault (body_place h) (body_of xs h) ≡ Some f → form_fault xs ≡ Some f
at_prop xs heads h f opened top first found le e =
    past_version xs heads opened top first
    ∙ ap (λ o. o otherwise sound_fault xs otherwise kind_fault (kind xs) xs) (prop_of xs heads h (Some f) top found le e)

pub past_prop : (xs : List ℕ) (heads : List Head) (h : Head) → opening_fault xs ≡ None → (top_level xs).heads ≡ heads →
    first_fault xs (the_first heads) ≡ None → named "PROP" heads ≡ h ∷ [] → h.size ≤ 65536 →
    local_fault (body_place h) (body_of xs h) ≡ None → form_fault xs ≡ (sound_fault xs otherwise kind_fault (kind xs) xs)
past_prop xs heads h opened top first found le e =
    past_version xs heads opened top first
    ∙ ap (λ o. o otherwise sound_fault xs otherwise kind_fault (kind xs) xs) (prop_of xs heads h None top found le e)

-- the sound
sound_of : (xs : List ℕ) (heads : List Head) (place : ℕ) (type : List ℕ) (o : Option FileFault) → (top_level xs).heads ≡ heads →
    (prop_head xs).place ≡ place → compression (prop xs) ≡ type → sounds_fault (filter is_sound heads) place type ≡ o → sound_fault xs ≡ o
sound_of xs heads place type o top at is_type e =
    ap (λ hs. sounds_fault (filter is_sound hs) (prop_head xs).place (compression (prop xs))) top
    ∙ ap (λ p. sounds_fault (filter is_sound heads) p (compression (prop xs))) at
    ∙ ap (λ t. sounds_fault (filter is_sound heads) place t) is_type
    ∙ e

pub at_sound : (xs : List ℕ) (heads : List Head) (place : ℕ) (type : List ℕ) (f : FileFault) →
    form_fault xs ≡ (sound_fault xs otherwise kind_fault (kind xs) xs) →
    (top_level xs).heads ≡ heads → (prop_head xs).place ≡ place → compression (prop xs) ≡ type →
    sounds_fault (filter is_sound heads) place type ≡ Some f → form_fault xs ≡ Some f
at_sound xs heads place type f left top at is_type e =
    left ∙ ap (λ o. o otherwise kind_fault (kind xs) xs) (sound_of xs heads place type (Some f) top at is_type e)

pub past_sound : (xs : List ℕ) (heads : List Head) (place : ℕ) (type : List ℕ) → form_fault xs ≡ (sound_fault xs otherwise kind_fault (kind xs) xs) →
    (top_level xs).heads ≡ heads → (prop_head xs).place ≡ place → compression (prop xs) ≡ type →
    sounds_fault (filter is_sound heads) place type ≡ None → form_fault xs ≡ kind_fault (kind xs) xs
past_sound xs heads place type left top at is_type e =
    left ∙ ap (λ o. o otherwise kind_fault (kind xs) xs) (sound_of xs heads place type None top at is_type e)

pub the_sound : (xs : List ℕ) (heads : List Head) (h : Head) → (top_level xs).heads ≡ heads → filter is_sound heads ≡ h ∷ [] → sound_head xs ≡ h
the_sound xs heads h top e = ap (λ hs. the_first (filter is_sound hs)) top ∙ ap the_first e

-- ---- the whole form
pub form_is_refused : (xs : List ℕ) (f : FileFault) → form_fault xs ≡ Some f → form xs ≡ Err f
form_is_refused xs f e = ap (λ o. elim o [ Some fault ↦ Err fault | None ↦ Ok (accepted xs) ]) e

pub form_is_accepted : (xs : List ℕ) → form_fault xs ≡ None → form xs ≡ Ok (accepted xs)
form_is_accepted xs e = ap (λ o. elim o [ Some fault ↦ Err fault | None ↦ Ok (accepted xs) ]) e
