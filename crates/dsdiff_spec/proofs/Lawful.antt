-- What a file that keeps all rules has.
use Rattle.std.proofs.Common.{◌≡◌, ◌⊎◌, ℕ, ◌*◌, ◌/◌, ◌≤◌, List, Bool, true, false, Option, Some, None, refl, inl, inr, ap, ◌∙◌}
use Rattle.std.specs.Prelude.{◌||◌, not, ◌==◌}
use Rattle.std.proofs.lemmas.Bool.{ltb-false, eqb-true}
use Rattle.dst_spec.specs.Sample.{IsShape}
use Rattle.dsdiff_spec.specs.Faults.{◌when◌, ◌otherwise◌}
use Rattle.dsdiff_spec.specs.Chunks.{body_place}
use Rattle.dsdiff_spec.specs.Form.{shape, shape_of}
use Rattle.dsdiff_spec.specs.Parts.{prop_head, prop, in_prop, rate, channel_count, multiple, kind}
use Rattle.dsdiff_spec.specs.Rules.{opening_fault, version_fault, prop_chunk_fault, local_fault, type_fault, moved, rate_fault, channels_fault}
use Rattle.dsdiff_spec.specs.Rules.{compression_fault, prop_fault, sound_fault, kind_fault, form_fault, accepted, is_rate}
use Rattle.dsdiff_spec.specs.declared.faults.FileFault.{FileFault}
use Rattle.dsdiff_spec.specs.declared.faults.FileFault.TheVariants.{Overrun}

-- where a chain of rules gives no fault, no rule of it does, and nothing at which a rule's fault comes holds
pub first_gives_none : (a b : Option FileFault) → a otherwise b ≡ None → a ≡ None
first_gives_none (Some f) b p = absurd cc
first_gives_none None b p = refl

pub later_gives_none : (a b : Option FileFault) → a otherwise b ≡ None → b ≡ None
later_gives_none (Some f) b p = absurd cc
later_gives_none None b p = p

pub when_not : (f : FileFault) (b : Bool) → (f when b) ≡ None → b ≡ false
when_not f true p = absurd cc
when_not f false p = refl

pub left_is_false : (a b : Bool) → (a || b) ≡ false → a ≡ false
left_is_false true b p = absurd cc
left_is_false false b p = refl

pub right_is_false : (a b : Bool) → (a || b) ≡ false → b ≡ false
right_is_false true b p = absurd cc
right_is_false false b p = p

pub moved_none : (start : ℕ) (fault : Option FileFault) → moved start fault ≡ None → fault ≡ None
moved_none start None e = refl
moved_none start (Some (Overrun place)) e = absurd cc
moved_none start (Some fault) e = absurd cc

prop_gives_none : (file : List ℕ) → form_fault file ≡ None → prop_fault file ≡ None
unfolding form_fault
prop_gives_none file p =
    let after_prop = sound_fault file otherwise kind_fault (kind file) file in
    first_gives_none (prop_fault file) after_prop
    (later_gives_none (version_fault file) (prop_fault file otherwise after_prop)
    (later_gives_none (opening_fault file) (version_fault file otherwise prop_fault file otherwise after_prop) p))

-- the rules on the body of `PROP`
local_gives_none : (file : List ℕ) → form_fault file ≡ None → local_fault (body_place (prop_head file)) (prop file) ≡ None
local_gives_none file p =
    later_gives_none (prop_chunk_fault file) (local_fault (body_place (prop_head file)) (prop file)) (prop_gives_none file p)

fields_give_none : (start : ℕ) (body : List ℕ) → local_fault start body ≡ None →
    rate_fault body otherwise channels_fault body otherwise compression_fault body ≡ None
fields_give_none start body p =
    let fields = rate_fault body otherwise channels_fault body otherwise compression_fault body in
    later_gives_none (moved start (in_prop body).fault) fields
    (later_gives_none (type_fault body) (moved start (in_prop body).fault otherwise fields) p)

rate_is_lawful : (start : ℕ) (body : List ℕ) → local_fault start body ≡ None → is_rate (rate body) ≡ true
rate_is_lawful start body p =
    let none = first_gives_none (rate_fault body) (channels_fault body otherwise compression_fault body) (fields_give_none start body p) in
    let none_holds = when_not _ _ none in
    is_not_false _ (right_is_false _ _ none_holds)
  where
    is_not_false : (b : Bool) → not b ≡ false → b ≡ true
    is_not_false true q = refl
    is_not_false false q = absurd cc

channels_are_lawful : (start : ℕ) (body : List ℕ) → local_fault start body ≡ None → (1 ≤ channel_count body) × (channel_count body ≤ 6)
channels_are_lawful start body p =
    let none = first_gives_none (channels_fault body) (compression_fault body)
    (later_gives_none (rate_fault body) (channels_fault body otherwise compression_fault body) (fields_give_none start body p)) in
    let none_holds = when_not _ _ none in
    let inside = right_is_false _ _ (left_is_false _ _ none_holds) in
    (ltb-false (channel_count body) 1 (left_is_false _ _ inside), ltb-false 6 (channel_count body) (right_is_false _ _ inside))

or_either : (a b : Bool) → (a || b) ≡ true → (a ≡ true) ⊎ (b ≡ true)
or_either true b q = inl refl
or_either false b q = inr q

octets_of : (n : ℕ) → is_rate n ≡ true → (4704 * (n / 2822400) ≡ 4704 * 1) ⊎ (4704 * (n / 2822400) ≡ 4704 * 2) ⊎ (4704 * (n / 2822400) ≡ 4704 * 4)
octets_of n q = elim (or_either _ (n == 11289600) q) [
  | inl e ↦ elim (or_either (n == 2822400) (n == 5644800) e) [
    | inl f ↦ inl (ap (λ m. 4704 * (m / 2822400)) (eqb-true n 2822400 f))
    | inr f ↦ inr (inl (ap (λ m. 4704 * (m / 2822400)) (eqb-true n 5644800 f)))
  ]
  | inr e ↦ inr (inr (ap (λ m. 4704 * (m / 2822400)) (eqb-true n 11289600 e)))
]

-- so each frame has a lawful shape
pub prop_has_a_shape : (start : ℕ) (body : List ℕ) → local_fault start body ≡ None → IsShape (shape_of (channel_count body) (multiple body))
prop_has_a_shape start body p =
    let c = channels_are_lawful start body p in
    record { least = c.0; most = c.1; rate = octets_of (rate body) (rate_is_lawful start body p) }

pub form_has_a_shape : (file : List ℕ) → form_fault file ≡ None → IsShape (shape (accepted file))
form_has_a_shape file p = prop_has_a_shape (body_place (prop_head file)) (prop file) (local_gives_none file p)

-- the first fault of a rule for each of a list, and of the others
abbrev pub first_of : Option FileFault → Option FileFault → Option FileFault
first_of o later = elim o [ Some y ↦ Some y | None ↦ later ]

-- the rules on a body don't depend on where it begins
pub rules_at_0 : (start : ℕ) (body : List ℕ) → local_fault start body ≡ None → local_fault 0 body ≡ None
rules_at_0 start body none =
    let fields = rate_fault body otherwise channels_fault body otherwise compression_fault body in
    let type_none = first_gives_none (type_fault body) (moved start (in_prop body).fault otherwise fields) none in
    let rest = later_gives_none (type_fault body) (moved start (in_prop body).fault otherwise fields) none in
    let whole = moved_none start (in_prop body).fault (first_gives_none (moved start (in_prop body).fault) fields rest) in
    let last = later_gives_none (moved start (in_prop body).fault) fields rest in
    ap (λ t. t otherwise moved 0 (in_prop body).fault otherwise fields) type_none
    ∙ ap (λ f. moved 0 f otherwise fields) whole
    ∙ last
