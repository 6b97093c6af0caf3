-- A stream behind its `FVER`: where opening finds one `PROP` and behind it one sound, which is coded, the stream comes to that sound.
use Rattle.std.proofs.Common.{◌≡◌, ℕ, zero, suc, ◌+◌, ◌<◌, ◌≤◌, Bool, true, false, List, [], ◌∷◌, length, Option, Some, None, refl, sym, ap, ◌∙◌, arith}
use Rattle.std.specs.Prelude.{if◌then◌else◌, filter, option_map, codes, not, ◌||◌}
use Rattle.std.proofs.lemmas.Bool.{le-ltb}
use Rattle.std.proofs.lemmas.Slice.Eq.{bytes_eq-Decides}
use Rattle.dsdiff_spec.specs.Bytes.{◌is◌}
use Rattle.dsdiff_spec.specs.Chunks.{Head, Found, head_at, body_place, body_end, next_place, body_of, named, fits, chunks_from}
use Rattle.dsdiff_spec.specs.Rules.{local_fault}
use Rattle.dsdiff_spec.specs.Streams.{stopped, up_to, unless, whole_end, ending_at_head, chunk_head_fault, later_head_fault}
use Rattle.dsdiff_spec.specs.Streams.{prop_head_fault, plain_head_fault, sound_head_fault, came_with, in_sound, in_form}
use Rattle.dsdiff_spec.specs.declared.faults.FileFault.{FileFault}
use Rattle.dsdiff_spec.specs.declared.faults.FileFault.TheVariants.{Overrun, PropTooLong, PropType}
use Rattle.dsdiff_spec.proofs.Steps.{nothing, with_head, fits_body}
use Rattle.dsdiff_spec.proofs.Finding.{found_by}
use Rattle.dsdiff_spec.proofs.StreamSteps.{reaches, head_is_whole, form_has_sound, form_has_chunk}
use Rattle.dsdiff_spec.proofs.ManyOfStreams.{within, by_ids, behind_version, form_passes}

abbrev pub is_sound : Head → Bool
is_sound h = h.id is "DSD " || h.id is "DST "

-- ---- ids
clash : (id a b : List ℕ) → id ≡ a → id ≡ b → a ≡ b
clash id a b p q = sym p ∙ q

no_plain_and_coded : (id : List ℕ) → (id is "DSD ") ≡ true → (id is "DST ") ≡ true → ⊥
no_plain_and_coded id p q =
    let e = clash id (codes "DSD ") (codes "DST ") ((bytes_eq-Decides id (codes "DSD ")).0 p) ((bytes_eq-Decides id (codes "DST ")).0 q) in
    let f : false ≡ true = ap (λ i. i is "DST ") e in
    absurd cc

no_prop_and_plain : (id : List ℕ) → (id is "PROP") ≡ true → (id is "DSD ") ≡ true → ⊥
no_prop_and_plain id p q =
    let e = clash id (codes "PROP") (codes "DSD ") ((bytes_eq-Decides id (codes "PROP")).0 p) ((bytes_eq-Decides id (codes "DSD ")).0 q) in
    let f : false ≡ true = ap (λ i. i is "DSD ") e in
    absurd cc

pub no_prop_and_coded : (id : List ℕ) → (id is "PROP") ≡ true → (id is "DST ") ≡ true → ⊥
no_prop_and_coded id p q =
    let e = clash id (codes "PROP") (codes "DST ") ((bytes_eq-Decides id (codes "PROP")).0 p) ((bytes_eq-Decides id (codes "DST ")).0 q) in
    let f : false ≡ true = ap (λ i. i is "DST ") e in
    absurd cc

-- ---- rules on a chunk's head, by its id
rules_by_ids : (prop : Option (List ℕ)) (h : Head) (a b c : Bool) → (h.id is "PROP") ≡ a → (h.id is "DSD ") ≡ b → (h.id is "DST ") ≡ c →
    later_head_fault prop h ≡ by_ids a b c (prop_head_fault prop h) (plain_head_fault prop) (sound_head_fault prop h)
unfolding by_ids
rules_by_ids prop h a b c p q r =
    ap (λ i. by_ids i (h.id is "DSD ") (h.id is "DST ") (prop_head_fault prop h) (plain_head_fault prop) (sound_head_fault prop h)) p
    ∙ ap (λ i. by_ids a i (h.id is "DST ") (prop_head_fault prop h) (plain_head_fault prop) (sound_head_fault prop h)) q
    ∙ ap (λ i. by_ids a b i (prop_head_fault prop h) (plain_head_fault prop) (sound_head_fault prop h)) r

asked : (w : List ℕ) (end place : ℕ) (version : List ℕ) (prop : Option (List ℕ)) (rules : Option FileFault) → place + 12 ≤ end →
    body_end (head_at w place) ≤ end → end ≤ length w → later_head_fault prop (head_at w place) ≡ None →
    ending_at_head w end place (chunk_head_fault end (behind_version version prop) (head_at w place)) ≡ None
asked w end place version prop rules le fits there none =
    let h = head_at w place in
    head_is_whole w end place (chunk_head_fault end (behind_version version prop) h) le (omega (arith, le, there))
    ∙ ap (option_map stopped) (within (Overrun h.place) end (body_end h) _ fits ∙ none)

-- ---- the sound, and `PROP` before it
by_test : Bool → Head → List Head → List Head
by_test b h hs = if b then h ∷ hs else hs

pub record IsCodedSound (w prop : List ℕ) (s : Head) : Type 0 where
  pub name : (s.id is "DST ") ≡ true
  pub rules : sound_head_fault (Some prop) s ≡ None

pub record IsProp (w : List ℕ) (p : Head) : Type 0 where
  pub most : p.size ≤ 65536
  pub least : 4 ≤ p.size
  pub rules : local_fault (body_place p) (body_of w p) ≡ None

pub record Comes (w : List ℕ) (end : ℕ) (version prop : List ℕ) (p s : Head) (most place : ℕ) (found : Found) : Type 0 where
  pub sound : named "PROP" found.heads ≡ [] → filter is_sound found.heads ≡ s ∷ [] →
      (place < end) × (in_form w end most (behind_version version (Some prop)) place ≡ in_sound w (behind_version version (Some prop)) s)
  pub after : named "PROP" found.heads ≡ p ∷ [] → place ≤ p.place
  pub both : named "PROP" found.heads ≡ p ∷ [] → filter is_sound found.heads ≡ s ∷ [] → p.place ≤ s.place →
      (place < end) × (in_form w end most (behind_version version None) place ≡ in_sound w (behind_version version (Some prop)) s)

module _ (w : List ℕ) (end : ℕ) (version : List ℕ) (p s : Head) (there : end ≤ length w) (is_prop : IsProp w p) (is_coded : IsCodedSound w (body_of w p) s)
  where
    abbrev prop : List ℕ
    prop = body_of w p

    abbrev m : List ℕ → Bool
    m id = not (id is "DSD ")

    abbrev P : ℕ → ℕ → Found → Type 0
    P most place found = Comes w end version prop p s most place found

    none_found : (most place : ℕ) (fault : Option FileFault) → P most place (nothing fault)
    none_found most place fault = record { sound = λ a b. absurd cc; after = λ a. absurd cc; both = λ a b le. absurd cc }

    -- a chunk that is neither
    passes : (o : Option (List ℕ)) (most place : ℕ) → place < end → next_place (head_at w place) ≤ end → ((head_at w place).id is "PROP") ≡ false →
        ((head_at w place).id is "DSD ") ≡ false → ((head_at w place).id is "DST ") ≡ false →
        in_form w end (suc most) (behind_version version o) place ≡ in_form w end most (behind_version version o) (next_place (head_at w place))
    passes o most place lt le a b c =
        form_passes w end most version o place (head_at w place) refl refl a b c le (omega (arith, le, there))

    -- the sound
    is_sound_there : (most place : ℕ) → place < end → place + 12 ≤ end → body_end (head_at w place) ≤ end → head_at w place ≡ s →
        ((head_at w place).id is "PROP") ≡ false → ((head_at w place).id is "DSD ") ≡ false → ((head_at w place).id is "DST ") ≡ true →
        in_form w end (suc most) (behind_version version (Some prop)) place ≡ in_sound w (behind_version version (Some prop)) s
    unfolding by_ids
    is_sound_there most place lt le fit e a b c =
        let h = head_at w place in
        form_has_sound w end most (behind_version version (Some prop)) place lt
        (asked w end place version (Some prop) None le fit there
        (rules_by_ids (Some prop) h false false true a b c ∙ ap (sound_head_fault (Some prop)) e ∙ is_coded.rules)) c
        ∙ ap (in_sound w (behind_version version (Some prop))) e

    sound_behind : (most place : ℕ) (later : Found) → place < end → place + 12 ≤ end → body_end (head_at w place) ≤ end →
        P most (next_place (head_at w place)) later → (a b c : Bool) → ((head_at w place).id is "PROP") ≡ a → ((head_at w place).id is "DSD ") ≡ b →
        ((head_at w place).id is "DST ") ≡ c → by_test a (head_at w place) (named "PROP" later.heads) ≡ [] →
        by_test (b || c) (head_at w place) (filter is_sound later.heads) ≡ s ∷ [] →
        in_form w end (suc most) (behind_version version (Some prop)) place ≡ in_sound w (behind_version version (Some prop)) s
    unfolding by_test
    sound_behind most place later lt le fit comes true b c i j k none one = absurd (let n : head_at w place ∷ named "PROP" later.heads ≡ [] = none in cc)
    sound_behind most place later lt le fit comes false true true i j k none one = absurd (no_plain_and_coded (head_at w place).id j k)
    sound_behind most place later lt le fit comes false true false i j k none one =
        let o : head_at w place ∷ filter is_sound later.heads ≡ s ∷ [] = one in
        let e : head_at w place ≡ s = cc in
        absurd (let f : false ≡ true = sym k ∙ ap (λ h. h.id is "DST ") e ∙ is_coded.name in cc)
    sound_behind most place later lt le fit comes false false true i j k none one =
        let o : head_at w place ∷ filter is_sound later.heads ≡ s ∷ [] = one in
        let e : head_at w place ≡ s = cc in
        is_sound_there most place lt le fit e i j k
    sound_behind most place later lt le fit comes false false false i j k none one =
        let behind = comes.sound none one in
        passes (Some prop) most place lt (omega (arith, behind.0)) i j k ∙ behind.1

    -- `PROP`
    rules_of_prop : (h : Head) → h.size ≤ 65536 → 4 ≤ h.size → prop_head_fault None h ≡ None
    rules_of_prop h most least =
        within PropTooLong 65536 h.size _ most ∙ ap {A = Bool} (λ b. if b then Some PropType else None) (le-ltb h.size 4 least)

    is_prop_there : (most place : ℕ) → place < end → next_place (head_at w place) ≤ end → head_at w place ≡ p →
        ((head_at w place).id is "PROP") ≡ true → ((head_at w place).id is "DSD ") ≡ false → ((head_at w place).id is "DST ") ≡ false →
        in_form w end (suc most) (behind_version version None) place ≡ in_form w end most (behind_version version (Some prop)) (next_place (head_at w place))
    unfolding by_ids
    is_prop_there most place lt next e a b c =
        let h = head_at w place in
        let came = behind_version version None in
        let size = ap (λ i. i.size) e in
        let rules = rules_by_ids None h true false false a b c ∙ rules_of_prop h (omega (arith, is_prop.most, size)) (omega (arith, is_prop.least, size)) in
        let body : local_fault (body_place h) (body_of w h) ≡ None = ap (λ i. local_fault (body_place i) (body_of w i)) e ∙ is_prop.rules in
        form_has_chunk w end most came place lt
        (asked w end place version None None (omega (arith, next)) (omega (arith, next)) there rules) c
        ∙ reaches w h.place (body_end h) _ (omega (arith, next, there))
        ∙ ap {A = Bool} (λ i. unless (if i then local_fault (body_place h) (body_of w h) else None)
        (up_to w h.place (whole_end end h) (in_form w end most (came_with w came h) (next_place h)))) a
        ∙ ap (λ f. unless f (up_to w h.place (whole_end end h) (in_form w end most (came_with w came h) (next_place h)))) body
        ∙ reaches w h.place (whole_end end h) _ (omega (arith, there))
        ∙ ap {A = Bool} (λ i. in_form w end most (record { version = Some version; prop = if i then Some (body_of w h) else None }) (next_place h)) a
        ∙ ap (λ i. in_form w end most (behind_version version (Some (body_of w i))) (next_place h)) e

    after_behind : (most place : ℕ) (later : Found) → P most (next_place (head_at w place)) later → (a : Bool) →
        by_test a (head_at w place) (named "PROP" later.heads) ≡ p ∷ [] → place ≤ p.place
    unfolding by_test
    after_behind most place later comes true one =
        let o : head_at w place ∷ named "PROP" later.heads ≡ p ∷ [] = one in
        let e : head_at w place ≡ p = cc in
        omega (arith, ap (λ h. h.place) e)
    after_behind most place later comes false one = let le = comes.after one in omega (arith, le)

    both_behind : (most place : ℕ) (later : Found) → place < end → place + 12 ≤ end → body_end (head_at w place) ≤ end →
        P most (next_place (head_at w place)) later → (a b c : Bool) → ((head_at w place).id is "PROP") ≡ a → ((head_at w place).id is "DSD ") ≡ b →
        ((head_at w place).id is "DST ") ≡ c → by_test a (head_at w place) (named "PROP" later.heads) ≡ p ∷ [] →
        by_test (b || c) (head_at w place) (filter is_sound later.heads) ≡ s ∷ [] → p.place ≤ s.place →
        in_form w end (suc most) (behind_version version None) place ≡ in_sound w (behind_version version (Some prop)) s
    unfolding by_test
    both_behind most place later lt le fit comes true true c i j k one two order = absurd (no_prop_and_plain (head_at w place).id i j)
    both_behind most place later lt le fit comes true false true i j k one two order = absurd (no_prop_and_coded (head_at w place).id i k)
    both_behind most place later lt le fit comes true false false i j k one two order =
        let o : head_at w place ∷ named "PROP" later.heads ≡ p ∷ [] = one in
        let e : head_at w place ≡ p = cc in
        let none : named "PROP" later.heads ≡ [] = cc in
        let behind = comes.sound none two in
        is_prop_there most place lt (omega (arith, behind.0)) e i j k ∙ behind.1
    both_behind most place later lt le fit comes false true c i j k one two order =
        let o : head_at w place ∷ filter is_sound later.heads ≡ s ∷ [] = two in
        let e : head_at w place ≡ s = cc in
        let after = comes.after one in
        absurd (omega (arith, after, order, ap (λ h. h.place) e))
    both_behind most place later lt le fit comes false false true i j k one two order =
        let o : head_at w place ∷ filter is_sound later.heads ≡ s ∷ [] = two in
        let e : head_at w place ≡ s = cc in
        let after = comes.after one in
        absurd (omega (arith, after, order, ap (λ h. h.place) e))
    both_behind most place later lt le fit comes false false false i j k one two order =
        let behind = comes.both one two order in
        passes None most place lt (omega (arith, behind.0)) i j k ∙ behind.1

    one_more : (most place : ℕ) (later : Found) → place < end → fits m end (head_at w place) ≡ true → P most (next_place (head_at w place)) later →
        P (suc most) place (with_head (head_at w place) later)
    unfolding by_test
    one_more most place later lt fit comes =
        let h = head_at w place in
        let body = fits_body m end h fit in
        let le : place + 12 ≤ end = omega (arith, body) in
        record {
          sound = λ none one. (lt, sound_behind most place later lt le body comes (h.id is "PROP") (h.id is "DSD ") (h.id is "DST ") refl refl refl none one);
          after = λ one. after_behind most place later comes (h.id is "PROP") one;
          both = λ one two order. (
            lt,
            both_behind most place later lt le body comes (h.id is "PROP") (h.id is "DSD ") (h.id is "DST ") refl refl refl
                one two order,
          );
        }

    pub chunks_come : (most place : ℕ) → P most place (chunks_from m w end most place)
    chunks_come most place =
        found_by m w end P (λ n i le. none_found n i None) (λ i l. none_found zero i _) (λ n i l e. none_found (suc n) i _)
        (λ n i later l e comes. one_more n i later l e comes) most place
