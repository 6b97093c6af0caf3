-- What every stream has, whatever its bytes: followed chunk by chunk.
use Rattle.std.proofs.Common.{◌≡◌, ℕ, zero, suc, ◌+◌, ◌*◌, ◌<◌, ◌≤◌, ◌==◌, Bool, true, false, List, length, drop, Option, Some, None, refl, sym, ap}
use Rattle.std.proofs.Common.{subst, ◌∙◌, arith, inl, inr, ltb-false, eqb-true}
use Rattle.std.specs.Prelude.{nat_lt, if◌then◌else◌, codes, not, ◌||◌}
use Rattle.std.specs.List.{AllByRecursion}
use Rattle.std.proofs.lemmas.Bool.{and_parts, cases_lt, eq-eqb}
use Rattle.std.proofs.lemmas.List.{length-take, length-take-le}
use Rattle.std.proofs.Common.{length-drop}
use Rattle.std.proofs.lemmas.Slice.Eq.{bytes_eq-Decides}
use Rattle.dst_spec.specs.Sample.{Shape, sound_bytes}
use Rattle.dsdiff_spec.specs.Bytes.{number_at, ◌is◌, ◌above◌, ◌below◌}
use Rattle.dsdiff_spec.specs.Faults.{◌when◌, ◌otherwise◌}
use Rattle.dsdiff_spec.specs.Chunks.{Head, head_at, body_place, body_end, next_place, body_of}
use Rattle.dsdiff_spec.specs.Parts.{form_end}
use Rattle.dsdiff_spec.specs.Rules.{local_fault, is_frte}
use Rattle.dsdiff_spec.specs.Streams.{Stream, Ending, Front, ended, stopped, cut_off, nothing_but, with_front, with_frame, up_to, unless, whole_end, shape_in}
use Rattle.dsdiff_spec.specs.Streams.{ending_at_head, frame_head_fault, with_frame_in, in_sound_chunk, found_with, counted, frames_from, Came, nothing_came}
use Rattle.dsdiff_spec.specs.Streams.{version_head_fault, prop_head_fault, plain_head_fault, sound_head_fault, later_head_fault, chunk_head_fault}
use Rattle.dsdiff_spec.specs.Streams.{chunk_body_fault, frte_fault_at, in_sound, in_form_chunk, in_form, form_head_fault, stream}
use Rattle.dsdiff_spec.specs.declared.faults.FileFault.{FileFault}
use Rattle.dsdiff_spec.specs.declared.faults.FileFault.TheVariants.{NotForm, Overrun, Version, TooManyChunks, FrameTooLong, TooManyFrames}
use Rattle.dsdiff_spec.specs.declared.faults.FileFault.TheVariants.{CountDiffers, PropTooLong, PropType, FrameRate}
use Rattle.dsdiff_spec.proofs.Lawful.{first_gives_none, later_gives_none, when_not, rules_at_0}
use Rattle.dsdiff_spec.proofs.ManyOfStreams.{by_ids}
use Rattle.dsdiff_spec.proofs.StreamSteps.{by_tests}
use Rattle.dsdiff_spec.proofs.StreamSteps.{sound_ends, sound_has_no_more, sound_ends_at_head, sound_has_chunk, form_ends, form_has_no_more}
use Rattle.dsdiff_spec.proofs.StreamSteps.{form_ends_at_head, form_has_sound, form_has_chunk}
use Rattle.stream_spec.specs.Lawful.{IsLawfulFront, IsShort, AreLawful, IsLawful, IsPartOf, LawfulStreamsLaw}

-- ---- endings that aren't behind the last frame
abbrev IsEarly : Ending → Type 0
IsEarly ended = ⊥
IsEarly (stopped fault) = Unit {0}
IsEarly (cut_off fault) = Unit {0}

not_ended : (e : Ending) → IsEarly e → e ≡ ended → ⊥
not_ended e early same = subst IsEarly same early

tests_early : (a b : Bool) (place : ℕ) (fault : Option FileFault) (e : Ending) → by_tests a b place fault ≡ Some e → IsEarly e
unfolding by_tests
tests_early true b place fault e same = let sames : stopped (Overrun place) ≡ e = cc in subst IsEarly sames (tt {0})
tests_early false true place fault e same = let sames : cut_off (Overrun place) ≡ e = cc in subst IsEarly sames (tt {0})
tests_early false false place (Some f) e same = let sames : stopped f ≡ e = cc in subst IsEarly sames (tt {0})
tests_early false false place None e same = absurd cc

tests_none : (a b : Bool) (place : ℕ) (fault : Option FileFault) → by_tests a b place fault ≡ None → fault ≡ None
unfolding by_tests
tests_none true b place fault same = absurd cc
tests_none false true place fault same = absurd cc
tests_none false false place (Some f) same = absurd cc
tests_none false false place None same = refl

ends_early : (w : List ℕ) (end place : ℕ) (fault : Option FileFault) (e : Ending) → ending_at_head w end place fault ≡ Some e → IsEarly e
unfolding by_tests
ends_early w end place fault e same = tests_early (nat_lt end (place + 12)) (nat_lt (length w) (place + 12)) place fault e same

no_fault_at_head : (w : List ℕ) (end place : ℕ) (fault : Option FileFault) → ending_at_head w end place fault ≡ None → fault ≡ None
unfolding by_tests
no_fault_at_head w end place fault same = tests_none (nat_lt end (place + 12)) (nat_lt (length w) (place + 12)) place fault same

-- what holds of a stream that is cut off, and of what follows where the bytes reach a place
reached : (P : Stream → Type 0) (w : List ℕ) (c place : ℕ) (later : Stream) → P (nothing_but (cut_off (Overrun c))) → (place ≤ length w → P later) →
    P (up_to w c place later)
reached P w c place later none go_on = go (nat_lt (length w) place) refl
  where
    go : (b : Bool) → nat_lt (length w) place ≡ b → P (if b then nothing_but (cut_off (Overrun c)) else later)
    go true e = none
    go false e = go_on (ltb-false (length w) place e)

unless_then : (P : Stream → Type 0) (fault : Option FileFault) (later : Stream) → ((f : FileFault) → P (nothing_but (stopped f))) → (fault ≡ None → P later) →
    P (unless fault later)
unless_then P (Some f) later none go_on = none f
unless_then P None later none go_on = go_on refl

-- ---- in `DST `, behind so many frames
record FramesAre (w : List ℕ) (f : Shape) (count found : ℕ) (s : Stream) : Type 0 where
  pub parts : AllByRecursion (IsPartOf w) s.frames
  pub short : AllByRecursion (IsShort f) s.frames
  pub few : found + length s.frames ≤ count
  pub ended : s.ending ≡ ended → found + length s.frames ≡ count

early_frames : (w : List ℕ) (f : Shape) (count found : ℕ) (e : Ending) → found ≤ count → IsEarly e → FramesAre w f count found (nothing_but e)
early_frames w f count found e le early = record { parts = tt; short = tt; few = omega (arith, le); ended = λ same. absurd (not_ended e early same) }

counted_frames : (w : List ℕ) (f : Shape) (count found : ℕ) → found ≤ count → FramesAre w f count found (nothing_but (counted count found))
counted_frames w f count found le = record { parts = tt; short = tt; few = omega (arith, le); ended = λ same. go (found == count) refl same }
  where
    go : (b : Bool) → (found == count) ≡ b → (if b then ended else stopped (CountDiffers count found)) ≡ ended → found + 0 ≡ count
    go true e same = let all = eqb-true found count e in omega (arith, all)
    go false e same = absurd (not_ended (stopped (CountDiffers count found)) (tt {0}) same)

one_frame_more : (w : List ℕ) (f : Shape) (count found : ℕ) (h : Head) (s : Stream) → h.size ≤ 2 * (sound_bytes f + 1) → FramesAre w f count (found + 1) s →
    FramesAre w f count found (with_frame (body_of w h) s)
one_frame_more w f count found h s short are =
    record {
      parts = ((body_place h, h.size, refl), are.parts);
      short = (omega (arith, short, length-take h.size (drop (body_place h) w)), are.short);
      few = (let few = are.few in omega (arith, few));
      ended = λ same. (let all = are.ended same in omega (arith, all));
    }

frames_after : (w : List ℕ) (f : Shape) (count end found : ℕ) (h : Head) (later : Stream) → found ≤ count →
    frame_head_fault f count end found h ≡ None → (found_with h found ≤ count → FramesAre w f count (found_with h found) later) →
    FramesAre w f count found (in_sound_chunk w end h later)
frames_after w f count end found h later le none next =
    reached (FramesAre w f count found) w h.place (body_end h) (with_frame_in w h (up_to w h.place (whole_end end h) later)) cut
    (λ there. by_name (h.id is "DSTF") (later_gives_none (Overrun h.place when body_end h above end) _ none) next)
  where
    cut : FramesAre w f count found (nothing_but (cut_off (Overrun h.place)))
    cut = early_frames w f count found (cut_off (Overrun h.place)) le (tt {0})

    frame_rules : Option FileFault
    frame_rules =
        FrameTooLong found h.size when h.size above 2 * (sound_bytes f + 1)
        otherwise TooManyFrames when found above 999999
        otherwise CountDiffers count (count + 1) when found == count

    less : (found == count) ≡ false → found < count
    less e = elim (cases_lt found count) [
      | inl lt ↦ lt
      | inr ge ↦ absurd (let b : true ≡ false = sym (eq-eqb found count (omega (arith, ge, le))) ∙ e in cc)
    ]

    by_name : (b : Bool) →
        (if b then (FrameTooLong found h.size when h.size above 2 * (sound_bytes f + 1) otherwise TooManyFrames when found above 999999
        otherwise CountDiffers count (count + 1) when found == count) else None) ≡ None →
        ((if b then (found + 1) else found) ≤ count → FramesAre w f count (if b then (found + 1) else found) later) →
        FramesAre w f count found
        (if b then with_frame (body_of w h) (up_to w h.place (whole_end end h) later) else up_to w h.place (whole_end end h) later)
    by_name false none next = reached (FramesAre w f count found) w h.place (whole_end end h) later cut (λ there. next le)
    by_name true none next =
        let third = CountDiffers count (count + 1) when found == count in
        let second = TooManyFrames when found above 999999 otherwise third in
        let size = ltb-false (2 * (sound_bytes f + 1)) h.size (when_not (FrameTooLong found h.size) _ (first_gives_none _ second none)) in
        let fewer = less (when_not (CountDiffers count (count + 1)) (found == count) (later_gives_none (TooManyFrames when found above 999999) third
        (later_gives_none (FrameTooLong found h.size when h.size above 2 * (sound_bytes f + 1)) second none))) in
        one_frame_more w f count found h _ size
        (reached (FramesAre w f count (found + 1)) w h.place (whole_end end h) later
        (early_frames w f count (found + 1) (cut_off (Overrun h.place)) (omega (arith, fewer)) (tt {0}))
        (λ there. next (omega (arith, fewer))))

frames_are : (w : List ℕ) (f : Shape) (count end most found place : ℕ) → found ≤ count → FramesAre w f count found (frames_from w f count end most found place)
frames_are w f count end zero found place le = elim (cases_lt place end) [
  | inr ge ↦ subst (FramesAre w f count found) (sym (sound_ends w f count end zero found place ge)) (counted_frames w f count found le)
  | inl lt ↦ subst (FramesAre w f count found) (sym (sound_has_no_more w f count end found place lt))
      (early_frames w f count found (stopped TooManyChunks) le (tt {0}))
]
frames_are w f count end (suc most) found place le = elim (cases_lt place end) [
  | inr ge ↦ subst (FramesAre w f count found) (sym (sound_ends w f count end (suc most) found place ge)) (counted_frames w f count found le)
  | inl lt ↦ go lt (ending_at_head w end place (frame_head_fault f count end found (head_at w place))) refl
      (λ n le. frames_are w f count end most n (next_place (head_at w place)) le)
]
  where
    go : place < end → (o : Option Ending) → ending_at_head w end place (frame_head_fault f count end found (head_at w place)) ≡ o →
        ((n : ℕ) → n ≤ count → FramesAre w f count n (frames_from w f count end most n (next_place (head_at w place)))) →
        FramesAre w f count found (frames_from w f count end (suc most) found place)
    go lt (Some e) same next =
        subst (FramesAre w f count found) (sym (sound_ends_at_head w f count end most found place e lt same))
        (early_frames w f count found e le (ends_early w end place _ e same))
    go lt None same next =
        subst (FramesAre w f count found) (sym (sound_has_chunk w f count end most found place lt same))
        (frames_after w f count end found (head_at w place) _ le (no_fault_at_head w end place _ same) (next (found_with (head_at w place) found)))

-- ---- in the form, where these bodies came
record CameLawful (came : Came) : Type 0 where
  pub version : (v : List ℕ) → came.version ≡ Some v → length v ≡ 4
  pub most : (p : List ℕ) → came.prop ≡ Some p → length p ≤ 65536
  pub rules : (p : List ℕ) → came.prop ≡ Some p → local_fault 0 p ≡ None
  pub none : came.version ≡ None → came.prop ≡ None

early_form : (w : List ℕ) (e : Ending) → IsEarly e → IsLawful w (nothing_but e)
early_form w e early = record { front = λ f same. absurd cc; frames = λ f same. absurd cc; ended = λ same. absurd (not_ended e early same) }

-- ---- `DST `, behind `FVER` and `PROP`
lawful_front : (w : List ℕ) (front : Front) (s : Stream) → IsLawfulFront front → FramesAre w (shape_in front.prop) front.frames 0 s →
    IsLawful w (with_front front s)
lawful_front w front s lawful are =
    record {
      front = λ f same. (let e : front ≡ f = cc in subst IsLawfulFront e lawful);
      frames = λ f same. (let e : front ≡ f = cc in subst (λ g. AreLawful w g (with_front front s)) e all);
      ended = λ same. (front, refl);
    }
  where
    all : AreLawful w front (with_front front s)
    all = record {
      parts = are.parts;
      short = are.short;
      few = (let few = are.few in omega (arith, few));
      ended = λ same. (let fewer = are.ended same in omega (arith, fewer));
    }

count_few : (w : List ℕ) (place : ℕ) → frte_fault_at w place ≡ None → number_at w (place + 12) 4 ≤ 1000000
count_few w place none =
    ltb-false 1000000 (number_at w (place + 12) 4)
    (when_not TooManyFrames _ (later_gives_none (FrameRate when not (is_frte w place) || not (number_at w (place + 16) 2 == 75)) _ none))

sound_lawful : (w v p : List ℕ) (h : Head) → CameLawful (record { version = Some v; prop = Some p }) →
    IsLawful w (in_sound w (record { version = Some v; prop = Some p }) h)
sound_lawful w v p h came =
    let front : Front = record { version = v; prop = p; frames = number_at w (body_place h + 12) 4 } in
    reached (IsLawful w) w (body_place h) (body_place h + 18) _ (early_form w (cut_off (Overrun (body_place h))) (tt {0}))
    (λ there. unless_then (IsLawful w) (frte_fault_at w (body_place h)) _ (λ f. early_form w (stopped f) (tt {0}))
    (λ none. lawful_front w front _
    (record { version = came.version v refl; most = came.most p refl; rules = came.rules p refl; frames = count_few w (body_place h) none })
    (frames_are w (shape_in p) front.frames (body_end h) 4000000 0 (body_place h + 18) (omega arith))))

-- ---- a chunk of the form
chunk_lawful : (w : List ℕ) (end : ℕ) (came : Came) (h : Head) (later : Stream) →
    (body_end h ≤ length w → chunk_body_fault w came h ≡ None → IsLawful w later) → IsLawful w (in_form_chunk w end came h later)
chunk_lawful w end came h later next =
    reached (IsLawful w) w h.place (body_end h) _ (early_form w (cut_off (Overrun h.place)) (tt {0}))
    (λ there. unless_then (IsLawful w) (chunk_body_fault w came h) _ (λ f. early_form w (stopped f) (tt {0}))
    (λ none. reached (IsLawful w) w h.place (whole_end end h) later (early_form w (cut_off (Overrun h.place)) (tt {0})) (λ all. next there none)))

no_version_and_coded : (id : List ℕ) → (id is "FVER") ≡ true → (id is "DST ") ≡ true → ⊥
no_version_and_coded id p q =
    let e = sym ((bytes_eq-Decides id (codes "FVER")).0 p) ∙ (bytes_eq-Decides id (codes "DST ")).0 q in
    let f : false ≡ true = ap (λ i. i is "DST ") e in
    absurd cc

no_prop_and_coded : (id : List ℕ) → (id is "PROP") ≡ true → (id is "DST ") ≡ true → ⊥
no_prop_and_coded id p q =
    let e = sym ((bytes_eq-Decides id (codes "PROP")).0 p) ∙ (bytes_eq-Decides id (codes "DST ")).0 q in
    let f : false ≡ true = ap (λ i. i is "DST ") e in
    absurd cc

is_not_false : (b : Bool) → not b ≡ false → b ≡ true
is_not_false true q = refl
is_not_false false q = absurd cc

is_version : (h : Head) → version_head_fault h ≡ None → ((h.id is "FVER") ≡ true) × (h.size ≡ 4)
is_version h none =
    let both = and_parts (h.id is "FVER") (h.size == 4) (is_not_false _ (when_not Version _ none)) in
    (both.0, eqb-true h.size 4 both.1)

asked_by_ids : (prop : Option (List ℕ)) (h : Head) → later_head_fault prop h ≡ None →
    by_ids (h.id is "PROP") (h.id is "DSD ") (h.id is "DST ") (prop_head_fault prop h) (plain_head_fault prop) (sound_head_fault prop h) ≡ None
unfolding by_ids
asked_by_ids prop h none = none

has_prop : (prop : Option (List ℕ)) (h : Head) → later_head_fault prop h ≡ None → (h.id is "DST ") ≡ true → (p : List ℕ) × (prop ≡ Some p)
unfolding by_ids
has_prop prop h none is_sound = go prop (h.id is "PROP") (h.id is "DSD ") (h.id is "DST ") refl is_sound (asked_by_ids prop h none)
  where
    go : (o : Option (List ℕ)) (a b c : Bool) → (h.id is "PROP") ≡ a → c ≡ true →
        by_ids a b c (prop_head_fault o h) (plain_head_fault o) (sound_head_fault o h) ≡ None → (p : List ℕ) × (o ≡ Some p)
    go o true b c e coded n = absurd (no_prop_and_coded h.id e is_sound)
    go (Some p) false b c e coded n = (p, refl)
    go None false true c e coded n = absurd cc
    go None false false true e coded n = absurd cc
    go None false false false e coded n = absurd cc

body_is : (w : List ℕ) (h : Head) → body_end h ≤ length w → length (body_of w h) ≡ h.size
body_is w h there = length-take-le h.size (drop (body_place h) w) (omega (arith, there, length-drop (body_place h) w))

version_came : (w : List ℕ) (h : Head) → body_end h ≤ length w → h.size ≡ 4 → CameLawful (record { version = Some (body_of w h); prop = None })
version_came w h there size =
    record {
      version = λ v same. (let e : body_of w h ≡ v = cc in subst (λ x. length x ≡ 4) e (omega (arith, body_is w h there, size)));
      most = λ p same. absurd cc;
      rules = λ p same. absurd cc;
      none = λ same. absurd cc;
    }

prop_came : (w v : List ℕ) (prop : Option (List ℕ)) (h : Head) (b : Bool) → CameLawful (record { version = Some v; prop = prop }) → body_end h ≤ length w →
    (b ≡ true → h.size ≤ 65536) → (if b then local_fault (body_place h) (body_of w h) else None) ≡ None →
    CameLawful (record { version = Some v; prop = if b then Some (body_of w h) else prop })
prop_came w v prop h false came there most none = came
prop_came w v prop h true came there most none =
    record {
      version = came.version;
      most = λ p same. (let e : body_of w h ≡ p = cc in subst (λ x. length x ≤ 65536) e (let size = most refl in omega (arith, body_is w h there, size)));
      rules = λ p same. (let e : body_of w h ≡ p = cc in subst (λ x. local_fault 0 x ≡ None) e (rules_at_0 (body_place h) (body_of w h) none));
      none = λ same. absurd cc;
    }

prop_short : (prop : Option (List ℕ)) (h : Head) → later_head_fault prop h ≡ None → (h.id is "PROP") ≡ true → h.size ≤ 65536
unfolding by_ids
prop_short prop h none is_prop = go prop (h.id is "PROP") is_prop (asked_by_ids prop h none)
  where
    go : (o : Option (List ℕ)) (a : Bool) → a ≡ true →
        by_ids a (h.id is "DSD ") (h.id is "DST ") (prop_head_fault o h) (plain_head_fault o) (sound_head_fault o h) ≡ None →
        h.size ≤ 65536
    go o false e n = absurd cc
    go (Some p) true e n = absurd cc
    go None true e n = ltb-false 65536 h.size (when_not PropTooLong _ (first_gives_none _ (PropType when h.size below 4) n))

-- ---- the form
form_lawful : (w : List ℕ) (end most : ℕ) (version prop : Option (List ℕ)) (place : ℕ) → CameLawful (record { version = version; prop = prop }) →
    IsLawful w (in_form w end most (record { version = version; prop = prop }) place)
form_lawful w end zero version prop place came = elim (cases_lt place end) [
  | inr ge ↦ subst (IsLawful w) (sym (form_ends w end zero (record { version = version; prop = prop }) place ge)) (early_form w (stopped _) (tt {0}))
  | inl lt ↦ subst (IsLawful w) (sym (form_has_no_more w end (record { version = version; prop = prop }) place lt))
      (early_form w (stopped TooManyChunks) (tt {0}))
]
form_lawful w end (suc most) version prop place came = elim (cases_lt place end) [
  | inr ge ↦ subst (IsLawful w) (sym (form_ends w end (suc most) (record { version = version; prop = prop }) place ge)) (early_form w (stopped _) (tt {0}))
  | inl lt ↦ go lt version prop came (ending_at_head w end place (chunk_head_fault end (record { version = version; prop = prop }) (head_at w place))) refl
      ((head_at w place).id is "DST ") refl (λ v p n c. form_lawful w end most v p n c)
]
  where
    h : Head
    h = head_at w place

    go : place < end → (v p : Option (List ℕ)) → CameLawful (record { version = v; prop = p }) →
        (o : Option Ending) → ending_at_head w end place (chunk_head_fault end (record { version = v; prop = p }) (head_at w place)) ≡ o →
        (b : Bool) → ((head_at w place).id is "DST ") ≡ b →
        ((x y : Option (List ℕ)) (n : ℕ) → CameLawful (record { version = x; prop = y }) →
        IsLawful w (in_form w end most (record { version = x; prop = y }) n)) →
        IsLawful w (in_form w end (suc most) (record { version = v; prop = p }) place)
    go lt v p came (Some e) same b d next =
        subst (IsLawful w) (sym (form_ends_at_head w end most (record { version = v; prop = p }) place e lt same))
        (early_form w e (ends_early w end place _ e same))
    go lt None p came None same true d next =
        let none = later_gives_none (Overrun (head_at w place).place when body_end (head_at w place) above end) _ (no_fault_at_head w end place _ same) in
        absurd (no_version_and_coded (head_at w place).id (is_version (head_at w place) none).0 d)
    go lt (Some v) p came None same true d next =
        let none = later_gives_none (Overrun (head_at w place).place when body_end (head_at w place) above end) _ (no_fault_at_head w end place _ same) in
        let has = has_prop p (head_at w place) none d in
        subst (IsLawful w) (sym (form_has_sound w end most (record { version = Some v; prop = p }) place lt same d))
        (subst (λ x. IsLawful w (in_sound w (record { version = Some v; prop = x }) (head_at w place))) (sym has.1)
        (sound_lawful w v has.0 (head_at w place) (subst (λ x. CameLawful (record { version = Some v; prop = x })) has.1 came)))
    go lt None p came None same false d next =
        let none = later_gives_none (Overrun (head_at w place).place when body_end (head_at w place) above end) _ (no_fault_at_head w end place _ same) in
        subst (IsLawful w) (sym (form_has_chunk w end most (record { version = None; prop = p }) place lt same d))
        (chunk_lawful w end (record { version = None; prop = p }) (head_at w place) _
        (λ there body. next (Some (body_of w (head_at w place))) None (next_place (head_at w place))
        (version_came w (head_at w place) there (is_version (head_at w place) none).1)))
    go lt (Some v) p came None same false d next =
        let none = later_gives_none (Overrun (head_at w place).place when body_end (head_at w place) above end) _ (no_fault_at_head w end place _ same) in
        subst (IsLawful w) (sym (form_has_chunk w end most (record { version = Some v; prop = p }) place lt same d))
        (chunk_lawful w end (record { version = Some v; prop = p }) (head_at w place) _
        (λ there body. next (Some v) (if (head_at w place).id is "PROP" then Some (body_of w (head_at w place)) else p) (next_place (head_at w place))
        (prop_came w v p (head_at w place) ((head_at w place).id is "PROP") came there (prop_short p (head_at w place) none) body)))

pub streams_are_lawful : LawfulStreamsLaw
unfolding stream
streams_are_lawful w = go (nat_lt (length w) 16)
  where
    nothing_lawful : CameLawful nothing_came
    nothing_lawful = record { version = λ v same. absurd cc; most = λ p same. absurd cc; rules = λ p same. absurd cc; none = λ same. refl }

    go : (b : Bool) → IsLawful w (elim b [
      | true ↦ nothing_but (cut_off NotForm)
      | false ↦
          unless (form_head_fault w) (in_form w (form_end w) 1024 nothing_came 16)
    ])
    go true = early_form w (cut_off NotForm) (tt {0})
    go false = unless_then (IsLawful w) (form_head_fault w) _ (λ f. early_form w (stopped f) (tt {0}))
        (λ none. form_lawful w (form_end w) 1024 None None 16 nothing_lawful)
