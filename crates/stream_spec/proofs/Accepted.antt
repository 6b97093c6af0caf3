-- A file that is accepted for decoding is a stream of its frames.
use Rattle.std.proofs.Common.{◌≡◌, ℕ, zero, suc, ◌+◌, ◌%◌, ◌^◌, ◌≤◌, ◌==◌, Bool, true, false, List, [], ◌∷◌, length, drop, get_or, map, Option, Some}
use Rattle.std.proofs.Common.{None, refl, sym, ap, ap₂, subst, ◌∙◌, arith, inl, inr, ltb-false, eqb-true}
use Rattle.std.specs.Prelude.{if◌then◌else◌, filter, codes, not, ◌||◌, ◌&&◌, bytes_eq}
use Rattle.std.specs.List.{AllByRecursion, enumerate_from}
use Rattle.std.proofs.lemmas.Bool.{and_parts, cases_lt, cases_Bool}
use Rattle.std.proofs.lemmas.List.{length-take}
use Rattle.std.proofs.lemmas.Slice.Eq.{bytes_eq-Decides}
use Rattle.dsdiff_spec.specs.Bytes.{bytes_at, ◌is◌, ◌above◌, ◌below◌}
use Rattle.dsdiff_spec.specs.Faults.{◌when◌, ◌otherwise◌, first_some}
use Rattle.dsdiff_spec.specs.Chunks.{Head, head_at, body_place, body_end, next_place, body_of, named, the_first, fits, chunks_from}
use Rattle.dsdiff_spec.specs.Form.{plain, coded, Form, longest_frame, shape}
use Rattle.dsdiff_spec.specs.Parts.{form_size, form_end, top_level, all, prop_head, prop, compression, sounds, sound_head, kind, frame_count, frame_rate}
use Rattle.dsdiff_spec.specs.Rules.{opening_fault, is_version, version_fault, prop_chunk_fault, local_fault, type_fault, prop_fault, sound_fault}
use Rattle.dsdiff_spec.specs.Rules.{kind_fault, is_frte, has_bad_origin, coded_fault, form_fault, form_of_kind, accepted}
use Rattle.dsdiff_spec.specs.Walk.{in_dst, frame_heads, frame_fault, walk_fault, entry_of, frame_at}
use Rattle.dsdiff_spec.specs.Decoded.{frames_of}
use Rattle.dsdiff_spec.specs.Refusal.{not_coded}
use Rattle.dsdiff_spec.specs.Streams.{Stream, Front, ended, form_head_fault, frte_fault_at, with_front, unless, frames_from, in_sound, version_in, StreamLaw}
use Rattle.dsdiff_spec.specs.declared.faults.FileFault.{FileFault}
use Rattle.dsdiff_spec.specs.declared.faults.FileFault.TheVariants.{NotForm, FormTooLarge, FormType, Overrun, Version, PropMissing, PropTwice}
use Rattle.dsdiff_spec.specs.declared.faults.FileFault.TheVariants.{PropTooLong, PropType}
use Rattle.dsdiff_spec.specs.declared.faults.FileFault.TheVariants.{SoundMissing, SoundTwice, Compression, FrameRate, TooManyFrames, KeptBad}
use Rattle.dsdiff_spec.specs.declared.faults.FileFault.TheVariants.{CountDiffers, FrameTooLong, NotCoded}
use Rattle.dsdiff_spec.proofs.Lawful.{first_gives_none, later_gives_none, when_not, left_is_false, right_is_false, first_of}
use Rattle.dsdiff_spec.proofs.CodedFiles.{no_rule_fails, kind_gives_none, is_coded_kind, count_is_right}
use Rattle.dsdiff_spec.proofs.Steps.{fits_body, found_at_end, found_at_misfit, found_at_chunk}
use Rattle.dsdiff_spec.proofs.Finding.{Stands, found_stand, the_only}
use Rattle.dsdiff_spec.proofs.StreamSteps.{reaches}
use Rattle.dsdiff_spec.proofs.ManyOfStreams.{Begins, behind_version, version_of, first_chunk_passes}
use Rattle.stream_spec.proofs.FramesCome.{AreShort, then_ended, frames_come}
use Rattle.stream_spec.proofs.ChunksCome.{is_sound, IsProp, IsCodedSound, chunks_come}

is_not_false : (b : Bool) → not b ≡ false → b ≡ true
is_not_false true q = refl
is_not_false false q = absurd cc

is_not_true : (b : Bool) → b ≡ true → not b ≡ false
is_not_true b q = ap not q

-- ---- lists of one
one_is : (n : ℕ) → (n == 0) ≡ false → n ≤ 1 → n ≡ 1
one_is zero e le = absurd cc
one_is (suc zero) e le = refl
one_is (suc (suc n)) e le = absurd (omega (arith, le))

abbrev pub OfBoth : {A : Type 0} → (A → Type 0) → (A → Bool) → A → Type 0
OfBoth P p x = P x × (p x ≡ true)

by_filter : {A : Type 0} (P : A → Type 0) (p : A → Bool) (xs : List A) → AllByRecursion P xs → AllByRecursion (OfBoth P p) (filter p xs)
by_filter P p [] every = tt
by_filter P p (x ∷ xs) every = go (p x) refl (by_filter P p xs every.1)
  where
    go : (b : Bool) → p x ≡ b → AllByRecursion (OfBoth P p) (filter p xs) → AllByRecursion (OfBoth P p) (if b then x ∷ filter p xs else filter p xs)
    go true e later = ((every.0, e), later)
    go false e later = later

-- ---- rules that hold
head_rules : (a b c d : Bool) → a ≡ false → b ≡ false → c ≡ false → d ≡ false →
    (NotForm when a || b otherwise FormTooLarge when c otherwise FormType when d) ≡ None
head_rules false false false false p q r s = refl
head_rules true b c d p q r s = absurd cc
head_rules false true c d p q r s = absurd cc
head_rules false false true d p q r s = absurd cc
head_rules false false false true p q r s = absurd cc

frte_rules : (a b c : Bool) → a ≡ false → b ≡ false → c ≡ false → (FrameRate when a || b otherwise TooManyFrames when c) ≡ None
frte_rules false false false p q r = refl
frte_rules true b c p q r = absurd cc
frte_rules false true c p q r = absurd cc
frte_rules false false true p q r = absurd cc

sound_rules : (a b : Bool) → a ≡ false → b ≡ false → (Compression when a otherwise FrameRate when b) ≡ None
sound_rules false false p q = refl
sound_rules true b p q = absurd cc
sound_rules false true p q = absurd cc

pub record Opened (file : List ℕ) : Type 0 where
  pub long : 16 ≤ length file
  pub head : form_head_fault file ≡ None
  pub there : form_end file ≤ length file

opened : (file : List ℕ) → opening_fault file ≡ None → Opened file
opened file none =
    let fifth = (top_level file).fault in
    let fourth = (Overrun 0 when form_end file above length file) otherwise fifth in
    let third = (FormType when not (bytes_at file 12 4 is "DSD ")) otherwise fourth in
    let second = (FormTooLarge when form_size file above 2 ^ 50) otherwise third in
    let a = when_not NotForm _ (first_gives_none _ second none) in
    let n2 = later_gives_none (NotForm when length file below 16 || not (bytes_at file 0 4 is "FRM8") || form_size file below 4) second none in
    let b = when_not FormTooLarge _ (first_gives_none _ third n2) in
    let n3 = later_gives_none (FormTooLarge when form_size file above 2 ^ 50) third n2 in
    let c = when_not FormType _ (first_gives_none _ fourth n3) in
    let n4 = later_gives_none (FormType when not (bytes_at file 12 4 is "DSD ")) fourth n3 in
    let d = when_not (Overrun 0) _ (first_gives_none _ fifth n4) in
    let x = length file below 16 in
    let y = not (bytes_at file 0 4 is "FRM8") in
    let z = form_size file below 4 in
    let xy = left_is_false (x || y) z a in
    record {
      long = ltb-false (length file) 16 (left_is_false x y xy);
      head = head_rules y z _ _ (right_is_false x y xy) (right_is_false (x || y) z a) b c;
      there = ltb-false (length file) (form_end file) d;
    }

abbrev m : List ℕ → Bool
m id = not (id is "DSD ")

-- ---- the first chunk is `FVER`, and the others stand behind it
pub record HasVersion (file : List ℕ) : Type 0 where
  pub begins : Begins file
  pub heads : (top_level file).heads ≡ head_at file 16 ∷ (chunks_from (λ id. not (id is "DSD ")) file (form_end file) 1023 32).heads
  pub name : (head_at file 16).id ≡ codes "FVER"

first_chunk : (file : List ℕ) → Opened file → version_fault file ≡ None → HasVersion file
first_chunk file o none = elim (cases_lt 16 (form_end file)) [
  | inr le ↦ absurd (none_there (ap (λ f. f.heads) (found_at_end m file (form_end file) 1024 16 le)))
  | inl lt ↦ elim (cases_Bool (fits m (form_end file) (head_at file 16))) [
    | inr e ↦ absurd (none_there (ap (λ f. f.heads) (found_at_misfit m file (form_end file) 1023 16 lt e)))
    | inl e ↦ is_there (fits_body m (form_end file) (head_at file 16) e) (ap (λ f. f.heads) (found_at_chunk m file (form_end file) 1023 16 lt e))
  ]
]
  where
    is_first : is_version file (the_first (top_level file).heads) ≡ true
    is_first = is_not_false (is_version file (the_first (top_level file).heads)) (when_not Version _ none)

    none_there : (top_level file).heads ≡ [] → ⊥
    none_there e =
        let f : false ≡ true = sym (ap (λ hs. is_version file (the_first hs)) e) ∙ is_first in
        absurd cc

    is_there : body_end (head_at file 16) ≤ form_end file →
        (top_level file).heads ≡ head_at file 16 ∷ (chunks_from m file (form_end file) 1023 (next_place (head_at file 16))).heads → HasVersion file
    is_there fit e =
        let h = head_at file 16 in
        let all = sym (ap (λ hs. is_version file (the_first hs)) e) ∙ is_first in
        let outer = and_parts (h.id is "FVER" && h.size == 4) (get_or file (body_place h) 0 == 1) all in
        let inner = and_parts (h.id is "FVER") (h.size == 4) outer.0 in
        let size : h.size ≡ 4 = eqb-true h.size 4 inner.1 in
        let name : h.id ≡ codes "FVER" = (bytes_eq-Decides h.id (codes "FVER")).0 inner.0 in
        let next : next_place h ≡ 32 = ap (λ n. 16 + 12 + n + n % 2) size in
        record {
          begins = record {
            head = o.head;
            version = ap₂ (λ (i : List ℕ) (n : ℕ). record { id = i; place = 16; size = n }) name size;
            first_byte = eqb-true (get_or file 28 0) 1 outer.1;
            within = omega (arith, fit, size);
            there = omega (arith, fit, size, o.there);
          };
          heads = e ∙ ap (λ n. h ∷ (chunks_from m file (form_end file) 1023 n).heads) next;
          name = name;
        }

-- ---- one `PROP`
pub record HasProp (file : List ℕ) : Type 0 where
  pub one : all "PROP" file ≡ prop_head file ∷ []
  pub lawful : IsProp file (prop_head file)

one_prop : (file : List ℕ) → prop_fault file ≡ None → HasProp file
one_prop file none =
    let h = prop_head file in
    let chunk = prop_chunk_fault file in
    let third = PropTooLong when h.size above 65536 in
    let second = PropTwice when length (all "PROP" file) above 1 otherwise third in
    let of_chunk = first_gives_none chunk (local_fault (body_place h) (prop file)) none in
    let of_body = later_gives_none chunk (local_fault (body_place h) (prop file)) none in
    let a = when_not PropMissing (length (all "PROP" file) == 0) (first_gives_none _ second of_chunk) in
    let n2 = later_gives_none (PropMissing when length (all "PROP" file) == 0) second of_chunk in
    let b = when_not PropTwice (length (all "PROP" file) above 1) (first_gives_none _ third n2) in
    let c = when_not PropTooLong (h.size above 65536) (later_gives_none (PropTwice when length (all "PROP" file) above 1) third n2) in
    let type_none = first_gives_none (type_fault (prop file)) _ of_body in
    let long = ltb-false (length (prop file)) 4
    (left_is_false (length (prop file) below 4) (not (bytes_at (prop file) 0 4 is "SND ")) (when_not PropType _ type_none)) in
    record {
      one = the_only (all "PROP" file) (one_is (length (all "PROP" file)) a (ltb-false 1 (length (all "PROP" file)) b));
      lawful = record { most = ltb-false 65536 h.size c; least = omega (arith, long, length-take h.size (drop (body_place h) file)); rules = of_body };
    }

-- ---- one sound, which is coded
pub record HasSound (file : List ℕ) : Type 0 where
  pub one : sounds file ≡ sound_head file ∷ []
  pub lawful : IsCodedSound file (prop file) (sound_head file)
  pub order : (prop_head file).place ≤ (sound_head file).place
  pub within : body_end (sound_head file) ≤ form_end file
  pub least : 18 ≤ (sound_head file).size
  pub frte : frte_fault_at file (body_place (sound_head file)) ≡ None

one_sound : (file : List ℕ) → kind file ≡ coded → sound_fault file ≡ None → coded_fault file ≡ None → HasSound file
one_sound file is_coded none of_coded =
    let s = sound_head file in
    let fourth = PropMissing when (prop_head file).place above s.place in
    let third = Compression when not (bytes_eq (compression (prop file)) s.id) otherwise fourth in
    let second = SoundTwice when length (sounds file) above 1 otherwise third in
    let a = when_not SoundMissing (length (sounds file) == 0) (first_gives_none _ second none) in
    let n2 = later_gives_none (SoundMissing when length (sounds file) == 0) second none in
    let b = when_not SoundTwice (length (sounds file) above 1) (first_gives_none _ third n2) in
    let n3 = later_gives_none (SoundTwice when length (sounds file) above 1) third n2 in
    let c = when_not Compression (not (bytes_eq (compression (prop file)) s.id)) (first_gives_none _ fourth n3) in
    let d = when_not PropMissing _ (later_gives_none (Compression when not (bytes_eq (compression (prop file)) s.id)) fourth n3) in
    let one = the_only (sounds file) (one_is (length (sounds file)) a (ltb-false 1 (length (sounds file)) b)) in
    let every = by_filter (Stands file (form_end file) 16) is_sound (top_level file).heads (found_stand m file (form_end file) 1024 16) in
    let it = (subst (AllByRecursion (OfBoth (Stands file (form_end file) 16) is_sound)) one every).0 in
    let name = named_dst (s.id is "DSD ") (s.id is "DST ") it.1 (not_plain (s.id is "DSD ") is_coded) in
    let same : compression (prop file) ≡ s.id = (bytes_eq-Decides (compression (prop file)) s.id).0 (is_not_false _ c) in
    let is_dst : (compression (prop file) is "DST ") ≡ true = ap (λ i. i is "DST ") same ∙ name in
    let k3 = KeptBad when has_bad_origin file in
    let k2 = TooManyFrames when frame_count file above 1000000 otherwise k3 in
    let x = s.size below 18 in
    let y = not (is_frte file (body_place s)) in
    let z = not (frame_rate file == 75) in
    let e = when_not FrameRate (x || y || z) (first_gives_none _ k2 of_coded) in
    let xy = left_is_false (x || y) z e in
    let f = when_not TooManyFrames _ (first_gives_none _ k3 (later_gives_none (FrameRate when x || y || z) k2 of_coded)) in
    record {
      one = one;
      lawful = record { name = name; rules = sound_rules _ _ (is_not_true _ is_dst) (left_is_false x y xy) };
      order = ltb-false s.place (prop_head file).place d;
      within = it.0.2;
      least = ltb-false s.size 18 (left_is_false x y xy);
      frte = frte_rules y z _ (right_is_false x y xy) (right_is_false (x || y) z e) f;
    }
  where
    not_plain : (b : Bool) → (if b then plain else coded) ≡ coded → b ≡ false
    not_plain true e = absurd cc
    not_plain false e = refl

    named_dst : (a b : Bool) → (a || b) ≡ true → a ≡ false → b ≡ true
    named_dst a true either other = refl
    named_dst true false either other = absurd cc
    named_dst false false either other = absurd cc

-- ---- its frames
short_heads : (form : Form) (n : ℕ) (hs : List Head) → first_some (frame_fault form) (enumerate_from n hs) ≡ None → AreShort (shape form) hs
short_heads form n [] none = tt
short_heads form n (h ∷ hs) none =
    let both = parts (frame_fault form (n, h)) (first_some (frame_fault form) (enumerate_from (n + 1) hs)) none in
    let too_long = FrameTooLong n h.size when h.size above longest_frame form in (
      ltb-false (longest_frame form) h.size (when_not (FrameTooLong n h.size) _ (first_gives_none too_long (TooManyFrames when n above 999999) both.0)),
      short_heads form (n + 1) hs both.1,
    )
  where
    parts : (o later : Option FileFault) → first_of o later ≡ None → (o ≡ None) × (later ≡ None)
    parts (Some y) later e = absurd cc
    parts None later e = (refl, e)

bodies : (file : List ℕ) (hs : List Head) → map (body_of file) hs ≡ map (frame_at file) (map entry_of hs)
bodies file [] = refl
bodies file (h ∷ hs) = ap (λ fs. body_of file h ∷ fs) (bodies file hs)

frames_of_form : (file : List ℕ) (form : Form) → body_end form.sound ≤ length file → form.frames ≤ 1000000 → walk_fault file form ≡ None →
    frames_from file (shape form) form.frames (body_end form.sound) 4000000 0 (body_place form.sound + 18) ≡ then_ended (frames_of file form)
unfolding walk_fault
frames_of_form file form there most none =
    let count = CountDiffers form.frames (length (frame_heads file form)) when not (length (frame_heads file form) == form.frames) in
    let frames = first_some (frame_fault form) (enumerate_from 0 (frame_heads file form)) in
    let whole : (in_dst file form).fault ≡ None =
    first_gives_none (in_dst file form).fault count (later_gives_none frames ((in_dst file form).fault otherwise count) none) in
    let rules : frames ≡ None = first_gives_none frames ((in_dst file form).fault otherwise count) none in
    frames_come file (shape form) form.frames (body_end form.sound) 4000000 (body_place form.sound + 18) there most 0 whole
    (short_heads form 0 (frame_heads file form) rules) (omega (arith, count_is_right file form none))
    ∙ ap then_ended (bodies file (frame_heads file form))

-- ---- all rules, and the whole stream
pub record HasRules (file : List ℕ) : Type 0 where
  pub opening : opening_fault file ≡ None
  pub version : version_fault file ≡ None
  pub prop : prop_fault file ≡ None
  pub sound : sound_fault file ≡ None

has_rules : (file : List ℕ) → form_fault file ≡ None → HasRules file
unfolding form_fault
has_rules file none =
    let fourth = sound_fault file otherwise kind_fault (kind file) file in
    let third = prop_fault file otherwise fourth in
    let second = version_fault file otherwise third in
    let n2 = later_gives_none (opening_fault file) second none in
    let n3 = later_gives_none (version_fault file) third n2 in
    let n4 = later_gives_none (prop_fault file) fourth n3 in
    record {
      opening = first_gives_none (opening_fault file) second none;
      version = first_gives_none (version_fault file) third n2;
      prop = first_gives_none (prop_fault file) fourth n3;
      sound = first_gives_none (sound_fault file) (kind_fault (kind file) file) n4;
    }

behind_first : (h : Head) (hs : List Head) → h.id ≡ codes "FVER" → (named "PROP" (h ∷ hs) ≡ named "PROP" hs) × (filter is_sound (h ∷ hs) ≡ filter is_sound hs)
behind_first h hs e = (
  ap (λ i. if i is "PROP" then h ∷ named "PROP" hs else named "PROP" hs) e,
  ap (λ i. if (i is "DSD " || i is "DST ") then h ∷ filter is_sound hs else filter is_sound hs) e,
)

streams_as : List ℕ → Form → Stream
streams_as file form = record {
  front = Some (record { version = version_in file; prop = form.prop; frames = form.frames });
  frames = frames_of file form;
  ending = ended;
}

in_sound_comes : (file : List ℕ) (version : List ℕ) → HasSound file → form_end file ≤ length file → frame_count file ≤ 1000000 →
    walk_fault file (form_of_kind coded file) ≡ None → version ≡ version_in file →
    in_sound file (behind_version version (Some (prop file))) (sound_head file) ≡ streams_as file (form_of_kind coded file)
unfolding streams_as
in_sound_comes file version s there most walked v =
    let h = sound_head file in
    let form = form_of_kind coded file in
    let front : Front = record { version = version; prop = prop file; frames = frame_count file } in
    let least = s.least in
    let fits = s.within in
    reaches file (body_place h) (body_place h + 18) _ (omega (arith, least, fits, there))
    ∙ ap (λ f. unless f (with_front front (frames_from file (shape form) form.frames (body_end h) 4000000 0 (body_place h + 18)))) s.frte
    ∙ ap (with_front front) (frames_of_form file form (omega (arith, fits, there)) most walked)
    ∙ ap (λ w. with_front (record { version = w; prop = prop file; frames = frame_count file }) (then_ended (frames_of file form))) v

pub accepted_file_streams : StreamLaw
unfolding streams_as
accepted_file_streams file (bytes, ok) =
    let both = no_rule_fails file ok in
    let k = has_rules file both.0 in
    let o = opened file k.opening in
    let not_plain = first_gives_none (not_coded (accepted file)) (walk_fault file (accepted file)) both.1 in
    let e : kind file ≡ coded = is_coded_kind (kind file) (when_not NotCoded _ not_plain) in
    let of_coded : coded_fault file ≡ None = ap (λ i. kind_fault i file) (sym e) ∙ kind_gives_none file both.0 in
    let walked : walk_fault file (form_of_kind coded file) ≡ None =
    ap (λ i. walk_fault file (form_of_kind i file)) (sym e) ∙ later_gives_none (not_coded (accepted file)) (walk_fault file (accepted file)) both.1 in
    let v = first_chunk file o k.version in
    let p = one_prop file k.prop in
    let s = one_sound file e k.sound of_coded in
    let behind = behind_first (head_at file 16) (chunks_from m file (form_end file) 1023 32).heads v.name in
    let prop_is : named "PROP" (chunks_from m file (form_end file) 1023 32).heads ≡ prop_head file ∷ [] = sym behind.0
    ∙ sym (ap (named "PROP") v.heads) ∙ p.one in
    let sound_is : filter is_sound (chunks_from m file (form_end file) 1023 32).heads ≡ sound_head file ∷ [] = sym behind.1
    ∙ sym (ap (filter is_sound) v.heads) ∙ s.one in
    let version_is : version_of file ≡ version_in file = ap (λ hs. body_of file (the_first hs)) (sym v.heads) in
    first_chunk_passes file v.begins
    ∙ ((chunks_come file (form_end file) (version_of file) (prop_head file) (sound_head file) o.there p.lawful s.lawful 1023 32).both prop_is sound_is
    s.order).1
    ∙ in_sound_comes file (version_of file) s o.there (few file of_coded) walked version_is
    ∙ ap (λ i. streams_as file (form_of_kind i file)) (sym e)
  where
    few : (file : List ℕ) → coded_fault file ≡ None → frame_count file ≤ 1000000
    few file none =
        let k3 = KeptBad when has_bad_origin file in
        let k2 = TooManyFrames when frame_count file above 1000000 otherwise k3 in
        ltb-false 1000000 (frame_count file) (when_not TooManyFrames _ (first_gives_none _ k3 (later_gives_none (FrameRate when
        (sound_head file).size below 18 || not (is_frte file (body_place (sound_head file))) || not (frame_rate file == 75)) k2 none)))
