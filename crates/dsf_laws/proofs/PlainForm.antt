-- The form that stands for a DSF file keeps all rules of a plain form: its chunks are `FVER`, `PROP`, `DSD ` and `DSFK`.
use Rattle.std.proofs.Common.{◌≡◌, inl, inr, ℕ, ◌+◌, ◌-◌, ◌*◌, ◌/◌, ◌%◌, ◌^◌, ◌<◌, ◌≤◌, ◌==◌, true, false, if◌then◌else◌, List, [], ◌∷◌}
use Rattle.std.proofs.Common.{Bool, length, map, drop, filter, None, refl, sym, ap, ap₂, subst, ◌∙◌, arith, append-nil, lit≤, lit<}
use Rattle.std.specs.Prelude.{codes, not, nat_lt, bytes_eq}
use Rattle.std.proofs.lemmas.Bool.{le-ltb, eq-eqb}
use Rattle.std.proofs.lemmas.Nat.{mul-le}
use Rattle.std.proofs.lemmas.Slice.Eq.{bytes_eq-Decides}
use Rattle.std.proofs.Math.Nat.{mul-le-mul_right, lt-div-mul-add}
use Rattle.dst_spec.specs.Bits.{AreBytes}
use Rattle.dst_spec.proofs.Lists.{AreBytes-take, AreBytes-drop}
use Rattle.dst_spec.specs.Sample.{IsShape, sound_bytes}
use Rattle.dsdiff_spec.specs.Bytes.{◌is◌}
use Rattle.dsdiff_spec.specs.Faults.{◌when◌}
use Rattle.dsdiff_spec.specs.Chunks.{Chunk, IsChunk, bytes_of_chunk, Head, Found, body_place, body_of, named, the_first}
use Rattle.dsdiff_spec.specs.Form.{Form, plain, coded, shape_of, frames_for, size_of_sound, is_coded}
use Rattle.dsdiff_spec.specs.Parts.{form_size, top_level, all, prop_head, prop, sounds, sound_head, kind, compression, channel_count, multiple}
use Rattle.dsdiff_spec.specs.Parts.{frames_needed, behind_form}
use Rattle.dsdiff_spec.specs.Refusal.{refusal}
use Rattle.dsdiff_spec.specs.Rules.{opening_fault, is_version, version_fault, local_fault, prop_fault, sound_fault, plain_fault, kind_fault}
use Rattle.dsdiff_spec.specs.Rules.{form_fault, form_of_kind, accepted}
use Rattle.dsdiff_spec.specs.Rules as rules
use Rattle.dsdiff_spec.specs.Words.{encode}
use Rattle.dsdiff_spec.specs.Written.{form_of}
use Rattle.dsdiff_spec.specs.declared.faults.FileFault.TheVariants.{NotPlain, Version}
use Rattle.dsdiff_spec.proofs.CodedFiles.{form_by, longest_sound_of_frame, refused_by}
use Rattle.dsdiff_spec.proofs.Tiling.{heads_from, head_of}
use Rattle.dsdiff_laws.proofs.Composed.{is_ending}
use Rattle.dsdiff_laws.proofs.Filed.{IsFile, may_lack, body_bytes, found_is, opens, size_is, behind_is, written_is_file}
use Rattle.dsdiff_laws.proofs.Props.{IsAcceptedProp, accepted_prop, lawful_prop, locals, chunk_of}
use Rattle.dsdiff_laws.proofs.Places.{one_named, head_behind, stands_behind}
use Rattle.dsdiff_laws.proofs.FormParts.{FormRules, form_rules_of, sound_id}
use Rattle.dsdiff_laws.proofs.PlainParts.{added_id, plain_rules}
use Rattle.dsdiff_laws.proofs.CodedFile.{is_whole, length_written, length-cons, length-body}
use Rattle.dsdiff_laws.proofs.MadeFile as made
use Rattle.dsdiff_laws.proofs.MadeFile.{IsMade, made_prop_body, made_chunks}

abbrev pub version : Chunk
version = chunk_of "FVER" (1 ∷ 5 ∷ 0 ∷ 0 ∷ []) 0

abbrev pub prop_chunk : ℕ → ℕ → Chunk
prop_chunk c m = chunk_of "PROP" (made_prop_body c m) 0

abbrev pub dsd : List ℕ → Chunk
dsd s = chunk_of "DSD " s 0

abbrev pub dsfk_chunk : List ℕ → Chunk
dsfk_chunk t = chunk_of "DSFK" t 0

abbrev pub dsf_chunks : ℕ → ℕ → List ℕ → List ℕ → List Chunk
dsf_chunks c m s t = version ∷ prop_chunk c m ∷ dsd s ∷ dsfk_chunk t ∷ []

-- ---- `PROP` keeps its rules, since it does in a form without sound
module _ (c m : ℕ) (f : IsMade c m) (body_bytes_are : AreBytes (made_prop_body c m))
  where
    no_sound : length {A = ℕ} [] ≡ 0 * sound_bytes (shape_of c m)
    no_sound = omega arith

    abbrev silent : List ℕ
    silent = form_of (map bytes_of_chunk (made_chunks c m []))

    silent_rules : FormRules silent
    silent_rules = form_rules_of silent (plain_rules 1 silent (made.made_is_accepted c m 0 [] f (omega arith) no_sound 1)).0

    silent_prop : prop silent ≡ made_prop_body c m
    silent_prop = made.prop_read c m 0 [] f (omega arith) no_sound

    pub prop_local : local_fault (body_place (prop_head silent)) (made_prop_body c m) ≡ None
    prop_local = ap (local_fault (body_place (prop_head silent))) (sym silent_prop) ∙ silent_rules.local

    pub prop_accepted : IsAcceptedProp (made_prop_body c m)
    prop_accepted = accepted_prop (body_place (prop_head silent)) (made_prop_body c m) body_bytes_are prop_local

    pub prop_at : (start : ℕ) → local_fault start (made_prop_body c m) ≡ None
    prop_at start =
        let p = prop_accepted in
        lawful_prop start (made_prop_body c m) (locals (made_prop_body c m)) p.fs p.chnl p.cmpr p.made p.has

    pub prop_type : compression (made_prop_body c m) ≡ codes "DSD "
    prop_type = ap compression (sym silent_prop) ∙ silent_rules.compressed
        ∙ (bytes_eq-Decides (sound_head silent).id (codes "DSD ")).0
        (is_dsd ((sound_head silent).id is "DSD ") (made.kind_read c m 0 [] f (omega arith) no_sound))
      where
        is_dsd : (b : Bool) → (if b then plain else coded) ≡ plain → b ≡ true
        is_dsd true e = refl
        is_dsd false e = absurd cc

-- ---- the chunks of the form
module _ (c m : ℕ) (s t : List ℕ) (f : IsMade c m) (said : length t ≡ 14) (whole : length s % c ≡ 0)
    (few : frames_for (sound_bytes (shape_of c m)) (length s) ≤ 1000000) (bytes : AreBytes (form_of (map bytes_of_chunk (dsf_chunks c m s t))))
  where
    abbrev g : List ℕ
    g = form_of (map bytes_of_chunk (dsf_chunks c m s t))

    is_shape : IsShape (shape_of c m)
    is_shape = record {
      least = f.least;
      most = f.most;
      rate = elim f.rate [
        | inl e ↦ inl (ap (λ k. 4704 * k) e)
        | inr (inl e) ↦ inr (inl (ap (λ k. 4704 * k) e))
        | inr (inr e) ↦
            inr (inr (ap (λ k. 4704 * k) e))
      ];
    }

    some : 0 < sound_bytes (shape_of c m)
    some = elim f.rate [ inl e ↦ by_rate 1 e (omega arith) | inr (inl e) ↦ by_rate 2 e (omega arith) | inr (inr e) ↦ by_rate 4 e (omega arith) ]
      where
        by_rate : (k : ℕ) → m ≡ k → 1 ≤ k → 0 < sound_bytes (shape_of c m)
        by_rate k e l = omega (arith, mul-le 4704 1 (4704 * m) c (omega (arith, e, l)) f.least)

    sound_small : length s ≤ 112896000000
    sound_small =
        let b = sound_bytes (shape_of c m) in
        let below = lt-div-mul-add {a = length s + b - 1} {b = b} some in
        let count : (length s + b - 1) / b * b ≤ 1000000 * b = mul-le-mul_right b few in
        let most = mul-le 1000000 b 1000000 112896 (omega arith) (longest_sound_of_frame (shape_of c m) is_shape) in
        omega (arith, below, count, most)

    prop_long : length (made_prop_body c m) ≡ 66 + 4 * c
    prop_long = made.made_prop_long c m f

    are : IsChunk version × IsChunk (prop_chunk c m) × IsChunk (dsd s) × IsChunk (dsfk_chunk t)
    are = (
      is_whole "FVER" (1 ∷ 5 ∷ 0 ∷ 0 ∷ []) 0 refl (lit< tt),
      is_whole "PROP" (made_prop_body c m) 0 refl (omega (arith, prop_long, f.most)),
      is_whole "DSD " s 0 refl (omega (arith, sound_small)),
      is_whole "DSFK" t 0 refl (omega (arith, said)),
    )

    pub long : length (body_bytes (dsf_chunks c m s t)) ≡ 16 + (78 + 4 * c) + (12 + length s + length s % 2) + 26
    long =
        let a = length-cons version (prop_chunk c m ∷ dsd s ∷ dsfk_chunk t ∷ []) in
        let b = length-cons (prop_chunk c m) (dsd s ∷ dsfk_chunk t ∷ []) in
        let d = length-cons (dsd s) (dsfk_chunk t ∷ []) in
        let k = length-cons (dsfk_chunk t) [] in
        let v : length (bytes_of_chunk version) ≡ 16 = refl in
        let p = length_written "PROP" (made_prop_body c m) 0 refl (omega (arith, prop_long, f.most)) in
        let e = length_written "DSD " s 0 refl (omega (arith, sound_small)) in
        let l = length_written "DSFK" t 0 refl (omega (arith, said)) in
        let even : (66 + 4 * c) % 2 ≡ 0 = omega arith in
        let none : length (body_bytes []) ≡ 0 = refl in
        omega (arith, a, b, d, k, v, p, e, l, prop_long, even, said, ap (λ n. n % 2) prop_long, ap (λ n. n % 2) said, none)

    pub is_file : IsFile g (dsf_chunks c m s t) []
    is_file =
        subst (λ w. IsFile w (dsf_chunks c m s t) []) (append-nil g)
        (written_is_file (dsf_chunks c m s t) [] (are.0, (are.1, (are.2, is_ending may_lack (dsfk_chunk t) are.3))) (lit≤ tt)
        (omega (arith, long, sound_small, f.most)))

    pub heads_are : (top_level g).heads ≡ heads_from 16 (dsf_chunks c m s t)
    heads_are = ap (λ (x : Found). x.heads) (found_is g (dsf_chunks c m s t) [] is_file)

    -- what is read in it
    prop_named : all "PROP" g ≡ head_behind (version ∷ []) (prop_chunk c m) ∷ []
    prop_named = ap (named "PROP") heads_are

    prop_read : prop g ≡ made_prop_body c m
    prop_read = ap (body_of g) (ap the_first prop_named) ∙ (stands_behind g (version ∷ []) (dsd s ∷ dsfk_chunk t ∷ []) (prop_chunk c m) [] is_file).body

    prop_bytes : AreBytes (made_prop_body c m)
    prop_bytes = subst AreBytes prop_read (AreBytes-take (prop_head g).size (drop (body_place (prop_head g)) g)
        (AreBytes-drop (body_place (prop_head g)) g bytes))

    sound_named : sounds g ≡ head_behind (version ∷ prop_chunk c m ∷ []) (dsd s) ∷ []
    sound_named =
        ap (filter (λ (h : Head). sound_id h.id)) heads_are
        ∙ one_named sound_id (version ∷ prop_chunk c m ∷ []) (dsfk_chunk t ∷ []) (dsd s) (refl, (refl, tt)) refl (refl, tt)

    sound_read : sound_head g ≡ head_behind (version ∷ prop_chunk c m ∷ []) (dsd s)
    sound_read = ap the_first sound_named

    kind_read : kind g ≡ plain
    kind_read = ap (λ (h : Head). if h.id is "DSD " then plain else coded) sound_read

    size_read : (sound_head g).size ≡ length s
    size_read = ap (λ (h : Head). h.size) sound_read

    count_read : channel_count (prop g) ≡ c
    count_read = ap channel_count prop_read ∙ made.made_count c m f

    multiple_read : multiple (prop g) ≡ m
    multiple_read = ap multiple prop_read ∙ made.made_multiple c m f

    frames_read : frames_needed g ≡ frames_for (sound_bytes (shape_of c m)) (length s)
    frames_read = ap₂ frames_for (ap₂ (λ (i j : ℕ). sound_bytes (shape_of i j)) count_read multiple_read) size_read

    -- ---- rule by rule
    version_rules : version_fault g ≡ None
    version_rules =
        let h = head_of (codes "FVER") 16 4 in
        let first : the_first (top_level g).heads ≡ h = ap the_first heads_are in
        ap (λ (i : Head). Version when not (is_version g i)) first

    prop_rules : prop_fault g ≡ None
    prop_rules =
        let one : (length (all "PROP" g) == 0) ≡ false = ap (λ hs. length hs == 0) prop_named in
        let once : nat_lt 1 (length (all "PROP" g)) ≡ false = ap (λ hs. nat_lt 1 (length hs)) prop_named in
        let size : (prop_head g).size ≡ length (made_prop_body c m) = ap (λ (hs : List Head). (the_first hs).size) prop_named in
        let most : nat_lt 65536 (prop_head g).size ≡ false = le-ltb 65536 (prop_head g).size (omega (arith, size, prop_long, f.most)) in
        let local : local_fault (body_place (prop_head g)) (prop g) ≡ None =
        ap (local_fault (body_place (prop_head g))) prop_read ∙ prop_at c m f prop_bytes (body_place (prop_head g)) in
        rw (one, once, most) local

    sound_rules : sound_fault g ≡ None
    sound_rules =
        let one : (length (sounds g) == 0) ≡ false = ap (λ hs. length hs == 0) sound_named in
        let once : nat_lt 1 (length (sounds g)) ≡ false = ap (λ hs. nat_lt 1 (length hs)) sound_named in
        let type : compression (prop g) ≡ codes "DSD " = ap compression prop_read ∙ prop_type c m f prop_bytes in
        let name : (sound_head g).id ≡ codes "DSD " = ap (λ (h : Head). h.id) sound_read in
        let same : bytes_eq (compression (prop g)) (sound_head g).id ≡ true = ap₂ bytes_eq type name in
        let there : (prop_head g).place ≡ 16 + length (body_bytes (version ∷ [])) = ap (λ (hs : List Head). (the_first hs).place) prop_named in
        let here : (sound_head g).place ≡ 16 + length (body_bytes (version ∷ prop_chunk c m ∷ [])) = ap (λ (h : Head). h.place) sound_read in
        let ordered : nat_lt (sound_head g).place (prop_head g).place ≡ false =
        le-ltb (sound_head g).place (prop_head g).place (omega (arith, there, here, length-body (version ∷ []) (prop_chunk c m ∷ []))) in
        rw (one, once, same, ordered) refl

    plain_holds : plain_fault g ≡ None
    plain_holds =
        let even : ((sound_head g).size % channel_count (prop g) == 0) ≡ true =
        eq-eqb _ 0 (ap₂ (λ (i j : ℕ). i % j) size_read count_read ∙ whole) in
        let frames_few : nat_lt 1000000 (frames_needed g) ≡ false = le-ltb 1000000 (frames_needed g) (omega (arith, frames_read, few)) in
        let none : rules.coded_chunks g ≡ [] = ap (filter (λ (h : Head). added_id h.id)) heads_are in
        let added : (length (rules.coded_chunks g) == 0) ≡ true = ap (λ hs. length hs == 0) none in
        let four : nat_lt 1022 (length (top_level g).heads) ≡ false = ap (λ hs. nat_lt 1022 (length hs)) heads_are in
        let prop_size : (prop_head g).size ≡ length (made_prop_body c m) = ap (λ (hs : List Head). (the_first hs).size) prop_named in
        let prop_most : nat_lt 65520 (prop_head g).size ≡ false = le-ltb 65520 (prop_head g).size (omega (arith, prop_size, prop_long, f.most)) in
        let form_most : nat_lt (2 ^ 49) (form_size g) ≡ false =
        le-ltb (2 ^ 49) (form_size g) (omega (arith, size_is g (dsf_chunks c m s t) [] is_file, long, sound_small, f.most)) in
        let behind : nat_lt 65536 (length (behind_form g)) ≡ false = ap (λ w. nat_lt 65536 (length w)) (behind_is g (dsf_chunks c m s t) [] is_file) in
        rw (even, frames_few, added, four, prop_most, form_most, behind) refl

    all_rules : form_fault g ≡ None
    unfolding form_fault
    all_rules =
        let opening : opening_fault g ≡ None = opens g (dsf_chunks c m s t) [] is_file in
        rw (opening, version_rules, prop_rules, sound_rules) (ap (λ k. kind_fault k g) kind_read ∙ plain_holds)

    pub is_accepted : (level : ℕ) → refusal (encode level) g ≡ None
    unfolding refusal
    is_accepted level =
        ap (λ o. refused_by (form_by o g) (encode level) g) all_rules ∙ ap (λ k. NotPlain when is_coded k) kind_read

    -- ---- what the form is
    plain_is : accepted g ≡ form_of_kind plain g
    plain_is = ap (λ k. form_of_kind k g) kind_read

    pub its_channels : (accepted g).channels ≡ c
    its_channels = ap (λ (x : Form). x.channels) plain_is ∙ count_read

    pub its_multiple : (accepted g).multiple ≡ m
    its_multiple = ap (λ (x : Form). x.multiple) plain_is ∙ multiple_read

    pub its_size : size_of_sound (accepted g) ≡ length s
    its_size = ap size_of_sound plain_is ∙ size_read

    pub its_sound : body_of g (accepted g).sound ≡ s
    its_sound = ap (λ (x : Form). body_of g x.sound) plain_is ∙ ap (body_of g) sound_read
        ∙ (stands_behind g (version ∷ prop_chunk c m ∷ []) (dsfk_chunk t ∷ []) (dsd s) [] is_file).body
