-- A file of made sound keeps all rules of a plain form.
use Rattle.std.proofs.Common.{◌≡◌, ◌⊎◌, inl, inr, ℕ, zero, suc, ◌+◌, ◌-◌, ◌*◌, ◌/◌, ◌%◌, ◌^◌, ◌<◌, ◌≤◌, ◌==◌, true, false, if◌then◌else◌, List, [], ◌∷◌, ◌++◌}
use Rattle.std.proofs.Common.{length, flat_map, map, filter, None, refl, sym, ap, ap₂, subst, ◌∙◌, arith, append-nil}
use Rattle.std.proofs.Common.{append_assoc, length-append, lit≤, lit<}
use Rattle.std.specs.Prelude.{codes, not, nat_lt, bytes_eq}
use Rattle.std.specs.Fmt.{digits}
use Rattle.std.specs.List.{range_with_len}
use Rattle.std.proofs.lemmas.Bool.{le-ltb, eq-eqb}
use Rattle.std.proofs.lemmas.Nat.{div-mul-add, mul-le}
use Rattle.std.proofs.Math.Nat.{mul-mod_left}
use Rattle.dsdiff_spec.proofs.CodedFiles.{form_by, longest_sound_of_frame, refused_by}
use Rattle.byteorder.specs.Endian.{big_bytes}
use Rattle.byteorder.specs.Numbers.{big_number-reads_back, length-bytes_high_first}
use Rattle.dst_spec.specs.Bits.{AreBytes}
use Rattle.dst_spec.specs.Sample.{IsShape, sound_bytes}
use Rattle.dsdiff_spec.specs.Bytes.{number_at, ◌is◌}
use Rattle.dsdiff_spec.specs.Faults.{◌when◌}
use Rattle.dsdiff_spec.specs.Chunks.{Chunk, IsChunk, bytes_of_chunk, Head, Found, body_place, body_of, named, the_first}
use Rattle.dsdiff_spec.specs.Form.{Form, plain, coded, shape_of, frames_for, size_of_sound, sound_bytes_of, is_coded}
use Rattle.dsdiff_spec.specs.Made.{channel_id}
use Rattle.dsdiff_spec.specs.Parts.{form_size, form_end, top_level, all, prop_head, prop, sounds, sound_head, kind, compression, channel_count}
use Rattle.dsdiff_spec.specs.Parts.{multiple, frames_needed, behind_form}
use Rattle.dsdiff_spec.specs.Refusal.{refusal}
use Rattle.dsdiff_spec.specs.Rules.{opening_fault, is_version, version_fault, local_fault, prop_fault, sound_fault, plain_fault, kind_fault}
use Rattle.dsdiff_spec.specs.Rules.{form_fault, form_of_kind, accepted, is_rate}
use Rattle.dsdiff_spec.specs.Rules as rules
use Rattle.dsdiff_spec.specs.Coded.{Picks, stored_frames}
use Rattle.dsdiff_spec.specs.Laws.{ArePicks, coded_file}
use Rattle.dsdiff_spec.specs.Words.{encode}
use Rattle.dsdiff_spec.specs.Written.{chunk, cmpr_plain, form_of}
use Rattle.dsdiff_spec.specs.declared.faults.FileFault.TheVariants.{NotPlain, Version}
use Rattle.dsdiff_spec.proofs.Tiling.{heads_from, head_of}
use Rattle.dsdiff_laws.proofs.Composed.{is_ending}
use Rattle.dsdiff_laws.proofs.Standing.{Holds}
use Rattle.dsdiff_laws.proofs.Filed.{IsFile, may_lack, body_bytes, found_is, length-file, opens, size_is, behind_is, written_is_file}
use Rattle.dsdiff_laws.proofs.Props.{IsProp, HasFields, AreRead, fields_are_read, lawful_prop, chunk_of, length-prop}
use Rattle.dsdiff_laws.proofs.Places.{one_named, head_behind, stands_behind}
use Rattle.dsdiff_laws.proofs.FormParts.{sound_id}
use Rattle.dsdiff_laws.proofs.PlainParts.{added_id}
use Rattle.dsdiff_laws.proofs.CodedChunks.{plain_pre, coded_chunks}
use Rattle.dsdiff_laws.proofs.CodedFile.{AreShort, is_whole, length_written, length-body, length-cons, coded_most}
use Rattle.dsdiff_laws.proofs.Acceptance.{encoded_is}

-- ---- `PROP`
length-ids : (c : ℕ) → 1 ≤ c → c ≤ 6 → length (flat_map channel_id (range_with_len 0 c)) ≡ 4 * c
unfolding digits
length-ids zero least most = absurd (omega (arith, least))
length-ids (suc zero) least most = refl
length-ids (suc (suc zero)) least most = refl
length-ids (suc (suc (suc zero))) least most = refl
length-ids (suc (suc (suc (suc zero)))) least most = refl
length-ids (suc (suc (suc (suc (suc zero))))) least most = refl
length-ids (suc (suc (suc (suc (suc (suc zero)))))) least most = refl
length-ids (suc (suc (suc (suc (suc (suc (suc c))))))) least most = absurd (omega (arith, most))

abbrev ids : ℕ → List ℕ
ids c = flat_map channel_id (range_with_len 0 c)

abbrev fs : ℕ → Chunk
fs m = chunk_of "FS  " (big_bytes 4 (2822400 * m)) 0

abbrev chnl : ℕ → Chunk
chnl c = chunk_of "CHNL" (big_bytes 2 c ++ ids c) 0

abbrev cmpr : Chunk
cmpr = chunk_of "CMPR" (codes "DSD " ++ 14 ∷ codes "not compressed") 0

abbrev pub made_prop_body : ℕ → ℕ → List ℕ
made_prop_body c m =
    codes "SND "
    ++ chunk "FS  " (big_bytes 4 (2822400 * m))
    ++ chunk "CHNL" (big_bytes 2 c ++ flat_map channel_id (range_with_len 0 c))
    ++ cmpr_plain

-- a shape's channels and multiple
pub record IsMade (c m : ℕ) : Type 0 where
  pub least : 1 ≤ c
  pub most : c ≤ 6
  pub rate : (m ≡ 1) ⊎ (m ≡ 2) ⊎ (m ≡ 4)

module _ (c m : ℕ) (f : IsMade c m)
  where
    small_rate : m ≤ 4
    small_rate = elim f.rate [ inl e ↦ omega (arith, e) | inr (inl e) ↦ omega (arith, e) | inr (inr e) ↦ omega (arith, e) ]

    locals : List Chunk
    locals = fs m ∷ chnl c ∷ cmpr ∷ []

    chnl_long : length (big_bytes 2 c ++ ids c) ≡ 2 + 4 * c
    chnl_long = omega (arith, length-append (big_bytes 2 c) (ids c), length-bytes_high_first 2 c, length-ids c f.least f.most)

    is_prop : IsProp (made_prop_body c m) (fs m ∷ chnl c ∷ cmpr ∷ [])
    is_prop = record {
      whole = (
        is_whole "FS  " (big_bytes 4 (2822400 * m)) 0 refl (lit< tt),
        (
          is_whole "CHNL" (big_bytes 2 c ++ ids c) 0 refl (omega (arith, chnl_long, f.most)),
          (is_whole "CMPR" (codes "DSD " ++ 14 ∷ codes "not compressed") 0 refl (lit< tt), tt),
        ),
      );
      few = lit≤ tt;
      bytes = regrouped (codes "SND ") (bytes_of_chunk (fs m)) (bytes_of_chunk (chnl c)) (bytes_of_chunk cmpr);
    }
      where
        regrouped : (a b c d : List ℕ) → a ++ b ++ c ++ d ≡ a ++ (b ++ (c ++ (d ++ [])))
        regrouped a b c d =
            append_assoc (a ++ b) c d ∙ append_assoc a b (c ++ d) ∙ ap (λ w. a ++ (b ++ (c ++ w))) (sym (append-nil d))

    count_reads : number_at (big_bytes 2 c ++ ids c) 0 2 ≡ c
    count_reads = big_number-reads_back 2 c (ids c) (omega (arith, f.most))

    rate_reads : number_at (big_bytes 4 (2822400 * m)) 0 4 ≡ 2822400 * m
    rate_reads = ap (λ w. number_at w 0 4) (sym (append-nil (big_bytes 4 (2822400 * m)))) ∙ big_number-reads_back 4 (2822400 * m) [] (omega (arith, small_rate))

    rate_lawful : is_rate (number_at (big_bytes 4 (2822400 * m)) 0 4) ≡ true
    rate_lawful = ap is_rate rate_reads ∙ elim f.rate [
      | inl e ↦ ap (λ k. is_rate (2822400 * k)) e
      | inr (inl e) ↦
          ap (λ k. is_rate (2822400 * k)) e
      | inr (inr e) ↦ ap (λ k. is_rate (2822400 * k)) e
    ]

    has_fields : HasFields (fs m ∷ chnl c ∷ cmpr ∷ []) (fs m) (chnl c) cmpr
    has_fields = record {
      one_fs = refl;
      one_chnl = refl;
      one_cmpr = refl;
      fs_size = refl;
      rate = rate_lawful;
      chnl_least = omega (arith, chnl_long);
      count_least = omega (arith, count_reads, f.least);
      count_most = omega (arith, count_reads, f.most);
      chnl_ids = omega (arith, count_reads, chnl_long);
      cmpr_least = lit≤ tt;
      type = inl refl;
    }

    are_read : AreRead (made_prop_body c m) (fs m) (chnl c) cmpr
    are_read = fields_are_read (made_prop_body c m) (fs m ∷ chnl c ∷ cmpr ∷ []) (fs m) (chnl c) cmpr is_prop has_fields

    pub made_count : channel_count (made_prop_body c m) ≡ c
    made_count = are_read.count ∙ count_reads

    pub made_multiple : multiple (made_prop_body c m) ≡ m
    made_multiple =
        let same : 2822400 * m / 2822400 ≡ m = omega arith in
        ap (λ r. r / 2822400) (are_read.rate ∙ rate_reads) ∙ same

    pub made_prop_long : length (made_prop_body c m) ≡ 66 + 4 * c
    made_prop_long =
        let a = length-prop (made_prop_body c m) (fs m ∷ chnl c ∷ cmpr ∷ []) is_prop in
        let b = length-cons (fs m) (chnl c ∷ cmpr ∷ []) in
        let d = length-cons (chnl c) (cmpr ∷ []) in
        let e = length_written "CHNL" (big_bytes 2 c ++ ids c) 0 refl (omega (arith, chnl_long, f.most)) in
        let k : length (bytes_of_chunk (fs m)) ≡ 16 = refl in
        let h : length (body_bytes (cmpr ∷ [])) ≡ 32 = refl in
        omega (arith, a, b, d, e, k, h, chnl_long)

-- ---- the chunks of the form
abbrev version : Chunk
version = chunk_of "FVER" (1 ∷ 5 ∷ 0 ∷ 0 ∷ []) 0

abbrev made_prop : ℕ → ℕ → Chunk
made_prop c m = chunk_of "PROP" (made_prop_body c m) 0

abbrev made_dsd : List ℕ → Chunk
made_dsd s = chunk_of "DSD " s 0

abbrev pub made_chunks : ℕ → ℕ → List ℕ → List Chunk
made_chunks c m s = version ∷ made_prop c m ∷ made_dsd s ∷ []

module _ (c m frames : ℕ) (s : List ℕ) (f : IsMade c m) (few : frames ≤ 1000) (long : length s ≡ frames * sound_bytes (shape_of c m))
  where
    abbrev g : List ℕ
    g = form_of (map bytes_of_chunk (made_chunks c m s))

    -- sizes
    is_shape : IsShape (shape_of c m)
    is_shape = record {
      least = f.least;
      most = f.most;
      rate = elim f.rate [
        | inl e ↦ inl (ap (λ k. 4704 * k) e)
        | inr (inl e) ↦ inr (inl (ap (λ k. 4704 * k) e))
        | inr (inr e) ↦
            inr (inr (ap (λ k. 4704 * k) e))
      ];
    }

    sound_small : length s ≤ 112896000
    sound_small = omega (arith, long, mul-le frames (sound_bytes (shape_of c m)) 1000 112896 few (longest_sound_of_frame (shape_of c m) is_shape))

    prop_long : length (made_prop_body c m) ≡ 66 + 4 * c
    prop_long = made_prop_long c m f

    are : IsChunk version × IsChunk (made_prop c m) × IsChunk (made_dsd s)
    are = (
      is_whole "FVER" (1 ∷ 5 ∷ 0 ∷ 0 ∷ []) 0 refl (lit< tt),
      is_whole "PROP" (made_prop_body c m) 0 refl (omega (arith, prop_long, f.most)),
      is_whole "DSD " s 0 refl (omega (arith, sound_small)),
    )

    pub made_long : length (body_bytes (made_chunks c m s)) ≡ 16 + (78 + 4 * c) + (12 + length s + length s % 2)
    made_long =
        let a = length-cons version (made_prop c m ∷ made_dsd s ∷ []) in
        let b = length-cons (made_prop c m) (made_dsd s ∷ []) in
        let d = length-cons (made_dsd s) [] in
        let v : length (bytes_of_chunk version) ≡ 16 = refl in
        let p = length_written "PROP" (made_prop_body c m) 0 refl (omega (arith, prop_long, f.most)) in
        let e = length_written "DSD " s 0 refl (omega (arith, sound_small)) in
        let even : (66 + 4 * c) % 2 ≡ 0 = omega arith in
        let none : length (body_bytes []) ≡ 0 = refl in
        omega (arith, a, b, d, v, p, e, prop_long, even, ap (λ n. n % 2) prop_long, none)

    pub is_file : IsFile g (made_chunks c m s) []
    is_file =
        subst (λ w. IsFile w (made_chunks c m s) []) (append-nil g)
        (written_is_file (made_chunks c m s) [] (are.0, (are.1, is_ending may_lack (made_dsd s) are.2)) (lit≤ tt)
        (omega (arith, made_long, sound_small, f.most)))

    heads_are : (top_level g).heads ≡ heads_from 16 (made_chunks c m s)
    heads_are = ap (λ (x : Found). x.heads) (found_is g (made_chunks c m s) [] is_file)

    -- what is read in it
    prop_named : all "PROP" g ≡ head_behind (version ∷ []) (made_prop c m) ∷ []
    prop_named = ap (named "PROP") heads_are

    prop_holds : Holds g (form_end g) (head_behind (version ∷ []) (made_prop c m)) (made_prop c m)
    prop_holds = stands_behind g (version ∷ []) (made_dsd s ∷ []) (made_prop c m) [] is_file

    pub prop_read : prop g ≡ made_prop_body c m
    prop_read = ap (body_of g) (ap the_first prop_named) ∙ prop_holds.body

    sound_named : sounds g ≡ head_behind (version ∷ made_prop c m ∷ []) (made_dsd s) ∷ []
    sound_named =
        ap (filter (λ (h : Head). sound_id h.id)) heads_are
        ∙ one_named sound_id (version ∷ made_prop c m ∷ []) [] (made_dsd s) (refl, (refl, tt)) refl tt

    sound_read : sound_head g ≡ head_behind (version ∷ made_prop c m ∷ []) (made_dsd s)
    sound_read = ap the_first sound_named

    sound_holds : Holds g (form_end g) (head_behind (version ∷ made_prop c m ∷ []) (made_dsd s)) (made_dsd s)
    sound_holds = stands_behind g (version ∷ made_prop c m ∷ []) [] (made_dsd s) [] is_file

    pub kind_read : kind g ≡ plain
    kind_read = ap (λ (h : Head). if h.id is "DSD " then plain else coded) sound_read

    size_read : (sound_head g).size ≡ length s
    size_read = ap (λ (h : Head). h.size) sound_read

    count_read : channel_count (prop g) ≡ c
    count_read = ap channel_count prop_read ∙ made_count c m f

    multiple_read : multiple (prop g) ≡ m
    multiple_read = ap multiple prop_read ∙ made_multiple c m f

    some : 0 < sound_bytes (shape_of c m)
    some = elim f.rate [ inl e ↦ by_rate 1 e (omega arith) | inr (inl e) ↦ by_rate 2 e (omega arith) | inr (inr e) ↦ by_rate 4 e (omega arith) ]
      where
        by_rate : (k : ℕ) → m ≡ k → 1 ≤ k → 0 < sound_bytes (shape_of c m)
        by_rate k e l = omega (arith, mul-le 4704 1 (4704 * m) c (omega (arith, e, l)) f.least)

    pub frames_read : frames_needed g ≡ frames
    frames_read =
        let b = sound_bytes (shape_of c m) in
        let same : frames * b + b - 1 ≡ frames * b + (b - 1) = omega (arith, some) in
        ap₂ frames_for (ap₂ (λ (i j : ℕ). sound_bytes (shape_of i j)) count_read multiple_read) (size_read ∙ long)
        ∙ ap (λ n. n / b) same
        ∙ div-mul-add frames b (b - 1) (omega (arith, some))

    -- ---- rule by rule
    version_rules : version_fault g ≡ None
    version_rules =
        let h = head_of (codes "FVER") 16 4 in
        let first : the_first (top_level g).heads ≡ h = ap the_first heads_are in
        ap (λ (i : Head). Version when not (is_version g i)) first

    prop_rules : prop_fault g ≡ None
    prop_rules =
        let some : (length (all "PROP" g) == 0) ≡ false = ap (λ hs. length hs == 0) prop_named in
        let once : nat_lt 1 (length (all "PROP" g)) ≡ false = ap (λ hs. nat_lt 1 (length hs)) prop_named in
        let size : (prop_head g).size ≡ length (made_prop_body c m) = ap (λ (hs : List Head). (the_first hs).size) prop_named in
        let most : nat_lt 65536 (prop_head g).size ≡ false = le-ltb 65536 (prop_head g).size (omega (arith, size, prop_long, f.most)) in
        let fields = lawful_prop (body_place (prop_head g)) (made_prop_body c m) (fs m ∷ chnl c ∷ cmpr ∷ []) (fs m) (chnl c) cmpr (is_prop c m f)
        (has_fields c m f) in
        let local : local_fault (body_place (prop_head g)) (prop g) ≡ None = ap (local_fault (body_place (prop_head g))) prop_read ∙ fields in
        rw (some, once, most) local

    sound_rules : sound_fault g ≡ None
    sound_rules =
        let some : (length (sounds g) == 0) ≡ false = ap (λ hs. length hs == 0) sound_named in
        let once : nat_lt 1 (length (sounds g)) ≡ false = ap (λ hs. nat_lt 1 (length hs)) sound_named in
        let type : compression (prop g) ≡ codes "DSD " = ap compression prop_read ∙ (are_read c m f).type in
        let name : (sound_head g).id ≡ codes "DSD " = ap (λ (h : Head). h.id) sound_read in
        let same : bytes_eq (compression (prop g)) (sound_head g).id ≡ true = ap₂ bytes_eq type name in
        let there : (prop_head g).place ≡ 16 + length (body_bytes (version ∷ [])) = ap (λ (hs : List Head). (the_first hs).place) prop_named in
        let here : (sound_head g).place ≡ 16 + length (body_bytes (version ∷ made_prop c m ∷ [])) = ap (λ (h : Head). h.place) sound_read in
        let ordered : nat_lt (sound_head g).place (prop_head g).place ≡ false =
        le-ltb (sound_head g).place (prop_head g).place (omega (arith, there, here, length-body (version ∷ []) (made_prop c m ∷ []))) in
        rw (some, once, same, ordered) refl

    plain_rules : plain_fault g ≡ None
    plain_rules =
        let multiple_of_count : (sound_head g).size % channel_count (prop g) ≡ 0 =
        ap₂ (λ (i j : ℕ). i % j) (size_read ∙ long ∙ regroup) count_read ∙ mul-mod_left (frames * (4704 * m)) c in
        let even : ((sound_head g).size % channel_count (prop g) == 0) ≡ true = eq-eqb _ 0 multiple_of_count in
        let frames_few : nat_lt 1000000 (frames_needed g) ≡ false = le-ltb 1000000 (frames_needed g) (omega (arith, frames_read, few)) in
        let none : rules.coded_chunks g ≡ [] = ap (filter (λ (h : Head). added_id h.id)) heads_are in
        let added : (length (rules.coded_chunks g) == 0) ≡ true = ap (λ hs. length hs == 0) none in
        let three : nat_lt 1022 (length (top_level g).heads) ≡ false = ap (λ hs. nat_lt 1022 (length hs)) heads_are in
        let prop_size : (prop_head g).size ≡ length (made_prop_body c m) = ap (λ (hs : List Head). (the_first hs).size) prop_named in
        let prop_most : nat_lt 65520 (prop_head g).size ≡ false = le-ltb 65520 (prop_head g).size (omega (arith, prop_size, prop_long, f.most)) in
        let form_most : nat_lt (2 ^ 49) (form_size g) ≡ false =
        le-ltb (2 ^ 49) (form_size g) (omega (arith, size_is g (made_chunks c m s) [] is_file, made_long, sound_small, f.most)) in
        let behind : nat_lt 65536 (length (behind_form g)) ≡ false = ap (λ w. nat_lt 65536 (length w)) (behind_is g (made_chunks c m s) [] is_file) in
        rw (even, frames_few, added, three, prop_most, form_most, behind) refl
      where
        regroup : frames * sound_bytes (shape_of c m) ≡ frames * (4704 * m) * c
        regroup = omega arith

    all_rules : form_fault g ≡ None
    unfolding form_fault
    all_rules =
        let opening : opening_fault g ≡ None = opens g (made_chunks c m s) [] is_file in
        rw (opening, version_rules, prop_rules, sound_rules) (ap (λ k. kind_fault k g) kind_read ∙ plain_rules)

    pub made_is_accepted : (level : ℕ) → refusal (encode level) g ≡ None
    unfolding refusal
    made_is_accepted level =
        ap (λ o. refused_by (form_by o g) (encode level) g) all_rules ∙ ap (λ k. NotPlain when is_coded k) kind_read

    made_form : accepted g ≡ form_of_kind plain g
    made_form = ap (λ k. form_of_kind k g) kind_read

    pub made_frames : (accepted g).frames ≡ frames
    made_frames = ap (λ (x : Form). x.frames) made_form ∙ frames_read

    pub made_size : size_of_sound (accepted g) ≡ length s
    made_size = ap size_of_sound made_form ∙ size_read

    -- what is coded of it has room beside it
    pub made_room : (picks : Picks) → AreBytes g → ArePicks picks → length (coded_file picks g) ≤ length g + 26 * frames + 200
    made_room picks bytes lawful =
        let e = encoded_is g picks (bytes, made_is_accepted 1) lawful in
        let p = e.p in
        let stored = stored_frames picks g (accepted g) in
        let b = sound_bytes (shape_of c m) in
        let same : sound_bytes_of (accepted g) ≡ b =
        ap sound_bytes_of made_form ∙ ap₂ (λ (i j : ℕ). sound_bytes (shape_of i j)) count_read multiple_read in
        let short = subst (λ n. AreShort (1 + n) stored) same e.stored.short in
        let most = coded_most g p (accepted g) stored e.frames (1 + b) (omega (arith, longest_sound_of_frame (shape_of c m) is_shape)) short in
        let count : length stored ≡ frames = e.count ∙ made_frames in
        let sound : length p.parts.sound.body ≡ length s = sym (ap (λ (h : Head). h.size) p.parts.sound_head_is) ∙ size_read in
        let prop_same : length p.parts.prop.body ≡ 66 + 4 * c = ap length (sym p.parts.prop_is ∙ prop_read) ∙ prop_long in
        let nothing : length (accepted g).behind ≡ 0 = ap (λ (x : Form). length x.behind) made_form ∙ ap length (behind_is g (made_chunks c m s) [] is_file) in
        let rest : length (behind_form g) ≡ 0 = ap length (behind_is g (made_chunks c m s) [] is_file) in
        let all = length-file g (plain_pre p ++ p.parts.sound ∷ p.parts.last) (behind_form g) p.parts.formed in
        let new = length-file (coded_file picks g) (coded_chunks p (accepted g) stored) [] e.made in
        let per : length stored * (1 + b + 25) ≡ frames * b + 26 * frames = ap (λ n. n * (1 + b + 25)) count ∙ omega arith in
        omega (arith, most, per, sound, prop_same, nothing, rest, all, new, long, f.most)
