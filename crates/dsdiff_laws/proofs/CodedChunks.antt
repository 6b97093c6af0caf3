-- What encoding writes is a form of these chunks: those of the plain file, with another `CMPR` in `PROP`, and `DST `, `DSTI` and `KEPT` in the place
-- of the sound.
use Rattle.std.proofs.Common.{◌≡◌, ℕ, ◌+◌, Bool, if◌then◌else◌, List, [], ◌∷◌, ◌++◌, length, flat_map, map, filter, refl, sym, ap, ap₂, subst, ◌∙◌}
use Rattle.std.proofs.Common.{append_assoc}
use Rattle.std.specs.Prelude.{codes, not, ◌&&◌}
use Rattle.std.specs.List.{AllZip, concat}
use Rattle.std.proofs.lemmas.List.{map-append}
use Rattle.byteorder.specs.Endian.{big_bytes}
use Rattle.dsdiff_spec.specs.Bytes.{◌below◌, ◌above◌}
use Rattle.dsdiff_spec.specs.Chunks.{Chunk, bytes_of_chunk, Head}
use Rattle.dsdiff_spec.specs.Form.{plain, Form}
use Rattle.dsdiff_spec.specs.Parts.{form_end}
use Rattle.dsdiff_spec.specs.Rules.{form_of_kind}
use Rattle.dsdiff_spec.specs.Walk.{Entry}
use Rattle.dsdiff_spec.specs.Written.{form_of, frte, dstf, dsti, entries_from, origin_chunk, cmpr_coded, cmpr_in, prop_with, before_sound}
use Rattle.dsdiff_spec.specs.Written.{behind_sound, copied_with}
use Rattle.dsdiff_spec.specs.Coded as encoding
use Rattle.dsdiff_spec.proofs.Tiling.{heads_from, head_of}
use Rattle.dsdiff_spec.proofs.ByteLists.{entry_bytes}
use Rattle.dsdiff_laws.proofs.Standing.{Holds}
use Rattle.dsdiff_laws.proofs.Filed.{may_lack, body_bytes, concat_bytes}
use Rattle.dsdiff_laws.proofs.Props.{locals, chunk_of, body_with, prop_with_is, fields_are_read}
use Rattle.dsdiff_laws.proofs.Order.{those_before, those_behind}
use Rattle.dsdiff_laws.proofs.Places.{Lacks, parts_hold, copy_of, copied_of, copy_without}
use Rattle.dsdiff_laws.proofs.FormParts.{prop_id}
use Rattle.dsdiff_laws.proofs.PlainParts.{PlainParts, added_id}

-- ---- the chunks
abbrev pub coded_cmpr : Chunk
coded_cmpr = chunk_of "CMPR" (codes "DST " ++ 11 ∷ codes "DST Encoded") 0

abbrev pub coded_prop : {file : List ℕ} → PlainParts file → Chunk
coded_prop p = chunk_of "PROP" (body_with coded_cmpr (locals p.parts.prop.body)) 0

abbrev pub frte_chunk : ℕ → Chunk
frte_chunk n = chunk_of "FRTE" (big_bytes 4 n ++ big_bytes 2 75) 0

abbrev pub frame_chunk : List ℕ → Chunk
frame_chunk frame = chunk_of "DSTF" frame 0

abbrev pub dst_body : List (List ℕ) → List ℕ
dst_body frames = frte (length frames) ++ flat_map dstf frames

abbrev pub dst_chunk : List (List ℕ) → Chunk
dst_chunk frames = chunk_of "DST " (dst_body frames) 0

abbrev pub dsti_chunk : List Entry → Chunk
dsti_chunk es = chunk_of "DSTI" (flat_map entry_bytes es) 0

abbrev pub origin_body : ℕ → ℕ → List ℕ → List ℕ → List ℕ
origin_body sound pad cmpr kept = 2 ∷ big_bytes 8 sound ++ pad ∷ big_bytes 4 (length kept) ++ cmpr ++ kept

abbrev pub origin_piece : ℕ → ℕ → List ℕ → List ℕ → Chunk
origin_piece sound pad cmpr kept = chunk_of "KEPT" (origin_body sound pad cmpr kept) 0

-- before the sound, and all of them
abbrev pub coded_pre : {file : List ℕ} → PlainParts file → List Chunk
coded_pre p = p.parts.version ∷ p.parts.front ++ coded_prop p ∷ p.parts.middle

abbrev pub plain_pre : {file : List ℕ} → PlainParts file → List Chunk
plain_pre p = p.parts.version ∷ p.parts.front ++ p.parts.prop ∷ p.parts.middle

abbrev pub entries_of : {file : List ℕ} → PlainParts file → List (List ℕ) → List Entry
entries_of p frames = entries_from (16 + length (body_bytes (coded_pre p)) + 12 + 18) frames

abbrev pub origin_of_parts : {file : List ℕ} → PlainParts file → Form → Chunk
origin_of_parts p form = origin_piece (length p.parts.sound.body) form.pad (bytes_of_chunk p.parts.lawful.cmpr) form.behind

abbrev pub coded_chunks : {file : List ℕ} → PlainParts file → Form → List (List ℕ) → List Chunk
coded_chunks p form frames = coded_pre p ++ dst_chunk frames ∷ dsti_chunk (entries_of p frames) ∷ origin_of_parts p form ∷ p.parts.last

-- ---- the chunks that are passed on
pub kept_named : (f : List ℕ → Bool) (n : ℕ) (cs : List Chunk) → Lacks f cs → filter (λ h. not (f h.id)) (heads_from n cs) ≡ heads_from n cs
kept_named f n [] all = refl
kept_named f n (c ∷ cs) all =
    let here = all.0 in
    rw here (ap (λ hs. head_of c.id n (length c.body) ∷ hs) (kept_named f (n + length (bytes_of_chunk c)) cs all.1))

lacks_append : (f : List ℕ → Bool) (cs ds : List Chunk) → Lacks f cs → Lacks f ds → Lacks f (cs ++ ds)
lacks_append f [] ds p q = q
lacks_append f (c ∷ cs) ds p q = (p.0, lacks_append f cs ds p.1 q)

module _ (file : List ℕ) (p : PlainParts file) (form : Form) (is_form : form ≡ form_of_kind plain file)
  where
    pre_lacks_added : Lacks added_id (plain_pre p)
    pre_lacks_added = lacks_append added_id (p.parts.version ∷ p.parts.front) (p.parts.prop ∷ p.parts.middle) p.added_front
        (ap added_id p.parts.is_prop, p.added_middle)

    heads_are : form.chunks ≡ heads_from 16 (plain_pre p ++ p.parts.sound ∷ p.parts.last)
    heads_are = ap (λ (f : Form). f.chunks) is_form ∙ p.parts.heads

    place_is : form.sound.place ≡ 16 + length (body_bytes (plain_pre p))
    place_is = ap (λ (f : Form). f.sound.place) is_form ∙ ap (λ (h : Head). h.place) p.parts.sound_head_is

    end_is : form_end file ≡ form.end
    end_is = sym (ap (λ (f : Form). f.end) is_form)

    prop_is : form.prop ≡ p.parts.prop.body
    prop_is = ap (λ (f : Form). f.prop) is_form ∙ p.parts.prop_is

    hold : AllZip (Holds file form.end) (heads_from 16 (plain_pre p)) (plain_pre p)
    hold = subst (λ n. AllZip (Holds file n) (heads_from 16 (plain_pre p)) (plain_pre p)) end_is
        (parts_hold file (plain_pre p) (p.parts.sound ∷ p.parts.last) _ p.parts.formed).0

    before_is : before_sound form ≡ heads_from 16 (plain_pre p)
    before_is =
        ap₂ (λ (n : ℕ) (hs : List Head). filter (λ (h : Head). h.place below n && not (added_id h.id)) hs) place_is heads_are
        ∙ those_before may_lack (λ h. not (added_id h.id)) 16 (plain_pre p) p.parts.last p.parts.sound p.parts.formed.are
        ∙ kept_named added_id 16 (plain_pre p) pre_lacks_added

    behind_is : behind_sound form ≡ heads_from (16 + length (body_bytes (plain_pre p)) + length (bytes_of_chunk p.parts.sound)) p.parts.last
    behind_is =
        ap₂ (λ (n : ℕ) (hs : List Head). filter (λ (h : Head). h.place above n && not (added_id h.id)) hs) place_is heads_are
        ∙ those_behind may_lack (λ h. not (added_id h.id)) 16 (plain_pre p) p.parts.last p.parts.sound p.parts.formed.are
        ∙ kept_named added_id _ p.parts.last p.added_last

    hold_last : AllZip (Holds file form.end) (heads_from (16 + length (body_bytes (plain_pre p)) + length (bytes_of_chunk p.parts.sound)) p.parts.last)
        p.parts.last
    hold_last =
        subst
        (λ n. AllZip (Holds file n) (heads_from (16 + length (body_bytes (plain_pre p)) + length (bytes_of_chunk p.parts.sound)) p.parts.last) p.parts.last)
        end_is
        ((parts_hold file (plain_pre p) (p.parts.sound ∷ p.parts.last) _ p.parts.formed).1.1)

    new_prop : prop_with form.prop cmpr_coded ≡ bytes_of_chunk (coded_prop p)
    new_prop = ap (λ w. prop_with w cmpr_coded) prop_is ∙ prop_with_is coded_cmpr p.parts.prop.body (locals p.parts.prop.body) p.parts.lawful.made

    pub before_copied : encoding.coded_before file form ≡ map bytes_of_chunk (coded_pre p)
    before_copied =
        let new = prop_with form.prop cmpr_coded in
        let here : copy_of new p.parts.prop ≡ bytes_of_chunk (coded_prop p) =
        ap (λ (b : Bool). if b then new else bytes_of_chunk p.parts.prop) (ap prop_id p.parts.is_prop)
        ∙ new_prop in
        ap (copied_with cmpr_coded file form) before_is
        ∙ copied_of cmpr_coded file form (heads_from 16 (plain_pre p)) (plain_pre p) hold
        ∙ map-append (copy_of new) (p.parts.version ∷ p.parts.front) (p.parts.prop ∷ p.parts.middle)
        ∙ ap₂ (λ (a b : List (List ℕ)). a ++ b) (copy_without new (p.parts.version ∷ p.parts.front) p.parts.apart_front.props)
        (ap₂ (λ (a : List ℕ) (b : List (List ℕ)). a ∷ b) here (copy_without new p.parts.middle p.parts.apart_middle.props))
        ∙ sym (map-append bytes_of_chunk (p.parts.version ∷ p.parts.front) (coded_prop p ∷ p.parts.middle))

    pub behind_copied : copied_with cmpr_coded file form (behind_sound form) ≡ map bytes_of_chunk p.parts.last
    behind_copied =
        ap (copied_with cmpr_coded file form) behind_is
        ∙ copied_of cmpr_coded file form _ p.parts.last hold_last
        ∙ copy_without (prop_with form.prop cmpr_coded) p.parts.last p.parts.apart_last.props

    cmpr_is : cmpr_in form.prop ≡ bytes_of_chunk p.parts.lawful.cmpr
    cmpr_is =
        let l = p.parts.lawful in
        ap cmpr_in prop_is ∙ (fields_are_read p.parts.prop.body (locals p.parts.prop.body) l.fs l.chnl l.cmpr l.made l.has).part

    size_is : form.sound.size ≡ length p.parts.sound.body
    size_is = ap (λ (f : Form). f.sound.size) is_form ∙ ap (λ (h : Head). h.size) p.parts.sound_head_is

    origin_is : encoding.origin_of_plain form ≡ bytes_of_chunk (origin_of_parts p form)
    origin_is = ap₂ (λ (n : ℕ) (w : List ℕ). origin_chunk n form.pad w form.behind) size_is cmpr_is

    place_of_frames : encoding.first_place (encoding.coded_before file form) ≡ 16 + length (body_bytes (coded_pre p)) + 12 + 18
    place_of_frames = ap (λ ws. 16 + length (concat ws) + 12 + 18) before_copied ∙ ap (λ w. 16 + length w + 12 + 18) (concat_bytes (coded_pre p))

    -- what is written of frames
    pub coded_is : (frames : List (List ℕ)) → encoding.coded_with frames file form ≡ form_of (map bytes_of_chunk (coded_chunks p form frames))
    unfolding encoding.coded_with
    coded_is frames =
        let three : List (List ℕ) = bytes_of_chunk (dst_chunk frames) ∷ bytes_of_chunk (dsti_chunk (entries_of p frames)) ∷ bytes_of_chunk
        (origin_of_parts p form) ∷ [] in
        let index : dsti (entries_from (encoding.first_place (encoding.coded_before file form)) frames) ≡ bytes_of_chunk (dsti_chunk (entries_of p frames)) =
        ap (λ n. dsti (entries_from n frames)) place_of_frames in
        ap₂ (λ (i k : List ℕ). form_of (encoding.coded_before file form ++ bytes_of_chunk (dst_chunk frames) ∷ i ∷ k ∷ []
        ++ copied_with cmpr_coded file form (behind_sound form))) index origin_is
        ∙ ap₂ (λ (a b : List (List ℕ)). form_of (a ++ three ++ b)) before_copied behind_copied
        ∙ ap form_of (joined (coded_pre p) frames)
      where
        joined : (pre : List Chunk) (frames : List (List ℕ)) →
            map bytes_of_chunk pre ++ bytes_of_chunk (dst_chunk frames) ∷ bytes_of_chunk (dsti_chunk (entries_of p frames)) ∷ bytes_of_chunk
            (origin_of_parts p form) ∷ [] ++ map bytes_of_chunk p.parts.last
            ≡ map bytes_of_chunk (pre ++ dst_chunk frames ∷ dsti_chunk (entries_of p frames) ∷ origin_of_parts p form ∷ p.parts.last)
        joined pre frames = append_assoc (map bytes_of_chunk pre) _ (map bytes_of_chunk p.parts.last) ∙ sym (map-append bytes_of_chunk pre _)
