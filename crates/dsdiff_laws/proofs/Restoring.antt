-- What encoding writes is decoded to the file that was encoded, byte for byte, and to no other.
use Rattle.std.proofs.Common.{◌≡◌, ◌⊎◌, inl, inr, ℕ, zero, suc, ◌+◌, ◌-◌, ◌*◌, ◌%◌, ◌<◌, ◌==◌, Bool, true, false, if◌then◌else◌, List, [], ◌∷◌, ◌++◌}
use Rattle.std.proofs.Common.{length, take, drop, get_or, map, filter, min, Some, refl, sym, ap, ap₂, subst, ◌∙◌, arith, length-append, append_assoc}
use Rattle.std.proofs.Common.{eqb-true}
use Rattle.std.specs.Prelude.{codes, not, ◌&&◌}
use Rattle.std.specs.List.{AllByRecursion, AllZip, concat}
use Rattle.std.proofs.lemmas.Bool.{eqb-false}
use Rattle.std.proofs.lemmas.List.{map-append, get_or_at, get_or-drop, get_or-take, length-take}
use Rattle.byteorder.specs.Endian.{big_bytes}
use Rattle.byteorder.specs.Numbers.{length-bytes_high_first}
use Rattle.dst_spec.specs.Bits.{AreBytes}
use Rattle.dst_spec.specs.Sample.{Shape, IsShape}
use Rattle.dst_spec.specs.Means.{Means}
use Rattle.dst_spec.proofs.Lists.{all_append}
use Rattle.dsdiff_spec.specs.Bytes.{◌below◌, ◌above◌}
use Rattle.dsdiff_spec.specs.Chunks.{Chunk, bytes_of_chunk, IsChunk, Head, Found, body_end, body_of, next_place}
use Rattle.dsdiff_spec.specs.Form.{Kind, plain, coded, Form, Origin, shape, shape_of, sound_bytes_of, size_of_sound, plain_size}
use Rattle.dsdiff_spec.specs.Parts.{sound_head, form_end, behind_form, pad_byte, all, channel_count, multiple}
use Rattle.dsdiff_spec.specs.Rules.{accepted, origin_in}
use Rattle.dsdiff_spec.specs.Origin.{origin_of}
use Rattle.dsdiff_spec.specs.Written.{form_of, padded_chunk, prop_with, before_sound, behind_sound, copied_with}
use Rattle.dsdiff_spec.specs.Coded.{Picks, pieces, stored_frames}
use Rattle.dsdiff_spec.specs.Decoded.{Plain, decoded, decoded_with, decoded_before, plain_cmpr, plain_pad, kept_bytes, frames_of}
use Rattle.dsdiff_spec.specs.Laws.{coded_file, RestoringLaw}
use Rattle.dsdiff_spec.proofs.CodedFiles.{some_bytes}
use Rattle.dsdiff_spec.proofs.Tiling.{heads_from, length_of_chunk}
use Rattle.dsdiff_laws.proofs.Composed.{first_ends}
use Rattle.dsdiff_laws.proofs.Standing.{Holds}
use Rattle.dsdiff_laws.proofs.Filed.{may_lack, body_bytes, concat_bytes, found_is}
use Rattle.dsdiff_laws.proofs.Props.{locals, replaced, replaced_back, chunk_of, body_with, prop_with_is, length-prop}
use Rattle.dsdiff_laws.proofs.Order.{those_before, those_behind}
use Rattle.dsdiff_laws.proofs.Places.{Lacks, head_behind, parts_hold, copy_of, copied_of, copy_without}
use Rattle.dsdiff_laws.proofs.PlainParts.{PlainParts, added_id}
use Rattle.dsdiff_laws.proofs.CodedChunks.{coded_cmpr, coded_prop, coded_pre, plain_pre, coded_chunks, dst_chunk, dsti_chunk, entries_of}
use Rattle.dsdiff_laws.proofs.CodedChunks.{origin_of_parts, kept_named}
use Rattle.dsdiff_laws.proofs.CodedFile.{whole_before, split_whole}
use Rattle.dsdiff_laws.proofs.CodedRules.{prop_is, same_count, same_multiple, new_prop, origin_only, origin_body_is, origin_holds, sound_head_is}
use Rattle.dsdiff_laws.proofs.OriginRead.{origin_is_read}
use Rattle.dsdiff_laws.proofs.Acceptance.{IsEncoded, encoded_is, coded_form, walk_of_coded}
use Rattle.dsdiff_laws.proofs.Joined.{pieces_join, one_meaning}

-- ---- the `PROP` is the old one again
even_bytes : (cs : List Chunk) → AllByRecursion IsChunk cs → length (body_bytes cs) % 2 ≡ 0
even_bytes [] all = refl
even_bytes (c ∷ cs) all =
    let long = length_of_chunk c all.0 in
    omega (arith, long, even_bytes cs all.1, length-append (bytes_of_chunk c) (body_bytes cs))

prop_again : {file : List ℕ} (p : PlainParts file) → IsChunk p.parts.prop →
    bytes_of_chunk (chunk_of "PROP" (body_with p.parts.lawful.cmpr (replaced coded_cmpr (locals p.parts.prop.body))) 0) ≡ bytes_of_chunk p.parts.prop
prop_again p whole =
    let ls = locals p.parts.prop.body in
    let back : body_with p.parts.lawful.cmpr (replaced coded_cmpr ls) ≡ p.parts.prop.body =
    ap (λ ds. codes "SND " ++ body_bytes ds) (replaced_back coded_cmpr ls p.parts.lawful.cmpr p.parts.lawful.has.one_cmpr refl)
    ∙ sym p.parts.lawful.made.bytes in
    let even : length p.parts.prop.body % 2 ≡ 0 =
    omega (arith, length-prop p.parts.prop.body ls p.parts.lawful.made, even_bytes ls p.parts.lawful.made.whole) in
    let odd : (length p.parts.prop.body % 2 == 1) ≡ false = eqb-false' (length p.parts.prop.body % 2) even in
    let no_pad : p.parts.prop.pad ≡ [] = empty p.parts.prop.pad (omega (arith, whole.pad, even)) in
    ap (λ w. bytes_of_chunk (chunk_of "PROP" w 0)) back
    ∙ ap (λ (b : Bool). codes "PROP" ++ big_bytes 8 (length p.parts.prop.body) ++ p.parts.prop.body ++ (if b then 0 ∷ [] else [])) odd
    ∙ ap₂ (λ (i k : List ℕ). i ++ big_bytes 8 (length p.parts.prop.body) ++ p.parts.prop.body ++ k) (sym p.parts.is_prop) (sym no_pad)
  where
    eqb-false' : (n : ℕ) → n ≡ 0 → (n == 1) ≡ false
    eqb-false' zero e = refl
    eqb-false' (suc n) e = absurd (omega (arith, e))

    empty : (w : List ℕ) → length w ≡ 0 → w ≡ []
    empty [] e = refl
    empty (x ∷ w) e = absurd (omega (arith, e))

-- ---- the sound chunk, with its pad byte
sound_again : (file : List ℕ) (p : PlainParts file) → padded_chunk "DSD " p.parts.sound.body (pad_byte file) ≡ bytes_of_chunk p.parts.sound
sound_again file p =
    let ends = first_ends may_lack p.parts.sound p.parts.last (whole_before may_lack (plain_pre p) p.parts.last p.parts.sound p.parts.formed.are).1 in
    let pad : length p.parts.sound.pad ≡ length p.parts.sound.body % 2 = has_pad ends.pad in
    let size : (sound_head file).size ≡ length p.parts.sound.body = ap (λ (h : Head). h.size) p.parts.sound_head_is in
    ap (λ (i : List ℕ). i ++ big_bytes 8 (length p.parts.sound.body) ++ p.parts.sound.body ++
    (if length p.parts.sound.body % 2 == 1 then pad_byte file ∷ [] else []))
    (sym p.is_dsd)
    ∙ ap (λ (k : List ℕ). p.parts.sound.id ++ big_bytes 8 (length p.parts.sound.body) ++ p.parts.sound.body ++ k)
    (by_odd (length p.parts.sound.body % 2 == 1) refl p.parts.sound.pad pad refl)
  where
    no_true : false ≡ true → ⊥
    no_true e = absurd cc

    has_pad : (length p.parts.sound.pad ≡ length p.parts.sound.body % 2) ⊎ ((length p.parts.sound.pad ≡ 0) × (may_lack p.parts.sound.id ≡ true)) →
        length p.parts.sound.pad ≡ length p.parts.sound.body % 2
    has_pad (inl e) = e
    has_pad (inr (none, may)) = absurd (no_true (sym (ap may_lack p.is_dsd) ∙ may))

    last_byte : (x : ℕ) → p.parts.sound.pad ≡ x ∷ [] → get_or file (body_end (head_behind (plain_pre p) p.parts.sound)) 0 ≡ x
    last_byte x e =
        let h = head_behind (plain_pre p) p.parts.sound in
        let end = min (next_place h) (form_end file) in
        let front = p.parts.sound.id ++ big_bytes 8 (length p.parts.sound.body) ++ p.parts.sound.body in
        let ends = first_ends may_lack p.parts.sound p.parts.last (whole_before may_lack (plain_pre p) p.parts.last p.parts.sound p.parts.formed.are).1 in
        let k = 12 + length p.parts.sound.body in
        let long : length front ≡ k =
        omega (
          arith,
          length-append (p.parts.sound.id ++ big_bytes 8 (length p.parts.sound.body)) p.parts.sound.body,
          length-append p.parts.sound.id (big_bytes 8 (length p.parts.sound.body)),
          length-bytes_high_first 8 (length p.parts.sound.body),
          ends.id,
        ) in
        let all : length (bytes_of_chunk p.parts.sound) ≡ k + 1 = omega (arith, long, length-append front p.parts.sound.pad, ap length e) in
        let inside : k < end - h.place = omega (arith, all, ap length p.parts.sound_holds.bytes, length-take (end - h.place) (drop h.place file)) in
        let place : body_end h ≡ h.place + k = omega arith in
        ap (λ i. get_or file i 0) place
        ∙ sym (get_or-drop h.place file k 0)
        ∙ sym (get_or-take (end - h.place) (drop h.place file) k 0 inside)
        ∙ ap (λ w. get_or w k 0) (p.parts.sound_holds.bytes ∙ ap (λ w. front ++ w) e)
        ∙ get_or_at front x [] 0 k long

    by_odd : (b : Bool) → (length p.parts.sound.body % 2 == 1) ≡ b → (w : List ℕ) → length w ≡ length p.parts.sound.body % 2 → p.parts.sound.pad ≡ w →
        (if b then pad_byte file ∷ [] else []) ≡ w
    by_odd true odd [] n e = absurd (let one = eqb-true (length p.parts.sound.body % 2) 1 odd in omega (arith, n, one))
    by_odd true odd (x ∷ []) n e =
        let h = head_behind (plain_pre p) p.parts.sound in
        let size : (sound_head file).size ≡ length p.parts.sound.body = ap (λ (i : Head). i.size) p.parts.sound_head_is in
        let is_odd : ((sound_head file).size % 2 == 1) ≡ true = ap (λ (k : ℕ). k % 2 == 1) size ∙ odd in
        let there : pad_byte file ≡ get_or file (body_end (sound_head file)) 0 =
        ap (λ (b : Bool). if b then get_or file (body_end (sound_head file)) 0 else 0) is_odd in
        ap (λ (y : ℕ). y ∷ []) (there ∙ ap (λ (i : Head). get_or file (body_end i) 0) p.parts.sound_head_is ∙ last_byte x e)
    by_odd true odd (x ∷ y ∷ w) n e = absurd (let one = eqb-true (length p.parts.sound.body % 2) 1 odd in omega (arith, n, one))
    by_odd false odd [] n e = refl
    by_odd false odd (x ∷ w) n e = absurd (let one = eqb-false (length p.parts.sound.body % 2) 1 odd in omega (arith, n, one))

-- ---- the chunks that are passed on
module _ (file : List ℕ) (picks : Picks) (e : IsEncoded file picks)
  where
    abbrev g : List ℕ
    g = coded_file picks file

    abbrev stored : List (List ℕ)
    stored = stored_frames picks file (accepted file)

    abbrev form' : Form
    form' = accepted (coded_file picks file)

    abbrev others : List Chunk
    others = dsti_chunk (entries_of e.p stored) ∷ origin_of_parts e.p (accepted file) ∷ e.p.parts.last

    heads_are : form'.chunks ≡ heads_from 16 (coded_pre e.p ++ dst_chunk stored ∷ others)
    heads_are = ap (λ (f : Form). f.chunks) (coded_form file picks e)
        ∙ ap (λ (x : Found). x.heads) (found_is g (coded_chunks e.p (accepted file) stored) [] e.made)

    place_is : form'.sound.place ≡ 16 + length (body_bytes (coded_pre e.p))
    place_is = ap (λ (h : Head). h.place) (sound_head_is file e.p (accepted file) stored e.frames e.exact g e.made)

    form_end_is : form_end g ≡ form'.end
    form_end_is = sym (ap (λ (f : Form). f.end) (coded_form file picks e))

    pre_lacks : Lacks added_id (coded_pre e.p)
    pre_lacks =
        all_append (λ (d : Chunk). added_id d.id ≡ false) (e.p.parts.version ∷ e.p.parts.front) (coded_prop e.p ∷ e.p.parts.middle) e.p.added_front (
          refl,
          e.p.added_middle,
        )

    before_is : before_sound form' ≡ heads_from 16 (coded_pre e.p)
    before_is =
        ap₂ (λ (n : ℕ) (hs : List Head). filter (λ (h : Head). h.place below n && not (added_id h.id)) hs) place_is heads_are
        ∙ those_before may_lack (λ h. not (added_id h.id)) 16 (coded_pre e.p) others (dst_chunk stored) e.made.are
        ∙ kept_named added_id 16 (coded_pre e.p) pre_lacks

    abbrev behind_place : ℕ
    behind_place =
        16 + length (body_bytes (coded_pre e.p)) + length (bytes_of_chunk (dst_chunk stored)) + length (bytes_of_chunk (dsti_chunk (entries_of e.p stored)))
        + length (bytes_of_chunk (origin_of_parts e.p (accepted file)))

    behind_is : behind_sound form' ≡ heads_from behind_place e.p.parts.last
    behind_is =
        ap₂ (λ (n : ℕ) (hs : List Head). filter (λ (h : Head). h.place above n && not (added_id h.id)) hs) place_is heads_are
        ∙ those_behind may_lack (λ h. not (added_id h.id)) 16 (coded_pre e.p) others (dst_chunk stored) e.made.are
        ∙ kept_named added_id behind_place e.p.parts.last e.p.added_last

    -- what `KEPT` says
    origin_said : form'.origin ≡ Some (record {
      sound = length e.p.parts.sound.body;
      pad = (accepted file).pad;
      cmpr = bytes_of_chunk e.p.parts.lawful.cmpr;
      kept = (accepted file).behind;
    })
    origin_said =
        let o = origin_holds file e.p (accepted file) stored e.frames e.exact g e.made in
        ap (λ (f : Form). f.origin) (coded_form file picks e)
        ∙ ap (origin_in g) (origin_only file e.p (accepted file) stored e.frames e.exact g e.made)
        ∙ ap (λ w. Some (origin_of w)) (origin_body_is file e.p (accepted file) stored e.frames e.exact g e.made)
        ∙ ap Some (origin_is_read (length e.p.parts.sound.body) (accepted file).pad (bytes_of_chunk e.p.parts.lawful.cmpr)
        (accepted file).behind o.sound_fits o.kept_most)

    prop_of_form : form'.prop ≡ (coded_prop e.p).body
    prop_of_form = ap (λ (f : Form). f.prop) (coded_form file picks e) ∙ prop_is file e.p (accepted file) stored e.frames e.exact g e.made

    -- ---- the chunks are the old ones
    old_cmpr : List ℕ
    old_cmpr = bytes_of_chunk e.p.parts.lawful.cmpr

    prop_back : prop_with form'.prop (bytes_of_chunk e.p.parts.lawful.cmpr) ≡ bytes_of_chunk e.p.parts.prop
    prop_back =
        let p = e.p in
        let parts = split_whole (p.parts.version ∷ p.parts.front) (p.parts.prop ∷ p.parts.middle)
        (whole_before may_lack (plain_pre p) p.parts.last p.parts.sound p.parts.formed.are).0 in
        ap (λ w. prop_with w (bytes_of_chunk p.parts.lawful.cmpr)) prop_of_form
        ∙ prop_with_is p.parts.lawful.cmpr (coded_prop p).body (replaced coded_cmpr (locals p.parts.prop.body))
        (new_prop file p (accepted file) stored e.frames e.exact g e.made)
        ∙ prop_again p parts.1.0

    hold_pre : AllZip (Holds g form'.end) (heads_from 16 (coded_pre e.p)) (coded_pre e.p)
    hold_pre =
        subst (λ n. AllZip (Holds g n) (heads_from 16 (coded_pre e.p)) (coded_pre e.p)) form_end_is
        (parts_hold g (coded_pre e.p) (dst_chunk stored ∷ others) [] e.made).0

    hold_last : AllZip (Holds g form'.end) (heads_from behind_place e.p.parts.last) e.p.parts.last
    hold_last =
        subst (λ n. AllZip (Holds g n) (heads_from behind_place e.p.parts.last) e.p.parts.last) form_end_is
        (parts_hold g (coded_pre e.p) (dst_chunk stored ∷ others) [] e.made).1.1.1.1

    before_copied : copied_with (bytes_of_chunk e.p.parts.lawful.cmpr) g form' (before_sound form') ≡ map bytes_of_chunk (plain_pre e.p)
    before_copied =
        let p = e.p in
        let cmpr = bytes_of_chunk p.parts.lawful.cmpr in
        let new = prop_with form'.prop cmpr in
        ap (copied_with cmpr g form') before_is
        ∙ copied_of cmpr g form' (heads_from 16 (coded_pre p)) (coded_pre p) hold_pre
        ∙ map-append (copy_of new) (p.parts.version ∷ p.parts.front) (coded_prop p ∷ p.parts.middle)
        ∙ ap₂ (λ (a b : List (List ℕ)). a ++ b) (copy_without new (p.parts.version ∷ p.parts.front) p.parts.apart_front.props)
        (ap₂ (λ (a : List ℕ) (b : List (List ℕ)). a ∷ b) prop_back (copy_without new p.parts.middle p.parts.apart_middle.props))
        ∙ sym (map-append bytes_of_chunk (p.parts.version ∷ p.parts.front) (p.parts.prop ∷ p.parts.middle))

    behind_copied : copied_with (bytes_of_chunk e.p.parts.lawful.cmpr) g form' (behind_sound form') ≡ map bytes_of_chunk e.p.parts.last
    behind_copied =
        let cmpr = bytes_of_chunk e.p.parts.lawful.cmpr in
        ap (copied_with cmpr g form') behind_is
        ∙ copied_of cmpr g form' (heads_from behind_place e.p.parts.last) e.p.parts.last hold_last
        ∙ copy_without (prop_with form'.prop cmpr) e.p.parts.last e.p.parts.apart_last.props

    pad_of : (accepted file).pad ≡ pad_byte file
    pad_of = ap (λ (f : Form). f.pad) e.is_form

    behind_of : (accepted file).behind ≡ behind_form file
    behind_of = ap (λ (f : Form). f.behind) e.is_form

    abbrev said : Origin
    said = record { sound = length e.p.parts.sound.body; pad = (accepted file).pad; cmpr = bytes_of_chunk e.p.parts.lawful.cmpr; kept = (accepted file).behind }

    -- decoding with the sound gives the file
    with_sound : decoded_with e.p.parts.sound.body g form' ≡ file
    unfolding decoded_with
    with_sound =
        let p = e.p in
        let cmpr : plain_cmpr form'.origin ≡ bytes_of_chunk p.parts.lawful.cmpr = ap plain_cmpr origin_said in
        let pad : plain_pad form'.origin ≡ pad_byte file = ap plain_pad origin_said ∙ pad_of in
        let kept : kept_bytes form'.origin ≡ behind_form file = ap kept_bytes origin_said ∙ behind_of in
        let before : decoded_before g form' ≡ map bytes_of_chunk (plain_pre p) = ap (λ c. copied_with c g form' (before_sound form')) cmpr ∙ before_copied in
        let behind : copied_with (plain_cmpr form'.origin) g form' (behind_sound form') ≡ map bytes_of_chunk p.parts.last =
        ap (λ c. copied_with c g form' (behind_sound form')) cmpr ∙ behind_copied in
        let sound : padded_chunk "DSD " p.parts.sound.body (plain_pad form'.origin) ≡ bytes_of_chunk p.parts.sound =
        ap (padded_chunk "DSD " p.parts.sound.body) pad
        ∙ sound_again file p in
        let lists : decoded_before g form' ++ padded_chunk "DSD " p.parts.sound.body (plain_pad form'.origin) ∷ [] ++ copied_with
        (plain_cmpr form'.origin) g form' (behind_sound form')
        ≡ map bytes_of_chunk (plain_pre p ++ p.parts.sound ∷ p.parts.last) =
        ap₂ (λ (a : List (List ℕ)) (b : List ℕ). a ++ b ∷ [] ++ copied_with (plain_cmpr form'.origin) g form' (behind_sound form')) before sound
        ∙ ap (λ (b : List (List ℕ)). map bytes_of_chunk (plain_pre p) ++ bytes_of_chunk p.parts.sound ∷ [] ++ b) behind
        ∙ append_assoc (map bytes_of_chunk (plain_pre p)) (bytes_of_chunk p.parts.sound ∷ []) (map bytes_of_chunk p.parts.last)
        ∙ sym (map-append bytes_of_chunk (plain_pre p) (p.parts.sound ∷ p.parts.last)) in
        ap₂ (λ (a : List (List ℕ)) (b : List ℕ). form_of a ++ b) lists kept
        ∙ ap (λ w. codes "FRM8" ++ big_bytes 8 (4 + length w) ++ codes "DSD " ++ w ++ behind_form file)
        (concat_bytes (plain_pre p ++ p.parts.sound ∷ p.parts.last))
        ∙ sym p.parts.formed.bytes

    -- ---- the sound is the pieces, joined and cut
    size_said : size_of_sound form' ≡ length e.p.parts.sound.body
    size_said = by_kind form'.kind (ap (λ (f : Form). f.kind) (coded_form file picks e))
      where
        by_kind : (k : Kind) → k ≡ coded → (elim k [ plain ↦ form'.sound.size | coded ↦ plain_size form'.origin (form'.frames * sound_bytes_of form') ])
            ≡ length e.p.parts.sound.body
        by_kind plain q = absurd cc
        by_kind coded q = ap (λ o. plain_size o (form'.frames * sound_bytes_of form')) origin_said

    pub same_size : size_of_sound form' ≡ size_of_sound (accepted file)
    same_size =
        size_said
        ∙ sym (ap size_of_sound e.is_form ∙ ap (λ (h : Head). h.size) (sym (ap (λ (f : Form). f.sound) e.is_form) ∙ e.p.parts.sound_head_is))

    pub same_shape : shape form' ≡ shape (accepted file)
    same_shape =
        ap (λ (f : Form). shape f) (coded_form file picks e)
        ∙ ap₂ shape_of (same_count file e.p (accepted file) stored e.frames e.exact g e.made)
        (same_multiple file e.p (accepted file) stored e.frames e.exact g e.made)
        ∙ sym (ap₂ shape_of (ap channel_count e.p.parts.prop_is) (ap multiple e.p.parts.prop_is))

    abbrev list : List (List ℕ)
    list = pieces (sound_bytes_of (accepted file)) (body_of file (accepted file).sound)

    body_is : body_of file (accepted file).sound ≡ e.p.parts.sound.body
    body_is = ap (body_of file) e.p.parts.sound_head_is ∙ e.p.parts.sound_holds.body

    joined_is : take (size_of_sound form') (concat list) ≡ e.p.parts.sound.body
    joined_is =
        ap (λ n. take n (concat list)) (size_said ∙ sym (ap length body_is))
        ∙ pieces_join (sound_bytes_of (accepted file)) (body_of file (accepted file).sound)
        (some_bytes (shape (accepted file)) e.shape)
        ∙ body_is

    pub meant : AllZip (Means (shape form')) (frames_of g form') list
    meant =
        subst (λ ws. AllZip (Means (shape form')) ws list) (sym (walk_of_coded file picks e).stored)
        (subst (λ (f : Shape). AllZip (Means f) stored list) (sym same_shape) e.stored.meant)

    pub comes_back : Plain g form' file
    comes_back = record { sounds = list; each = meant; written = sym (ap (λ w. decoded_with w g form') joined_is ∙ with_sound) }

    pub alone : (other : List ℕ) → Plain g form' other → other ≡ file
    alone other o =
        let bytes = subst (AllByRecursion AreBytes) (sym (walk_of_coded file picks e).stored) e.stored.bytes in
        let same = one_meaning (shape form') (frames_of g form') o.sounds list (subst IsShape (sym same_shape) e.shape) bytes o.each meant in
        o.written ∙ ap (λ ss. decoded ss g form') same ∙ ap (λ w. decoded_with w g form') joined_is ∙ with_sound

pub restoring : RestoringLaw
restoring file picks plain_file are =
    let e = encoded_is file picks plain_file are in
    (comes_back file picks e, alone file picks e)
