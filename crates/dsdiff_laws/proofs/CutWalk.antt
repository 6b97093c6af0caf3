-- The walk of what cutting writes finds the frames that were asked for, its one index is that walk, and it is bytes.
use Rattle.std.proofs.Common.{◌≡◌, inl, inr, ℕ, ◌+◌, ◌-◌, ◌*◌, ◌^◌, ◌<◌, ◌≤◌, Bool, true, false, List, [], ◌∷◌, ◌++◌, length, take, drop, Option}
use Rattle.std.proofs.Common.{Some, None, refl, sym, ap, subst, ◌∙◌, arith, length-append, append_assoc, append-nil}
use Rattle.dst_spec.specs.Bits.{AreBytes}
use Rattle.dst_spec.specs.Sample.{Shape, sound_bytes}
use Rattle.dst_spec.proofs.Lists.{all_append, all_take, all_drop, AreBytes-take, AreBytes-drop}
use Rattle.dsdiff_spec.specs.Bytes.{◌is◌}
use Rattle.dsdiff_spec.specs.Chunks.{Chunk, bytes_of_chunk, body_place, body_end, named}
use Rattle.dsdiff_spec.specs.Form.{Origin, Form, shape, sound_bytes_of, longest_frame}
use Rattle.dsdiff_spec.specs.Parts.{form_end, behind_form}
use Rattle.dsdiff_spec.specs.Rules.{accepted}
use Rattle.dsdiff_spec.specs.Walk.{compare_fault}
use Rattle.dsdiff_spec.specs.Written.{frte}
use Rattle.dsdiff_spec.specs.Cut.{frame_place, is_last}
use Rattle.dsdiff_spec.specs.Decoded.{frames_of}
use Rattle.dsdiff_spec.specs.Laws.{cut_file, those_from_to}
use Rattle.dsdiff_spec.proofs.CodedFiles.{longest_sound_of_frame}
use Rattle.dsdiff_spec.proofs.Tiling.{heads_from}
use Rattle.dsdiff_spec.proofs.ByteLists.{bytes_joined}
use Rattle.dsdiff_laws.proofs.Composed.{AreChunks}
use Rattle.dsdiff_laws.proofs.Filed.{IsFile, body_bytes}
use Rattle.dsdiff_laws.proofs.Order.{parts_are}
use Rattle.dsdiff_laws.proofs.Places.{Lacks, one_named, either_lacks, head_behind, stands_behind}
use Rattle.dsdiff_laws.proofs.PlainParts.{added_id}
use Rattle.dsdiff_laws.proofs.ChunkWalk.{frames_among, entries_among, AreShortBodies, HasChunks, FindsFrames, frames_are_found}
use Rattle.dsdiff_laws.proofs.CodedChunks.{dsti_chunk, origin_body, origin_piece}
use Rattle.dsdiff_laws.proofs.CodedFile.{length-body, length-cons, length-parts}
use Rattle.dsdiff_laws.proofs.CodedIndex.{HasIndex, index_is_walk, entries_among_are_numbers}
use Rattle.dsdiff_laws.proofs.BehindFrte.{behind_frte}
use Rattle.dsdiff_laws.proofs.MiddleFrames.{length-entries_among, frames_in_middle, bodies_of_middle}
use Rattle.dsdiff_laws.proofs.CutOrigin.{size_left, pad_left}
use Rattle.dsdiff_laws.proofs.CutRules.{CutParts, KeptOf}
use Rattle.dsdiff_laws.proofs.Passed.{passed, passed_lack, passed_bytes}
use Rattle.dsdiff_laws.proofs.CutChunks.{origin_chunks, m, dst, es, origin_added, behind, fits, frames_bytes, made}
use Rattle.dsdiff_laws.proofs.CutForm.{same_shape, frames_is, sound_is, heads_are, rules_hold, is_coded}
use Rattle.dsdiff_laws.proofs.Answered.{IsAnswered}
use Rattle.dsdiff_laws.proofs.Accepting.{all_parts, written_bytes, body_parts, body_joined, index_bytes, four, frte_bytes, origin_bytes}
use Rattle.dsdiff_laws.proofs.Accepting.{form_is_bytes, form_body_bytes}

both_are : (q : List ℕ → Bool) (cs ds : List Chunk) → AreChunks q (cs ++ ds) → AreChunks q cs × AreChunks q ds
both_are q cs [] all = (subst (AreChunks q) (append-nil cs) all, tt)
both_are q cs (d ∷ ds) all = parts_are q cs ds d all

module _ (file : List ℕ) (first last : ℕ) (le : first ≤ last) (c : CutParts file first last)
  where
    abbrev form : Form
    form = accepted file

    abbrev g : List ℕ
    g = cut_file file first last

    abbrev mid : List Chunk
    mid = (m file first last le c).mid

    abbrev pre : List Chunk
    pre = c.p.version ∷ passed c.p.front ++ c.p.prop ∷ passed c.p.middle

    -- ---- the walk
    parts : c.walked.inner ≡ (m file first last le c).before ++ (mid ++ (m file first last le c).behind)
    parts = (m file first last le c).parts

    mid_are : AreChunks (λ id. true) mid
    mid_are =
        let all = both_are (λ id. true) (m file first last le c).before (mid ++ (m file first last le c).behind)
        (subst (AreChunks (λ id. true)) parts c.walked.stands.are) in
        (both_are (λ id. true) mid (m file first last le c).behind all.1).0

    stand : HasChunks g (body_end (accepted g).sound) (body_place (accepted g).sound + 18) mid
    stand =
        let b = behind_frte g pre (behind file first last le c) (last + 1 - first) (body_bytes mid) (made file first last le c) in
        let end = ap body_end (sound_is file first last le c) in
        let place = ap body_place (sound_is file first last le c) in
        record {
          front = b.front;
          rest = b.rest;
          are = mid_are;
          few = omega (
            arith,
            c.walked.stands.few,
            ap length parts,
            length-append (m file first last le c).before (mid ++ (m file first last le c).behind),
            length-append mid (m file first last le c).behind,
          );
          bytes = b.bytes;
          at_place = omega (arith, b.at_place, place);
          ends = omega (arith, b.ends, end, place);
        }

    short : AreShortBodies (longest_frame form) (frames_among mid)
    short =
        subst (AreShortBodies (longest_frame form)) (frames_in_middle c.walked.inner first last (m file first last le c))
        (all_take (λ (d : Chunk). length d.body ≤ longest_frame form) (last + 1 - first) (drop first (frames_among c.walked.inner))
        (all_drop (λ (d : Chunk). length d.body ≤ longest_frame form) first (frames_among c.walked.inner) c.walked.short))

    same_longest : longest_frame (accepted g) ≡ longest_frame form
    same_longest = ap (λ (f : Shape). 2 * (sound_bytes f + 1)) (same_shape file first last le c)

    frames : (accepted g).frames ≡ last + 1 - first
    frames = frames_is file first last le c

    few : (accepted g).frames ≤ 1000000
    few = omega (arith, frames, c.rules.there, c.count, c.few)

    pub walk : FindsFrames (cut_file file first last) (accepted (cut_file file first last)) (m file first last le c).mid
    walk =
        frames_are_found g (accepted g) mid (longest_frame form) short (omega (arith, same_longest)) ((m file first last le c).count ∙ sym frames) few stand

    pub frames_are : frames_of (cut_file file first last) (accepted (cut_file file first last)) ≡ those_from_to first last (frames_of file (accepted file))
    frames_are =
        walk.stored ∙ sym (ap (λ ws. take (last + 1 - first) (drop first ws)) c.walked.frames
        ∙ bodies_of_middle c.walked.inner first last (m file first last le c))

    -- ---- the index
    abbrev index : Chunk
    index = dsti_chunk (es file first last le c)

    abbrev rest : List Chunk
    rest = origin_added file first last le c ++ passed c.p.last

    no_index : (cs : List Chunk) → Lacks added_id cs → Lacks (λ id. id is "DSTI") cs
    no_index cs l = (either_lacks (λ id. id is "DSTI") (λ id. id is "KEPT") cs l).0

    pre_lacks : Lacks (λ id. id is "DSTI") (pre ++ dst file first last le c ∷ [])
    pre_lacks =
        all_append (λ (d : Chunk). (d.id is "DSTI") ≡ false) pre (dst file first last le c ∷ [])
        (all_append (λ (d : Chunk). (d.id is "DSTI") ≡ false) (c.p.version ∷ passed c.p.front) (c.p.prop ∷ passed c.p.middle)
        (ap (λ w. w is "DSTI") c.p.version_id, no_index (passed c.p.front) (passed_lack c.p.front))
        (ap (λ w. w is "DSTI") c.p.is_prop, no_index (passed c.p.middle) (passed_lack c.p.middle)))
        (refl, tt)

    rest_lacks : Lacks (λ id. id is "DSTI") rest
    rest_lacks =
        all_append (λ (d : Chunk). (d.id is "DSTI") ≡ false) (origin_added file first last le c) (passed c.p.last) (by_origin form.origin)
        (no_index (passed c.p.last) (passed_lack c.p.last))
      where
        by_origin : (o : Option Origin) → Lacks (λ id. id is "DSTI") (origin_chunks (is_last form last) (sound_bytes_of form) first last o)
        by_origin None = tt
        by_origin (Some o) = (refl, tt)

    regrouped : pre ++ dst file first last le c ∷ behind file first last le c ≡ (pre ++ dst file first last le c ∷ []) ++ index ∷ rest
    regrouped = sym (append_assoc pre (dst file first last le c ∷ []) (index ∷ rest))

    has_index : HasIndex g (accepted g) (es file first last le c)
    has_index =
        let size = fits file first last le c in
        let d = dst file first last le c in
        let long = length-body pre (d ∷ behind file first last le c) in
        let first_one = length-cons d (behind file first last le c) in
        let inside = length-parts d in
        let body = length-append (frte (last + 1 - first)) (body_bytes mid) in
        let most = longest_sound_of_frame (shape form) c.shape in
        record {
          head = head_behind (pre ++ d ∷ []) index;
          end = form_end g;
          one = ap (named "DSTI") (heads_are file first last le c ∙ ap (heads_from 16) regrouped)
              ∙ one_named (λ id. id is "DSTI") (pre ++ d ∷ []) rest index pre_lacks refl rest_lacks;
          holds = stands_behind g (pre ++ d ∷ []) rest index [] (subst (λ cs. IsFile g cs []) regrouped (made file first last le c));
          numbers = entries_among_are_numbers (16 + length (body_bytes pre) + 12 + 18) (2 ^ 50 + 100) (longest_frame form) mid mid_are short
              (omega (arith, most)) (omega (arith, size, long, first_one, inside, body)) (omega arith);
          count = length-entries_among (16 + length (body_bytes pre) + 12 + 18) mid ∙ (m file first last le c).count ∙ sym frames;
        }

    compared : compare_fault g (accepted g) ≡ None
    compared =
        index_is_walk g (accepted g) (es file first last le c) has_index
        (walk.entries ∙ ap (λ n. entries_among (n + 18) mid) (ap body_place (sound_is file first last le c)))

    pub is_answered : IsAnswered (cut_file file first last)
    is_answered = record {
      rules = rules_hold file first last le c;
      is_coded = is_coded file first last le c;
      walked = walk.none;
      found = walk.heads;
      head = has_index.head;
      one = has_index.one;
      compared = compared;
    }

    -- ---- it is bytes
    kept_bytes : (o : Option Origin) → ((k : Origin) → o ≡ Some k → AreBytes k.cmpr × (k.pad < 256)) →
        AreBytes (body_bytes (origin_chunks (is_last form last) (sound_bytes_of form) first last o))
    kept_bytes None are = tt
    kept_bytes (Some k) are =
        let size = size_left (is_last form last) (sound_bytes_of form) k first last in
        let known = are k refl in
        bytes_joined (bytes_of_chunk (origin_piece size (pad_left (is_last form last) k) k.cmpr [])) []
        (written_bytes "KEPT" (origin_body size (pad_left (is_last form last) k) k.cmpr []) 0
        (four 75 69 80 84 (omega arith) (omega arith) (omega arith) (omega arith))
        (origin_bytes size (pad_left (is_last form last) k) k.cmpr [] (by_last (is_last form last) known.1) known.0 tt) (omega arith)) tt
      where
        by_last : (b : Bool) → k.pad < 256 → pad_left b k < 256
        by_last true l = l
        by_last false l = omega arith

    said_bytes : {channels n count : ℕ} → KeptOf channels n count form.origin → (k : Origin) → form.origin ≡ Some k → AreBytes k.cmpr × (k.pad < 256)
    said_bytes (inl none) k e = absurd (let no : ◌≡◌ {A = Option Origin} None (Some k) = sym none ∙ e in cc)
    said_bytes (inr (o, says, of)) k e =
        let same : ◌≡◌ {A = Option Origin} (Some o) (Some k) = sym says ∙ e in
        let equal : o ≡ k = cc in
        subst (λ (i : Origin). AreBytes i.cmpr × (i.pad < 256)) equal (of.cmpr_bytes, of.pad_byte)

    pub is_bytes : AreBytes (cut_file file first last)
    is_bytes =
        let old = c.p.version ∷ c.p.front ++ c.p.prop ∷ c.p.middle in
        let body = form_body_bytes file (old ++ c.p.sound ∷ c.p.last) (behind_form file) c.bytes c.p.formed.bytes in
        let outer = body_parts old (c.p.sound ∷ c.p.last) body in
        let last_ones = (all_parts (bytes_of_chunk c.p.sound) (body_bytes c.p.last) outer.1).1 in
        let inner = body_parts (c.p.version ∷ c.p.front) (c.p.prop ∷ c.p.middle) outer.0 in
        let version = all_parts (bytes_of_chunk c.p.version) (body_bytes c.p.front) inner.0 in
        let prop = all_parts (bytes_of_chunk c.p.prop) (body_bytes c.p.middle) inner.1 in
        let before = body_joined (c.p.version ∷ passed c.p.front) (c.p.prop ∷ passed c.p.middle)
        (bytes_joined (bytes_of_chunk c.p.version) (body_bytes (passed c.p.front)) version.0 (passed_bytes c.p.front version.1))
        (bytes_joined (bytes_of_chunk c.p.prop) (body_bytes (passed c.p.middle)) prop.0 (passed_bytes c.p.middle prop.1)) in
        let mid_bytes : AreBytes (body_bytes mid) = subst AreBytes (frames_bytes file first last le c)
        (AreBytes-take _ (drop (frame_place file form first) file) (AreBytes-drop (frame_place file form first) file c.bytes)) in
        let sound = written_bytes "DST " (frte (last + 1 - first) ++ body_bytes mid) 0
        (four 68 83 84 32 (omega arith) (omega arith) (omega arith) (omega arith))
        (bytes_joined (frte (last + 1 - first)) (body_bytes mid) (frte_bytes (last + 1 - first)) mid_bytes) (omega arith) in
        let entries = written_bytes "DSTI" index.body 0 (four 68 83 84 73 (omega arith) (omega arith) (omega arith) (omega arith))
        (index_bytes (es file first last le c)) (omega arith) in
        let others = body_joined (origin_added file first last le c) (passed c.p.last) (kept_bytes form.origin (said_bytes c.kept))
        (passed_bytes c.p.last last_ones) in
        let all = body_joined pre (dst file first last le c ∷ behind file first last le c) before
        (bytes_joined (bytes_of_chunk (dst file first last le c)) (body_bytes (behind file first last le c)) sound
        (bytes_joined (bytes_of_chunk index) (body_bytes rest) entries others)) in
        form_is_bytes g (pre ++ dst file first last le c ∷ behind file first last le c) (made file first last le c).bytes all
