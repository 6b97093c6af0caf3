-- What cutting writes is a form of these chunks: those that are passed on, and around frames of the old `DST ` a new `DST `, `DSTI`, and
-- `KEPT` where there was one.
use Rattle.std.proofs.Common.{◌≡◌, inl, inr, ℕ, ◌+◌, ◌-◌, ◌*◌, ◌^◌, ◌<◌, ◌≤◌, ◌==◌, Bool, true, false, if◌then◌else◌, List, [], ◌∷◌, ◌++◌}
use Rattle.std.proofs.Common.{length, take, drop, map, Option, Some, None, refl, sym, ap, ap₂, subst, ◌∙◌, arith, length-append, append_assoc, append-nil}
use Rattle.std.specs.List.{AllByRecursion, concat}
use Rattle.std.proofs.lemmas.List.{map-append, length-map}
use Rattle.std.proofs.lemmas.List.Concat.{flat_map-append}
use Rattle.dsdiff_spec.specs.Bytes.{between}
use Rattle.dsdiff_spec.specs.Chunks.{Chunk, bytes_of_chunk, IsChunk, body_place, body_end}
use Rattle.dsdiff_spec.specs.Form.{Origin, Form, sound_bytes_of}
use Rattle.dsdiff_spec.specs.Parts.{prop, frame_count, channel_count, sound_bytes_in}
use Rattle.dsdiff_spec.specs.Rules.{accepted}
use Rattle.dsdiff_spec.specs.Walk.{Entry, entry, entries}
use Rattle.dsdiff_spec.specs.Written.{form_of, chunk, frte, dsti, origin_chunk, before_sound, behind_sound, copied}
use Rattle.dsdiff_spec.specs.Coded.{first_place}
use Rattle.dsdiff_spec.specs.Cut.{frame_place, is_last, cut_frames, cut_entries, cut_origin, cut_chunks}
use Rattle.dsdiff_spec.specs.Laws.{cut_file}
use Rattle.dsdiff_laws.proofs.Composed.{AreChunks, others_are}
use Rattle.dsdiff_laws.proofs.Standing.{part_stands}
use Rattle.dsdiff_laws.proofs.Filed.{IsFile, may_lack, body_bytes, concat_bytes, written_is_file}
use Rattle.dsdiff_laws.proofs.ChunkWalk.{frames_among, entries_among}
use Rattle.dsdiff_laws.proofs.CodedChunks.{dsti_chunk, origin_piece, origin_body}
use Rattle.dsdiff_laws.proofs.CodedFile.{is_whole, whole_before, split_whole, join_whole, are_joined, length-body, length-cons, length-parts, length-origin}
use Rattle.dsdiff_laws.proofs.BehindFrte.{sound_chunk}
use Rattle.dsdiff_laws.proofs.MiddleFrames.{IsMiddle, middle, entries_of_middle, moved}
use Rattle.dsdiff_laws.proofs.CutOrigin.{size_left, pad_left}
use Rattle.dsdiff_laws.proofs.CutRules.{CutParts, KeptOf}
use Rattle.dsdiff_laws.proofs.Passed.{passed, all_passed, passed_are, before_passed, behind_passed}

abbrev pub origin_chunks : Bool → ℕ → ℕ → ℕ → Option Origin → List Chunk
origin_chunks final n first last None = []
origin_chunks final n first last (Some o) = origin_piece (size_left final n o first last) (pad_left final o) o.cmpr [] ∷ []

module _ (file : List ℕ) (first last : ℕ) (le : first ≤ last) (c : CutParts file first last)
  where
    abbrev form : Form
    form = accepted file

    abbrev place : ℕ
    place = body_place (accepted file).sound + 18

    there : last < length (frames_among c.walked.inner)
    there = omega (arith, c.rules.there, c.walked.count)

    pub m : IsMiddle c.walked.inner first last
    m = middle c.walked.inner first last le there

    -- ---- the frames
    starts : frame_place file form first ≡ place + length (body_bytes m.before)
    starts =
        let e : (entry (entries file form) first).offset ≡ place + length (body_bytes m.before) + 12 =
        ap (λ es. (entry es first).offset) c.walked.entries ∙ m.begins place in
        omega (arith, e)

    stops : (if is_last form last then body_end form.sound else frame_place file form (last + 1))
        ≡ place + length (body_bytes m.before) + length (body_bytes m.mid)
    stops =
        ap₂ (λ (n e : ℕ). if n == last + 1 then e else frame_place file form (last + 1)) (sym c.walked.count) c.walked.stands.ends
        ∙ ap (λ es. if length (frames_among c.walked.inner) == last + 1 then place + length (body_bytes c.walked.inner)
        else (entry es (last + 1)).offset - 12) c.walked.entries
        ∙ m.ends place

    pub frames_bytes : cut_frames file form first last ≡ body_bytes m.mid
    frames_bytes =
        let w = c.walked.stands in
        let before = body_bytes m.before in
        let mid = body_bytes m.mid in
        let split : body_bytes c.walked.inner ≡ before ++ (mid ++ body_bytes m.behind) =
        ap body_bytes m.parts ∙ flat_map-append bytes_of_chunk m.before (m.mid ++ m.behind)
        ∙ ap (λ v. before ++ v) (flat_map-append bytes_of_chunk m.mid m.behind) in
        let whole : file ≡ (w.front ++ before) ++ mid ++ (body_bytes m.behind ++ w.rest) =
        w.bytes ∙ ap (λ v. w.front ++ v ++ w.rest) split ∙ regroup w.front before mid (body_bytes m.behind) w.rest in
        let start : frame_place file form first ≡ length (w.front ++ before) = omega (arith, starts, w.at_place, length-append w.front before) in
        ap₂ (λ (a b : ℕ). between file a b) start stops
        ∙ ap (λ v. between v (length (w.front ++ before)) (place + length before + length mid)) whole
        ∙ part_stands (w.front ++ before) mid (body_bytes m.behind ++ w.rest) (place + length before + length mid)
        (omega (arith, w.at_place, length-append w.front before))
      where
        regroup : (a b c d e : List ℕ) → a ++ (b ++ (c ++ d)) ++ e ≡ (a ++ b) ++ c ++ (d ++ e)
        regroup a b c d e = simp append_assoc refl

    -- ---- the chunks
    abbrev pub pre : List Chunk
    pre = c.p.version ∷ passed c.p.front ++ c.p.prop ∷ passed c.p.middle

    abbrev pub count : ℕ
    count = last + 1 - first

    abbrev pub dst : Chunk
    dst = sound_chunk (last + 1 - first) (body_bytes m.mid)

    abbrev pub first_at : ℕ
    first_at = 16 + length (body_bytes pre) + 12 + 18

    abbrev pub es : List Entry
    es = entries_among first_at m.mid

    abbrev pub origin_added : List Chunk
    origin_added = origin_chunks (is_last (accepted file) last) (sound_bytes_of (accepted file)) first last (accepted file).origin

    abbrev pub behind : List Chunk
    behind = dsti_chunk es ∷ origin_added ++ passed c.p.last

    before_copied : copied file form (before_sound form) ≡ map bytes_of_chunk pre
    before_copied = before_passed file c.p

    place_of_frames : first_place (copied file form (before_sound form)) ≡ first_at
    place_of_frames = ap (λ ws. 16 + length (concat ws) + 12 + 18) before_copied ∙ ap (λ w. 16 + length w + 12 + 18) (concat_bytes pre)

    entries_moved : cut_entries file form first last (first_place (copied file form (before_sound form))) ≡ es
    entries_moved =
        let from = place + length (body_bytes m.before) in
        let move : ℕ → ℕ → Entry → Entry = λ a b e. record { offset = b + (e.offset - a); size = e.size } in
        ap₂ (λ (a b : ℕ). map (move a b) (take (last + 1 - first) (drop first (entries file form)))) starts place_of_frames
        ∙ ap (map (move from first_at)) (ap (λ xs. take (last + 1 - first) (drop first xs)) c.walked.entries
        ∙ entries_of_middle c.walked.inner first last place m ∙ ap (λ n. entries_among n m.mid) (no_more from))
        ∙ moved from first_at 0 m.mid ∙ ap (λ n. entries_among n m.mid) (sym (no_more first_at))
      where
        no_more : (n : ℕ) → n ≡ n + 0
        no_more n = omega arith

    origin_is : (o : Option Origin) → cut_origin form first last o ≡ map bytes_of_chunk (origin_chunks (is_last form last) (sound_bytes_of form) first last o)
    origin_is None = refl
    origin_is (Some o) = by_last (is_last form last)
      where
        by_last : (b : Bool) →
            (if b then origin_chunk (o.sound - sound_bytes_of form * first) o.pad o.cmpr []
            else origin_chunk (sound_bytes_of form * (last + 1 - first)) 0 o.cmpr [])
            ∷ [] ≡ origin_chunk (size_left b (sound_bytes_of form) o first last) (pad_left b o) o.cmpr [] ∷ []
        by_last true = refl
        by_last false = refl

    pub chunks_are : cut_chunks file form first last ≡ map bytes_of_chunk (pre ++ dst ∷ behind)
    unfolding cut_chunks
    chunks_are =
        let d : List ℕ → List ℕ = λ w. chunk "DST " (frte (last + 1 - first) ++ w) in
        let three : List (List ℕ) = bytes_of_chunk dst ∷ bytes_of_chunk (dsti_chunk es) ∷ map bytes_of_chunk origin_added in
        let behind_copied : copied file form (behind_sound form) ≡ map bytes_of_chunk (passed c.p.last) = behind_passed file c.p in
        ap₂ (λ (w : List ℕ) (i : List ℕ). copied file form (before_sound form) ++ d w ∷ i ∷ cut_origin form first last form.origin
        ++ copied file form (behind_sound form)) frames_bytes (ap dsti entries_moved)
        ∙ ap (λ ks. copied file form (before_sound form) ++ bytes_of_chunk dst ∷ bytes_of_chunk (dsti_chunk es) ∷ ks ++ copied file form (behind_sound form))
        (origin_is form.origin)
        ∙ ap₂ (λ (a b : List (List ℕ)). a ++ three ++ b) before_copied behind_copied
        ∙ joined pre origin_added (passed c.p.last)
      where
        joined : (a k l : List Chunk) → map bytes_of_chunk a ++ (bytes_of_chunk dst ∷ bytes_of_chunk (dsti_chunk es) ∷ map bytes_of_chunk k)
            ++ map bytes_of_chunk l ≡ map bytes_of_chunk (a ++ dst ∷ dsti_chunk es ∷ (k ++ l))
        joined a k l =
            append_assoc (map bytes_of_chunk a) _ (map bytes_of_chunk l)
            ∙ ap (λ ws. map bytes_of_chunk a ++ bytes_of_chunk dst ∷ bytes_of_chunk (dsti_chunk es) ∷ ws) (sym (map-append bytes_of_chunk k l))
            ∙ sym (map-append bytes_of_chunk a (dst ∷ dsti_chunk es ∷ (k ++ l)))

    -- ---- they make a form
    all_bytes : concat (cut_chunks file form first last) ≡ body_bytes (pre ++ dst ∷ behind)
    all_bytes = ap concat chunks_are ∙ concat_bytes (pre ++ dst ∷ behind)

    pub fits : 4 + length (body_bytes (pre ++ dst ∷ behind)) ≤ 2 ^ 50
    fits = omega (arith, c.rules.size, ap length all_bytes)

    few : length (pre ++ dst ∷ behind) ≤ 1024
    few = omega (arith, c.rules.few, ap length chunks_are, length-map (pre ++ dst ∷ behind) bytes_of_chunk)

    old_whole : AllByRecursion IsChunk (c.p.version ∷ c.p.front ++ c.p.prop ∷ c.p.middle) × AreChunks may_lack (c.p.sound ∷ c.p.last)
    old_whole = whole_before may_lack (c.p.version ∷ c.p.front ++ c.p.prop ∷ c.p.middle) c.p.last c.p.sound c.p.formed.are

    pre_whole : AllByRecursion IsChunk pre
    pre_whole =
        let parts = split_whole (c.p.version ∷ c.p.front) (c.p.prop ∷ c.p.middle) old_whole.0 in
        join_whole (c.p.version ∷ passed c.p.front) (c.p.prop ∷ passed c.p.middle) (parts.0.0, all_passed IsChunk c.p.front parts.0.1)
        (parts.1.0, all_passed IsChunk c.p.middle parts.1.1)

    inside : length dst.body + length (dsti_chunk es).body ≤ length (body_bytes (pre ++ dst ∷ behind))
    inside =
        omega (
          arith,
          length-body pre (dst ∷ behind),
          length-cons dst behind,
          length-cons (dsti_chunk es) (origin_added ++ passed c.p.last),
          length-parts dst,
          length-parts (dsti_chunk es),
        )

    kept_whole : (o : Option Origin) → ((k : Origin) → o ≡ Some k → length k.cmpr ≤ 65536) →
        AllByRecursion IsChunk (origin_chunks (is_last form last) (sound_bytes_of form) first last o)
    kept_whole None short = tt
    kept_whole (Some k) short =
        let size = size_left (is_last form last) (sound_bytes_of form) k first last in
        let pad = pad_left (is_last form last) k in
        let most = short k refl in
        (is_whole "KEPT" (origin_body size pad k.cmpr []) 0 refl (omega (arith, length-origin size pad k.cmpr [], most)), tt)

    abbrev Kept : Type 0
    Kept = KeptOf (channel_count (prop file)) (sound_bytes_in (prop file)) (frame_count file) (accepted file).origin

    short_cmpr : Kept → (k : Origin) → form.origin ≡ Some k → length k.cmpr ≤ 65536
    short_cmpr (inl none) k e = absurd (let no : ◌≡◌ {A = Option Origin} None (Some k) = sym none ∙ e in cc)
    short_cmpr (inr (o, is, of)) k e =
        let same : ◌≡◌ {A = Option Origin} (Some o) (Some k) = sym is ∙ e in
        let equal : o ≡ k = cc in
        subst (λ (i : Origin). length i.cmpr ≤ 65536) equal of.cmpr_most

    new_are : AreChunks may_lack (pre ++ dst ∷ behind)
    new_are =
        let three : AllByRecursion IsChunk (dst ∷ dsti_chunk es ∷ origin_added) = (
          is_whole "DST " dst.body 0 refl (omega (arith, fits, inside)),
          (is_whole "DSTI" (dsti_chunk es).body 0 refl (omega (arith, fits, inside)), kept_whole form.origin (short_cmpr c.kept)),
        ) in
        are_joined may_lack pre (dst ∷ behind) pre_whole
        (are_joined may_lack (dst ∷ dsti_chunk es ∷ origin_added) (passed c.p.last) three
        (passed_are may_lack c.p.last (others_are may_lack c.p.sound c.p.last old_whole.1)))

    pub made : IsFile (cut_file file first last) (pre ++ dst ∷ behind) []
    made =
        let cs = pre ++ dst ∷ behind in
        subst (λ w. IsFile w cs []) (append-nil (form_of (map bytes_of_chunk cs)) ∙ ap form_of (sym chunks_are))
        (written_is_file cs [] new_are few fits)
