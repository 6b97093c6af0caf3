-- The two size fields: what stands around them, with zeros in them and with the sizes.
use Rattle.std.proofs.Common.{◌≡◌, inr, ℕ, ◌+◌, ◌*◌, ◌≤◌, List, [], ◌∷◌, ◌++◌, length, map, take, drop, flat_map, replicate, Option, Some, None}
use Rattle.std.proofs.Common.{Result, Ok, Err}
use Rattle.std.proofs.Common.{refl, sym, ap, subst, ◌∙◌, arith, length-append, append_assoc, append-nil, length-drop}
use Rattle.std.specs.Prelude.{codes}
use Rattle.std.specs.List.{concat}
use Rattle.std.proofs.lemmas.List.{take_at, drop_at, length-take, take-append-drop}
use Rattle.std.proofs.lemmas.List.Folds.{concat-append}
use Rattle.byteorder.specs.Endian.{big_bytes}
use Rattle.byteorder.specs.Numbers.{length-bytes_high_first}
use Rattle.dst_streams.specs.Told.{written_over, IsOpenIn, IsSameOutside}
use Rattle.dsdiff_spec.specs.Form.{Form}
use Rattle.dsdiff_spec.specs.Written.{frte, dstf, dsti, entries_from, behind_sound, copied_with, cmpr_coded}
use Rattle.dsdiff_spec.specs.Coded.{coded_before, coded_with, dst, first_place, origin_of_plain}
use Rattle.dst_write.specs.Layout.{before, behind, end, form_size, front, opening, sound_opening, sound_size, unsized}
use Rattle.dst_write.specs.Unfinished.{form_size_place, SizesEnd}
use Rattle.dst_commands.proofs.ChunkLengths.{even_chunk, length-frte}
use Rattle.dst_write.proofs.BySize.{entries_are, frames_size_is, half_of_frames, length-dsti}

-- ---- a field between two parts
pub put_over : (p q r new : List ℕ) (place : ℕ) → length p ≡ place → length new ≡ length q →
    take place (p ++ (q ++ r)) ++ new ++ drop (place + length new) (p ++ (q ++ r)) ≡ p ++ (new ++ r)
put_over p q r new place is long =
    let both : length (p ++ q) ≡ place + length new = omega (arith, length-append p q) in
    let back : drop (place + length new) (p ++ (q ++ r)) ≡ r =
    ap (drop (place + length new)) (sym (append_assoc p q r)) ∙ drop_at (p ++ q) r (place + length new) both in
    ap (λ w. w ++ new ++ drop (place + length new) (p ++ (q ++ r))) (take_at p (q ++ r) place is)
    ∙ ap (λ w. p ++ new ++ w) back
    ∙ append_assoc p new r

pub same_around : (p q q' r : List ℕ) (place : ℕ) → length p ≡ place → length q ≡ 8 → length q' ≡ 8 → IsSameOutside place 8 (p ++ (q ++ r)) (p ++ (q' ++ r))
same_around p q q' r place is long long' =
    let parts = length-append p q in
    let parts' = length-append p q' in
    record {
      before = take_at p (q' ++ r) place is ∙ sym (take_at p (q ++ r) place is);
      after =
          ap (drop (place + 8)) (sym (append_assoc p q' r))
          ∙ drop_at (p ++ q') r (place + 8) (omega arith)
          ∙ sym (ap (drop (place + 8)) (sym (append_assoc p q r)) ∙ drop_at (p ++ q) r (place + 8) (omega arith));
      length_is = omega (arith, length-append p (q ++ r), length-append p (q' ++ r), length-append q r, length-append q' r);
    }

pub outside_then : (place len : ℕ) (a b c : List ℕ) → IsSameOutside place len a b → IsSameOutside place len b c → IsSameOutside place len a c
outside_then place len a b c h k = record { before = k.before ∙ h.before; after = k.after ∙ h.after; length_is = k.length_is ∙ h.length_is }

-- ---- the whole file around its two fields
abbrev pub around : List ℕ → List ℕ → List ℕ → List ℕ → List ℕ
around size b sound c = codes "FRM8" ++ (size ++ (b ++ (sound ++ c)))

-- between the two fields, and behind the second one
abbrev pub between_fields : List ℕ → Form → List ℕ
between_fields file form = codes "DSD " ++ (before file form ++ codes "DST ")

abbrev pub behind_fields : List (List ℕ) → List ℕ → Form → List ℕ
behind_fields frames file form = frte form.frames ++ (flat_map dstf frames ++ end (map length frames) file form)

regroup : (a z b1 b2 b3 y f s e : List ℕ) → a ++ z ++ b1 ++ b2 ++ (b3 ++ y ++ f) ++ s ++ e ≡ a ++ (z ++ ((b1 ++ (b2 ++ b3)) ++ (y ++ (f ++ (s ++ e)))))
regroup a z b1 b2 b3 y f s e = simp append_assoc refl

pub unsized_is : (frames : List (List ℕ)) (file : List ℕ) (form : Form) →
    unsized frames file form ≡ around (big_bytes 8 0) (between_fields file form) (big_bytes 8 0) (behind_fields frames file form)
unsized_is frames file form =
    regroup (codes "FRM8") (big_bytes 8 0) (codes "DSD ") (before file form) (codes "DST ") (big_bytes 8 0) (frte form.frames) (flat_map dstf frames)
    (end (map length frames) file form)

-- ---- the coded file
regroup_chunks : (a z b1 b2 b3 y f s i o e : List ℕ) →
    a ++ z ++ b1 ++ (b2 ++ ((b3 ++ y ++ (f ++ s)) ++ (i ++ (o ++ []))) ++ e) ≡ a ++ (z ++ ((b1 ++ (b2 ++ b3)) ++ (y ++ (f ++ (s ++ (i ++ o ++ e))))))
regroup_chunks a z b1 b2 b3 y f s i o e = simp (append_assoc, append-nil) refl

abbrev sizes_of : List (List ℕ) → List ℕ
sizes_of frames = map length frames

length-dst_body : (frames : List (List ℕ)) → length (frte (length frames) ++ flat_map dstf frames) ≡ sound_size (sizes_of frames)
length-dst_body frames = omega (arith, length-append (frte (length frames)) (flat_map dstf frames), length-frte (length frames), frames_size_is frames)

dst_is : (frames : List (List ℕ)) → dst frames ≡ codes "DST " ++ big_bytes 8 (sound_size (sizes_of frames)) ++ (frte (length frames) ++ flat_map dstf frames)
dst_is frames =
    let half = half_of_frames (sizes_of frames) in
    let long = length-dst_body frames in
    even_chunk "DST " (frte (length frames) ++ flat_map dstf frames) (9 + half.0) (omega (arith, long, half.1))
    ∙ ap (λ n. codes "DST " ++ big_bytes 8 n ++ (frte (length frames) ++ flat_map dstf frames)) long

abbrev chunks_of : List (List ℕ) → List ℕ → Form → List (List ℕ)
chunks_of frames file form =
    coded_before file form
    ++ dst frames ∷ dsti (entries_from (first_place (coded_before file form)) frames) ∷ origin_of_plain form ∷ []
    ++ copied_with cmpr_coded file form (behind_sound form)

abbrev index_of : List (List ℕ) → List ℕ → Form → List ℕ
index_of frames file form = dsti (entries_from (first_place (coded_before file form)) frames)

chunks_are : (frames : List (List ℕ)) (file : List ℕ) (form : Form) →
    concat (chunks_of frames file form) ≡ before file form ++ (dst frames ++ (index_of frames file form ++ (origin_of_plain form ++ []))) ++ behind file form
chunks_are frames file form =
    let three : List (List ℕ) = dst frames ∷ index_of frames file form ∷ origin_of_plain form ∷ [] in
    concat-append (coded_before file form ++ three) (copied_with cmpr_coded file form (behind_sound form))
    ∙ ap (λ w. w ++ behind file form) (concat-append (coded_before file form) three)

length-index_of : (frames : List (List ℕ)) (file : List ℕ) (form : Form) → length (index_of frames file form) ≡ 12 + 12 * length (sizes_of frames)
length-index_of frames file form =
    ap (λ es. length (dsti es)) (sym (entries_are (first_place (coded_before file form)) frames)) ∙ length-dsti (first_place (coded_before file form))
    (sizes_of frames)

length-dst : (frames : List (List ℕ)) → length (dst frames) ≡ 12 + sound_size (sizes_of frames)
length-dst frames =
    let n = sound_size (sizes_of frames) in
    omega (
      arith,
      ap length (dst_is frames),
      length-append (codes "DST " ++ big_bytes 8 n) (frte (length frames) ++ flat_map dstf frames),
      length-append (codes "DST ") (big_bytes 8 n),
      length-bytes_high_first 8 n,
      length-dst_body frames,
    )

form_size_is : (frames : List (List ℕ)) (file : List ℕ) (form : Form) → 4 + length (concat (chunks_of frames file form)) ≡ form_size (sizes_of frames) file form
form_size_is frames file form =
    let index = index_of frames file form in
    let origin = origin_of_plain form in
    omega (
      arith,
      ap length (chunks_are frames file form),
      length-append (before file form ++ (dst frames ++ (index ++ (origin ++ [])))) (behind file form),
      length-append (before file form) (dst frames ++ (index ++ (origin ++ []))),
      length-append (dst frames) (index ++ (origin ++ [])),
      length-append index (origin ++ []),
      length-append {A = ℕ} origin [],
      length-dst frames,
      length-index_of frames file form,
    )

-- it has these sizes in its two fields
pub coded_is : (frames : List (List ℕ)) (file : List ℕ) (form : Form) → length frames ≡ form.frames →
    coded_with frames file form
    ≡ around (big_bytes 8 (form_size (sizes_of frames) file form)) (between_fields file form) (big_bytes 8 (sound_size (sizes_of frames)))
    (behind_fields frames file form)
unfolding coded_with
coded_is frames file form count =
    let size = big_bytes 8 (form_size (sizes_of frames) file form) in
    let sound = big_bytes 8 (sound_size (sizes_of frames)) in
    let head : List ℕ = codes "FRM8" ++ size ++ codes "DSD " in
    let place = first_place (coded_before file form) in
    ap (λ n. codes "FRM8" ++ big_bytes 8 n ++ codes "DSD " ++ concat (chunks_of frames file form)) (form_size_is frames file form)
    ∙ ap (λ w. head ++ w) (chunks_are frames file form)
    ∙ ap (λ w. head ++ (before file form ++ (w ++ (index_of frames file form ++ (origin_of_plain form ++ []))) ++ behind file form)) (dst_is frames)
    ∙ regroup_chunks (codes "FRM8") size (codes "DSD ") (before file form) (codes "DST ") sound (frte (length frames)) (flat_map dstf frames)
    (index_of frames file form) (origin_of_plain form) (behind file form)
    ∙ ap (λ n. around size (between_fields file form) sound
    (frte n ++ (flat_map dstf frames ++ (index_of frames file form ++ origin_of_plain form ++ behind file form)))) count
    ∙ ap (λ es. around size (between_fields file form) sound
    (frte form.frames ++ (flat_map dstf frames ++ (dsti es ++ origin_of_plain form ++ behind file form)))) (sym (entries_are place frames))

-- ---- places of the two fields
abbrev pub sound_place : List ℕ → Form → ℕ
sound_place file form = 20 + length (before file form)

length-between : (file : List ℕ) (form : Form) → length (between_fields file form) ≡ 8 + length (before file form)
length-between file form = omega (arith, length-append (codes "DSD ") (before file form ++ codes "DST "), length-append (before file form) (codes "DST "))

length-to_sound : (size : List ℕ) (file : List ℕ) (form : Form) → length size ≡ 8 →
    length (codes "FRM8" ++ (size ++ between_fields file form)) ≡ sound_place file form
length-to_sound size file form long =
    omega (
      arith,
      long,
      length-append (codes "FRM8") (size ++ between_fields file form),
      length-append size
          (between_fields file form),
      length-between file form,
    )

to_sound : (size b sound c : List ℕ) → around size b sound c ≡ (codes "FRM8" ++ (size ++ b)) ++ (sound ++ c)
to_sound size b sound c = sym (append_assoc (codes "FRM8") (size ++ b) (sound ++ c) ∙ ap (λ w. codes "FRM8" ++ w) (append_assoc size b (sound ++ c)))

pub length-front : (file : List ℕ) (form : Form) → length (front file form) ≡ 46 + length (before file form)
length-front file form =
    omega (
      arith,
      length-append (opening ++ before file form) (sound_opening form),
      length-append opening (before file form),
      length-append (codes "DST " ++ big_bytes 8 0) (frte form.frames),
      length-frte form.frames,
    )

-- the second field, and then the first, written over
pub sound_over : (size sound new c : List ℕ) (file : List ℕ) (form : Form) → length size ≡ 8 → length sound ≡ 8 → length new ≡ 8 →
    take (sound_place file form) (around size (between_fields file form) sound c) ++ new ++ drop (sound_place file form + length new)
    (around size (between_fields file form) sound c)
    ≡ around size (between_fields file form) new c
sound_over size sound new c file form long held fits =
    let b = between_fields file form in
    let place = sound_place file form in
    ap (λ w. take place w ++ new ++ drop (place + length new) w) (to_sound size b sound c)
    ∙ put_over (codes "FRM8" ++ (size ++ b)) sound c new place (length-to_sound size file form long) (omega (arith, held, fits))
    ∙ sym (to_sound size b new c)

pub size_over : (size new b sound c : List ℕ) → length size ≡ 8 → length new ≡ 8 →
    take 4 (around size b sound c) ++ new ++ drop (4 + length new) (around size b sound c) ≡ around new b sound c
size_over size new b sound c held fits = put_over (codes "FRM8") size (b ++ (sound ++ c)) new 4 refl (omega (arith, held, fits))

pub outside_sound : (size sound new c : List ℕ) (file : List ℕ) (form : Form) → length size ≡ 8 → length sound ≡ 8 → length new ≡ 8 →
    IsSameOutside (sound_place file form) 8 (around size (between_fields file form) sound c) (around size (between_fields file form) new c)
outside_sound size sound new c file form long held fits =
    let b = between_fields file form in
    let place = sound_place file form in
    subst (λ w. IsSameOutside place 8 w (around size b new c)) (sym (to_sound size b sound c))
    (subst (λ w. IsSameOutside place 8 ((codes "FRM8" ++ (size ++ b)) ++ (sound ++ c)) w) (sym (to_sound size b new c))
    (same_around (codes "FRM8" ++ (size ++ b)) sound new c place (length-to_sound size file form long) held fits))

pub outside_size : (size new b sound c : List ℕ) → length size ≡ 8 → length new ≡ 8 → IsSameOutside 4 8 (around size b sound c) (around new b sound c)
outside_size size new b sound c held fits = same_around (codes "FRM8") size new (b ++ (sound ++ c)) 4 refl held fits

abbrev pub zeros : List ℕ
zeros = replicate 8 0

-- ---- a field that is written over, in any bytes
pub over_is_outside : (xs piece : List ℕ) (place : ℕ) → place + 8 ≤ length xs → length piece ≡ 8 →
    IsSameOutside place 8 xs (take place xs ++ piece ++ drop (place + length piece) xs)
over_is_outside xs piece place inside long =
    let p = take place xs in
    let q = take 8 (drop place xs) in
    let r = drop 8 (drop place xs) in
    let parts : p ++ (q ++ r) ≡ xs = ap (λ w. p ++ w) (take-append-drop 8 (drop place xs)) ∙ take-append-drop place xs in
    let is : length p ≡ place = omega (arith, length-take place xs) in
    let held : length q ≡ 8 = omega (arith, length-take 8 (drop place xs), length-drop place xs) in
    subst (λ w. IsSameOutside place 8 xs w) (sym (put_over p q r piece place is (omega (arith, held, long))) ∙ ap
    (λ w. take place w ++ piece ++ drop (place + length piece) w) parts)
    (subst (λ w. IsSameOutside place 8 w (p ++ (piece ++ r))) parts (same_around p q piece r place is held long))

-- the sink is finished, or fails at that
pub sizes_end : {T E : Type 0} (result : Result T E) (place sound form : ℕ) (old mid last new : Option (List ℕ)) →
    mid ≡ written_over old place (big_bytes 8 sound) → last ≡ written_over mid form_size_place (big_bytes 8 form) → new ≡ last →
    ((xs : List ℕ) → mid ≡ Some xs → 12 ≤ length xs) → SizesEnd result place sound form old new
sizes_end (Ok u) place sound form old mid last new p q e long = e ∙ q ∙ ap (λ w. written_over w form_size_place (big_bytes 8 form)) p
sizes_end (Err fault) place sound form old mid last new p q e long = inr (subst (λ w. IsOpenIn form_size_place 8 w new) p (go mid (e ∙ q) long))
  where
    go : (mid : Option (List ℕ)) → new ≡ written_over mid form_size_place (big_bytes 8 form) → ((xs : List ℕ) → mid ≡ Some xs → 12 ≤ length xs) →
        IsOpenIn form_size_place 8 mid new
    go None e long = e
    go (Some xs) e long = (_, e, over_is_outside xs (big_bytes 8 form) 4 (long xs refl) (length-bytes_high_first 8 form))
