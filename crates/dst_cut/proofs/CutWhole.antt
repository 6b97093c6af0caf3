-- What cutting writes by its chunks is what is written part by part; its chunks are counted, and its size is known before.
use Rattle.std.proofs.Common.{◌≡◌, ℕ, ◌+◌, ◌-◌, ◌*◌, ◌%◌, ◌^◌, ◌<◌, ◌≤◌, Bool, true, false, if◌then◌else◌, List, [], ◌∷◌, ◌++◌, length}
use Rattle.std.proofs.Common.{drop, Option, Some, None}
use Rattle.std.proofs.Common.{refl, sym, ap, ap₂, ◌∙◌, arith, length-append, length-drop, append_assoc, append-nil}
use Rattle.std.specs.Prelude.{codes}
use Rattle.std.specs.List.{concat}
use Rattle.std.proofs.lemmas.Bool.{le-ltb, lt-ltb}
use Rattle.std.proofs.lemmas.List.{length-map, length-take}
use Rattle.std.proofs.lemmas.List.Folds.{concat-append}
use Rattle.byteorder.specs.Endian.{big_bytes}
use Rattle.byteorder.specs.Numbers.{length-bytes_high_first}
use Rattle.dsdiff_spec.specs.Bytes.{between}
use Rattle.dsdiff_spec.specs.Form.{Form, Origin, sound_bytes_of, whole_chunk}
use Rattle.dsdiff_spec.specs.Walk.{Entry, entries}
use Rattle.dsdiff_spec.specs.Written.{chunk, frte, dsti, origin_chunk, before_sound, behind_sound, copied}
use Rattle.dsdiff_spec.specs.Cut as cutting
use Rattle.dsdiff_spec.specs.Cut.{cut_chunks, cut_origin}
use Rattle.dsdiff_spec.specs.Faults.{◌when◌, ◌otherwise◌}
use Rattle.dsdiff_spec.specs.Refusal.{cut_fault}
use Rattle.dsdiff_spec.specs.declared.faults.FileFault.TheVariants.{TooManyChunks, FormTooLarge}
use Rattle.dsdiff_spec.proofs.ByteLists.{length-index}
use Rattle.dst_commands.specs.Passing.{chunks_on}
use Rattle.dst_commands.specs.declared.chunks.Side.{Side}
use Rattle.dst_commands.specs.declared.chunks.Side.TheVariants.{Before, Behind}
use Rattle.dst_cut.specs.CutLayout.{begins, ends, count, is_last, before, behind, origin_left, origin_left_by, origin_count, size_left, pad_left, side_of}
use Rattle.dst_cut.specs.CutLayout.{sound_size, form_size, sound_opening, padding, frames, index_bytes, entries_left, first_at, whole}
use Rattle.dst_commands.proofs.ChunkLengths.{even_chunk, length-padded, length-frte}
use Rattle.dst_cut.proofs.CutPlaces.{AreCutOut, length-left}

-- ---- the chunk `KEPT`
origin_left_is : (form : Form) (first last : ℕ) (o : Option Origin) → concat (cut_origin form first last o) ≡ origin_left_by form first last o
origin_left_is form first last None = refl
origin_left_is form first last (Some o) = go (is_last form last) refl
  where
    go : (b : Bool) → is_last form last ≡ b →
        concat ((if b then origin_chunk (o.sound - sound_bytes_of form * first) o.pad o.cmpr [] else origin_chunk
        (sound_bytes_of form * count first last) 0 o.cmpr []) ∷ [])
        ≡ origin_chunk (if b then o.sound - sound_bytes_of form * first else sound_bytes_of form * count first last) (if b then o.pad else 0) o.cmpr []
    go true e = append-nil (origin_chunk (o.sound - sound_bytes_of form * first) o.pad o.cmpr [])
    go false e = append-nil (origin_chunk (sound_bytes_of form * count first last) 0 o.cmpr [])

length-origin_left : (form : Form) (first last : ℕ) (o : Option Origin) → length (cut_origin form first last o) ≡ origin_count o
length-origin_left form first last None = refl
length-origin_left form first last (Some o) = refl

pub length-origin : (sound pad : ℕ) (cmpr : List ℕ) → length (origin_chunk sound pad cmpr []) ≡ 12 + (14 + length cmpr) + (14 + length cmpr) % 2
length-origin sound pad cmpr =
    let body : List ℕ = 2 ∷ big_bytes 8 sound ++ pad ∷ big_bytes 4 0 ++ cmpr ++ [] in
    let long : length body ≡ 14 + length cmpr =
    ap length (append-nil (2 ∷ big_bytes 8 sound ++ pad ∷ big_bytes 4 0 ++ cmpr))
    ∙ omega (
      arith,
      length-append (2 ∷ big_bytes 8 sound ++ pad ∷ big_bytes 4 0) cmpr,
      length-append (2 ∷ big_bytes 8 sound) (pad ∷ big_bytes 4 0),
      length-bytes_high_first 8 sound,
      length-bytes_high_first 4 0,
    ) in
    length-padded "KEPT" body 0 refl ∙ ap (λ n. 12 + n + n % 2) long

pub length-origin_left_by : (form : Form) (first last : ℕ) (o : Option Origin) (k : Origin) (cmpr : List ℕ) → o ≡ Some k → cmpr ≡ k.cmpr →
    12 + (14 + length cmpr) + (14 + length cmpr) % 2 ≡ length (origin_left_by form first last o)
length-origin_left_by form first last o k cmpr e c =
    ap (λ (w : List ℕ). 12 + (14 + length w) + (14 + length w) % 2) c
    ∙ sym (length-origin (size_left form first last k) (pad_left form last k) k.cmpr)
    ∙ ap (λ o. length (origin_left_by form first last o)) (sym e)

pub side_is : (side : Side) (file : List ℕ) (form : Form) → chunks_on side None file form ≡ side_of side file form
side_is Before file form = refl
side_is Behind file form = refl

-- ---- too many chunks, or too large a form
pub none_fault : (chunks : List (List ℕ)) → length chunks ≤ 1024 → 4 + length (concat chunks) ≤ 2 ^ 50 → cut_fault chunks ≡ None
none_fault chunks few small = ap₂ (λ (a b : Bool). TooManyChunks when a otherwise FormTooLarge when b) (le-ltb 1024 (length chunks) few)
    (le-ltb (2 ^ 50) (4 + length (concat chunks)) small)

pub large_fault : (chunks : List (List ℕ)) → length chunks ≤ 1024 → 2 ^ 50 < 4 + length (concat chunks) → cut_fault chunks ≡ Some FormTooLarge
large_fault chunks few large = ap₂ (λ (a b : Bool). TooManyChunks when a otherwise FormTooLarge when b) (le-ltb 1024 (length chunks) few)
    (lt-ltb (2 ^ 50) (4 + length (concat chunks)) large)

-- ---- chunks one behind the other
joined : (b : List (List ℕ)) (d i : List ℕ) (o e : List (List ℕ)) → concat (b ++ d ∷ i ∷ o ++ e) ≡ concat b ++ (d ++ (i ++ (concat o ++ concat e)))
joined b d i o e =
    concat-append (b ++ d ∷ i ∷ o) e
    ∙ ap (λ w. w ++ concat e) (concat-append b (d ∷ i ∷ o))
    ∙ regroup (concat b) d i (concat o) (concat e)
  where
    regroup : (b d i o e : List ℕ) → (b ++ (d ++ (i ++ o))) ++ e ≡ b ++ (d ++ (i ++ (o ++ e)))
    regroup b d i o e = simp append_assoc refl

counted : (b : List (List ℕ)) (d i : List ℕ) (o e : List (List ℕ)) → length (b ++ d ∷ i ∷ o ++ e) ≡ length b + 2 + length o + length e
counted b d i o e = omega (arith, length-append (b ++ d ∷ i ∷ o) e, length-append b (d ∷ i ∷ o))

pub index_is : (es : List Entry) (n : ℕ) → length es ≡ n → codes "DSTI" ++ big_bytes 8 (12 * n) ++ index_bytes es ≡ dsti es
index_is es n e =
    let long : 12 * n ≡ length (index_bytes es) = omega (arith, length-index es, e) in
    ap (λ n. codes "DSTI" ++ big_bytes 8 n ++ index_bytes es) long ∙ sym (even_chunk "DSTI" (index_bytes es) (6 * n) (omega (arith, long)))

length-dsti : (es : List Entry) → length (dsti es) ≡ 12 + 12 * length es
length-dsti es = omega (arith, length-padded "DSTI" (index_bytes es) 0 refl, length-index es)

pub count_is : (file : List ℕ) (form : Form) (first last : ℕ) →
    length (cut_chunks file form first last) ≡ length (before_sound form) + 2 + origin_count form.origin + length (behind_sound form)
unfolding cut_chunks
count_is file form first last =
    let b = copied file form (before_sound form) in
    let e = copied file form (behind_sound form) in
    let o = cut_origin form first last form.origin in
    let sizes : length b + 2 + length o + length e ≡ length (before_sound form) + 2 + origin_count form.origin + length (behind_sound form) =
    omega (
      arith,
      length-origin_left form first last form.origin,
      length-map (before_sound form) (whole_chunk file form),
      length-map (behind_sound form)
          (whole_chunk file form),
    ) in
    counted b _ _ o e ∙ sizes

module _ (es : List Entry) (file : List ℕ) (form : Form) (first last : ℕ) (order : first ≤ last) (is : entries file form ≡ es)
    (a : AreCutOut form es first last) (fits : form.end ≤ length file)
  where
    abbrev bytes : List ℕ
    bytes = between file (begins es first) (ends es form last)

    abbrev size : ℕ
    size = sound_size es form first last

    abbrev body : List ℕ
    body = frte (count first last) ++ bytes

    abbrev left : List Entry
    left = entries_left es first last (first_at file form)

    length-bytes : length bytes ≡ ends es form last - begins es first
    length-bytes =
        omega (
          arith,
          length-take (ends es form last - begins es first) (drop (begins es first) file),
          length-drop (begins es first) file,
          a.order,
          a.inside,
          fits,
        )

    length-body : length body ≡ size
    length-body = omega (arith, length-append (frte (count first last)) bytes, length-frte (count first last), length-bytes)

    sound_chunk : chunk "DST " body ≡ sound_opening es form first last ++ frames es file form first last
    sound_chunk =
        ap (λ n. codes "DST " ++ big_bytes 8 n ++ body ++ padding n) length-body
        ∙ regroup (codes "DST ") (big_bytes 8 size) (frte (count first last)) bytes (padding size)
      where
        regroup : (a b c d e : List ℕ) → a ++ b ++ (c ++ d) ++ e ≡ (a ++ b ++ c) ++ (d ++ e)
        regroup a b c d e = simp append_assoc refl

    length-sound : length (chunk "DST " body) ≡ 12 + size + size % 2
    length-sound = length-padded "DST " body 0 refl ∙ ap (λ n. 12 + n + n % 2) length-body

    length-index_left : length (dsti left) ≡ 12 + 12 * count first last
    length-index_left = omega (arith, length-dsti left, length-left form es first last (first_at file form) order a.long)

    chunks_are : cut_chunks file form first last
        ≡ copied file form (before_sound form) ++ chunk "DST " body ∷ dsti left ∷ cut_origin form first last form.origin ++ copied file form (behind_sound form)
    unfolding cut_chunks
    chunks_are =
        ap (λ es. copied file form (before_sound form)
        ++ chunk "DST " (frte (count first last) ++ between file (begins es first) (ends es form last))
        ∷ dsti (entries_left es first last (first_at file form))
        ∷ cut_origin form first last form.origin
        ++ copied file form (behind_sound form)) is

    joined_are : concat (cut_chunks file form first last) ≡ before file form ++
        (chunk "DST " body ++ (dsti left ++ (origin_left form first last ++ behind file form)))
    joined_are =
        ap concat chunks_are
        ∙ joined (copied file form (before_sound form)) (chunk "DST " body) (dsti left) (cut_origin form first last form.origin)
        (copied file form (behind_sound form))
        ∙ ap (λ w. before file form ++ (chunk "DST " body ++ (dsti left ++ (w ++ behind file form)))) (origin_left_is form first last form.origin)

    pub size_is : 4 + length (concat (cut_chunks file form first last)) ≡ form_size es file form first last
    size_is =
        let k = origin_left form first last in
        let h = behind file form in
        omega (
          arith,
          ap length joined_are,
          length-append (before file form) (chunk "DST " body ++ (dsti left ++ (k ++ h))),
          length-append (chunk "DST " body) (dsti left ++ (k ++ h)),
          length-append (dsti left) (k ++ h),
          length-append k h,
          length-sound,
          length-index_left,
        )

    pub cut_is : cutting.cut file form first last ≡ whole es file form first last
    cut_is =
        ap₂ (λ n w. codes "FRM8" ++ big_bytes 8 n ++ codes "DSD " ++ w) size_is
        (joined_are ∙ ap (λ w. before file form ++ (w ++ (dsti left ++ (origin_left form first last ++ behind file form)))) sound_chunk)
        ∙ regroup (codes "FRM8") (big_bytes 8 (form_size es file form first last)) (codes "DSD ") (before file form)
        (sound_opening es form first last) (frames es file form first last) (dsti left) (origin_left form first last) (behind file form)
      where
        regroup : (a b c d e f g h i : List ℕ) → a ++ b ++ c ++ (d ++ ((e ++ f) ++ (g ++ (h ++ i)))) ≡ ((a ++ b ++ c) ++ d ++ e) ++ f ++ (g ++ h ++ i)
        regroup a b c d e f g h i = simp append_assoc refl
