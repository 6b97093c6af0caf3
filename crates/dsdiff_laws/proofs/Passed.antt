-- The chunks of a form that are passed on to another one: all but the sound, `DSTI` and `KEPT`.
use Rattle.std.proofs.Common.{◌≡◌, ℕ, ◌+◌, Bool, true, false, if◌then◌else◌, List, [], ◌∷◌, ◌++◌, length, map, filter, refl, ap, ap₂, ◌∙◌}
use Rattle.std.specs.Prelude.{not, ◌&&◌}
use Rattle.std.specs.List.{AllByRecursion, AllZip}
use Rattle.std.proofs.lemmas.List.Elements.{filter-append}
use Rattle.dst_spec.specs.Bits.{AreBytes}
use Rattle.dsdiff_spec.specs.Bytes.{◌below◌, ◌above◌}
use Rattle.dsdiff_spec.specs.Chunks.{Chunk, bytes_of_chunk, IsChunk, Head}
use Rattle.dsdiff_spec.specs.Parts.{form_end, behind_form}
use Rattle.dsdiff_spec.specs.Rules.{accepted}
use Rattle.dsdiff_spec.specs.Written.{before_sound, behind_sound, copied}
use Rattle.dsdiff_spec.proofs.Tiling.{heads_from}
use Rattle.dsdiff_spec.proofs.ByteLists.{bytes_joined}
use Rattle.dsdiff_laws.proofs.Composed.{AreChunks, is_ending}
use Rattle.dsdiff_laws.proofs.Standing.{Holds, copies, chosen_hold}
use Rattle.dsdiff_laws.proofs.Filed.{may_lack, body_bytes}
use Rattle.dsdiff_laws.proofs.Order.{those_before, those_behind}
use Rattle.dsdiff_laws.proofs.Places.{Lacks, parts_hold}
use Rattle.dsdiff_laws.proofs.FormParts.{FormParts}
use Rattle.dsdiff_laws.proofs.PlainParts.{added_id}
use Rattle.dsdiff_laws.proofs.Accepting.{all_parts}

abbrev pub is_passed : Chunk → Bool
is_passed c = not (added_id c.id)

abbrev pub passed : List Chunk → List Chunk
passed cs = filter (λ c. is_passed c) cs

-- ---- what holds of chunks holds of those that are passed on
pub all_passed : (P : Chunk → Type 0) (cs : List Chunk) → AllByRecursion P cs → AllByRecursion P (passed cs)
all_passed P [] all = tt
all_passed P (c ∷ cs) all = go (is_passed c) (all_passed P cs all.1)
  where
    go : (b : Bool) → AllByRecursion P (passed cs) → AllByRecursion P (if b then c ∷ passed cs else passed cs)
    go true later = (all.0, later)
    go false later = later

pub passed_lack : (cs : List Chunk) → Lacks added_id (passed cs)
passed_lack [] = tt
passed_lack (c ∷ cs) = go (added_id c.id) refl (passed_lack cs)
  where
    go : (b : Bool) → added_id c.id ≡ b → Lacks added_id (passed cs) → Lacks added_id (if not b then c ∷ passed cs else passed cs)
    go true e later = later
    go false e later = (e, later)

whole_before_them : (m : List ℕ → Bool) (c : Chunk) (cs : List Chunk) → IsChunk c → AreChunks m cs → AreChunks m (c ∷ cs)
whole_before_them m c [] whole all = is_ending m c whole
whole_before_them m c (d ∷ cs) whole all = (whole, all)

pub passed_are : (m : List ℕ → Bool) (cs : List Chunk) → AreChunks m cs → AreChunks m (passed cs)
passed_are m [] all = tt
passed_are m (c ∷ []) all = go (is_passed c)
  where
    go : (b : Bool) → AreChunks m (if b then c ∷ [] else [])
    go true = all
    go false = tt
passed_are m (c ∷ d ∷ cs) all = go (is_passed c) (passed_are m (d ∷ cs) all.1)
  where
    go : (b : Bool) → AreChunks m (passed (d ∷ cs)) → AreChunks m (if b then c ∷ passed (d ∷ cs) else passed (d ∷ cs))
    go true later = whole_before_them m c (passed (d ∷ cs)) all.0 later
    go false later = later

pub passed_bytes : (cs : List Chunk) → AreBytes (body_bytes cs) → AreBytes (body_bytes (passed cs))
passed_bytes [] all = tt
passed_bytes (c ∷ cs) all =
    let parts = all_parts (bytes_of_chunk c) (body_bytes cs) all in
    go (is_passed c) parts.0 (passed_bytes cs parts.1)
  where
    go : (b : Bool) → AreBytes (bytes_of_chunk c) → AreBytes (body_bytes (passed cs)) → AreBytes (body_bytes (if b then c ∷ passed cs else passed cs))
    go true here later = bytes_joined (bytes_of_chunk c) (body_bytes (passed cs)) here later
    go false here later = later

-- ---- they are copied byte for byte
module _ (file : List ℕ) (p : FormParts file)
  where
    abbrev pre : List Chunk
    pre = p.version ∷ p.front ++ p.prop ∷ p.middle

    abbrev behind : ℕ
    behind = 16 + length (body_bytes pre) + length (bytes_of_chunk p.sound)

    place_is : (accepted file).sound.place ≡ 16 + length (body_bytes pre)
    place_is = ap (λ (h : Head). h.place) p.sound_head_is

    copied_passed : (hs : List Head) (cs : List Chunk) → AllZip (Holds file (form_end file)) hs cs →
        copied file (accepted file) (filter (λ (h : Head). not (added_id h.id)) hs) ≡ map bytes_of_chunk (passed cs)
    copied_passed hs cs hold =
        copies file (form_end file) (filter (λ (h : Head). not (added_id h.id)) hs) (passed cs)
        (chosen_hold file (form_end file) (λ h. not (added_id h.id)) (λ c. is_passed c) (λ h c k. ap (λ w. not (added_id w)) k.id) hs cs hold)

    passed_parts : passed pre ≡ p.version ∷ passed p.front ++ p.prop ∷ passed p.middle
    passed_parts =
        let first : passed (p.version ∷ p.front) ≡ p.version ∷ passed p.front =
        ap (λ w. if not (added_id w) then p.version ∷ passed p.front else passed p.front) p.version_id in
        let second : passed (p.prop ∷ p.middle) ≡ p.prop ∷ passed p.middle =
        ap (λ w. if not (added_id w) then p.prop ∷ passed p.middle else passed p.middle) p.is_prop in
        filter-append (λ c. is_passed c) (p.version ∷ p.front) (p.prop ∷ p.middle) ∙ ap₂ (λ (a b : List Chunk). a ++ b) first second

    pub before_passed : copied file (accepted file) (before_sound (accepted file))
        ≡ map bytes_of_chunk (p.version ∷ passed p.front ++ p.prop ∷ passed p.middle)
    before_passed =
        ap (copied file (accepted file))
        (ap₂ (λ (n : ℕ) (hs : List Head). filter (λ (h : Head). h.place below n && not (added_id h.id)) hs) place_is p.heads
        ∙ those_before may_lack (λ h. not (added_id h.id)) 16 pre p.last p.sound p.formed.are)
        ∙ copied_passed (heads_from 16 pre) pre (parts_hold file pre (p.sound ∷ p.last) (behind_form file) p.formed).0
        ∙ ap (map bytes_of_chunk) passed_parts

    pub behind_passed : copied file (accepted file) (behind_sound (accepted file)) ≡ map bytes_of_chunk (passed p.last)
    behind_passed =
        ap (copied file (accepted file))
        (ap₂ (λ (n : ℕ) (hs : List Head). filter (λ (h : Head). h.place above n && not (added_id h.id)) hs) place_is p.heads
        ∙ those_behind may_lack (λ h. not (added_id h.id)) 16 pre p.last p.sound p.formed.are)
        ∙ copied_passed (heads_from behind p.last) p.last (parts_hold file pre (p.sound ∷ p.last) (behind_form file) p.formed).1.1
