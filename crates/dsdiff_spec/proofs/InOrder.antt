-- The output of decoding in the order in which it is written: every outcome begins with each part of it.
use Rattle.std.proofs.Common.{◌≡◌, ℕ, List, ◌++◌, take, drop, refl, ap, sym, subst, ◌∙◌, append_assoc, None}
use Rattle.std.specs.List.{concat}
use Rattle.dst_spec.specs.Bits.{AreBytes}
use Rattle.dsdiff_spec.specs.Form.{Form}
use Rattle.dsdiff_spec.specs.Rules.{accepted}
use Rattle.dsdiff_spec.specs.Decoded.{decoded_before, kept_bytes}
use Rattle.dsdiff_spec.specs.Pieces.{opening, sound_opening, sound_pad, decoded_behind}
use Rattle.dsdiff_spec.specs.Words.{decode}
use Rattle.dsdiff_spec.specs.Refusal.{refusal}
use Rattle.dsdiff_spec.specs.Outcome.{Answer, OfCommand}
use Rattle.dsdiff_spec.proofs.PassedOn.{passed, goes_before, goes_behind, passed_chunk, passed_in_front}
use Rattle.dsdiff_spec.specs.Progress.{AreDecoded}
use Rattle.dsdiff_spec.proofs.Progress.{BeginsWith, begins_with_front, sound_size, head_of, end_of, outcome_begins_with_head, every_outcome_has_sound}

-- what is written of the first j chunks of a form, before the sound and behind it
abbrev pub chunks_before : List ℕ → Form → ℕ → List ℕ
chunks_before file form j = passed (goes_before form) (passed_chunk file form) (take j form.chunks)

abbrev pub chunks_behind : List ℕ → Form → ℕ → List ℕ
chunks_behind file form j = passed (goes_behind form) (passed_chunk file form) (take j form.chunks)

begins_with_part : (whole front part a b : List ℕ) → part ≡ a ++ b → BeginsWith whole (front ++ part) → BeginsWith whole (front ++ a)
begins_with_part whole front part a b e h =
    begins_with_front whole (front ++ a) b (subst (BeginsWith whole) (ap (λ w. front ++ w) e ∙ sym (append_assoc front a b)) h)

-- in front of the sound
pub begins_with_chunks_before : (file : List ℕ) (j : ℕ) → AreBytes file → refusal decode file ≡ None →
    (o : Answer) → OfCommand decode file (refusal decode file) o →
    BeginsWith o.out (opening (sound_size file) file (accepted file) ++ chunks_before file (accepted file) j)
begins_with_chunks_before file j bytes none o p =
    let form = accepted file in
    let front = opening (sound_size file) file form in
    begins_with_part o.out front (concat (decoded_before file form)) (chunks_before file form j)
    (passed (goes_before form) (passed_chunk file form) (drop j form.chunks))
    (passed_in_front (goes_before form) (passed_chunk file form) form.chunks j)
    (begins_with_front o.out (front ++ concat (decoded_before file form)) (sound_opening (sound_size file)) (outcome_begins_with_head file bytes none o p))

-- behind it
abbrev pub with_sound : List ℕ → List (List ℕ) → List ℕ
with_sound file sounds = head_of file ++ take (sound_size file) (concat sounds) ++ sound_pad (sound_size file) (accepted file)

regroup : (a b pad behind last : List ℕ) → a ++ b ++ (pad ++ behind ++ last) ≡ a ++ b ++ pad ++ behind ++ last
regroup a b pad behind last = simp append_assoc refl

pub whole_in_order : (file : List ℕ) (sounds : List (List ℕ)) →
    head_of file ++ take (sound_size file) (concat sounds) ++ end_of file
    ≡ with_sound file sounds ++ passed (goes_behind (accepted file)) (passed_chunk file (accepted file)) (accepted file).chunks ++ kept_bytes
    (accepted file).origin
whole_in_order file sounds =
    regroup (head_of file) (take (sound_size file) (concat sounds)) (sound_pad (sound_size file) (accepted file))
    (concat (decoded_behind file (accepted file))) (kept_bytes (accepted file).origin)

pub begins_with_chunks_behind : (file : List ℕ) (sounds : List (List ℕ)) (j : ℕ) → AreBytes file → refusal decode file ≡ None →
    AreDecoded file (accepted file) (accepted file).frames sounds → (o : Answer) → OfCommand decode file (refusal decode file) o →
    BeginsWith o.out (with_sound file sounds ++ chunks_behind file (accepted file) j)
begins_with_chunks_behind file sounds j bytes none h o p =
    let form = accepted file in
    let behind = concat (decoded_behind file form) in
    let is : o.out ≡ with_sound file sounds ++ behind ++ kept_bytes form.origin =
    ap (λ (a : Answer). a.out) (every_outcome_has_sound file sounds bytes none h o p) ∙ whole_in_order file sounds in
    begins_with_part o.out (with_sound file sounds) behind (chunks_behind file form j) (passed (goes_behind form) (passed_chunk file form) (drop j form.chunks))
    (passed_in_front (goes_behind form) (passed_chunk file form) form.chunks j)
    (record { rest = kept_bytes form.origin; is = is })
