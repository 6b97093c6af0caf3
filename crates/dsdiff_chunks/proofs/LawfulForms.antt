-- In a lawful form the chunks and the sound lie before the end.
use Rattle.std.proofs.Common.{◌≡◌, ℕ, zero, suc, ◌<◌, ◌≤◌, List, [], ◌∷◌, length, get_or, map, subst, arith}
use Rattle.std.proofs.lemmas.List.{length-map, get_or-map}
use Rattle.dsdiff_spec.specs.Chunks.{Head, body_end, next_place}
use Rattle.dsdiff_spec.specs.Form.{Form, coded}
use Rattle.dsdiff_chunks.specs.declared.lists.ChunkHead.{ChunkHead}
use Rattle.dsdiff_chunks.specs.Lawful.{TileTo, IsCodedForm, IsLawful, IsOfKind}
use Rattle.dsdiff_chunks.specs.Opening.{is_sound}
use Rattle.dsdiff_chunks.specs.Seen.{head_seen}
use Rattle.dsdiff_chunks.proofs.Only.{only_within}

tiled_inside : (end place : ℕ) (heads : List Head) (j : ℕ) (d : Head) → TileTo end place heads → j < length heads → body_end (get_or heads j d) ≤ end
tiled_inside end place [] j d t l = absurd (omega arith)
tiled_inside end place (h ∷ hs) zero d t l = t.1
tiled_inside end place (h ∷ hs) (suc j) d t l = tiled_inside end (next_place h) hs j d t.2 (omega arith)

pub head_inside : (form : Form) (xs : List ChunkHead) (j : ℕ) (d : ChunkHead) → IsLawful form → form.chunks ≡ map head_seen xs → j < length xs →
    body_end (head_seen (get_or xs j d)) ≤ form.end
head_inside form xs j d lawful is l =
    let tiled = subst (TileTo form.end 16) is lawful.chunks in
    let long = length-map xs head_seen in
    subst (λ h. body_end h ≤ form.end) (get_or-map head_seen xs j d (head_seen d) l)
    (tiled_inside form.end 16 (map head_seen xs) j (head_seen d) tiled (omega arith))

pub sound_inside : (form : Form) → IsLawful form → body_end form.sound ≤ form.end
sound_inside form lawful = only_within is_sound form.end form.chunks form.sound lawful.sound lawful.chunks

pub coded_parts : (form : Form) → IsLawful form → form.kind ≡ coded → IsCodedForm form
coded_parts form lawful e = subst (λ k. IsOfKind k form) e lawful.of_kind
