-- The frames that stand for a sound, one after the other, and the sizes that are noted of them.
use Rattle.std.proofs.Common.{◌≡◌, ℕ, ◌+◌, ◌<◌, ◌≤◌, List, [], ◌∷◌, ◌++◌, length, map, take, drop, get_or, set, ap, sym, ◌∙◌, arith, length-drop}
use Rattle.std.proofs.lemmas.List.{length-map, length-take, get_or-map, map-append, take_more, take_more_set}
use Rattle.dst_spec.specs.Sample.{Shape, sound_bytes}
use Rattle.dst_spec.specs.Spell.{stored}
use Rattle.dsdiff_spec.specs.Chunks.{body_of}
use Rattle.dsdiff_spec.specs.Form.{shape, sound_bytes_of, frames_for}
use Rattle.dsdiff_spec.specs.Coded.{Picks, pieces, stored_frames}
use Rattle.dsdiff_spec.proofs.SoundPieces.{length-pieces, piece_at}
use Rattle.dsdiff_chunks.specs.declared.form.PlainForm.{PlainForm}
use Rattle.dsdiff_chunks.specs.Forms.{plain_seen}
use Rattle.dsdiff_chunks.specs.Seen.{head_seen}
use Rattle.dsdiff_chunks.proofs.LawfulForms.{sound_inside}
use Rattle.dst_write.specs.Feeding.{piece_of}
use Rattle.dst_write.proofs.Feeding.{piece_in}

-- ---- the frames of a plain form that the file holds whole
abbrev pub frames_in : Picks → List ℕ → PlainForm → List (List ℕ)
frames_in picks file f = stored_frames picks file (plain_seen f)

abbrev pub frame_for : Picks → Shape → List ℕ → List ℕ
frame_for picks f piece = stored f piece (picks piece f)

length-sound : (file : List ℕ) (f : PlainForm) → f.end ≤ length file → length (body_of file (head_seen f.sound)) ≡ f.sound.size
length-sound file f h =
    let place = f.sound.place + 12 in
    let ends : f.sound.place + 12 + f.sound.size ≤ f.end = sound_inside (plain_seen f) f.lawful in
    omega (arith, length-take f.sound.size (drop place file), length-drop place file)

needed_for : (file : List ℕ) (f : PlainForm) → f.end ≤ length file →
    f.frames ≡ frames_for (sound_bytes_of (plain_seen f)) (length (body_of file (head_seen f.sound)))
needed_for file f h = f.lawful.of_kind.frames ∙ ap (frames_for (sound_bytes_of (plain_seen f))) (sym (length-sound file f h))

pub length-frames : (picks : Picks) (file : List ℕ) (f : PlainForm) → f.end ≤ length file → length (frames_in picks file f) ≡ f.frames
unfolding stored_frames
length-frames picks file f h =
    let n = sound_bytes_of (plain_seen f) in
    let body = body_of file (head_seen f.sound) in
    length-map (pieces n body) (frame_for picks (shape (plain_seen f))) ∙ length-pieces n body ∙ sym (needed_for file f h)

pub frame_at_number : (picks : Picks) (file : List ℕ) (f : PlainForm) (k : ℕ) → f.end ≤ length file → k < f.frames →
    get_or (frames_in picks file f) k [] ≡ frame_for picks f.channels (piece_in file f k)
unfolding stored_frames
frame_at_number picks file f k h l =
    let n = sound_bytes_of (plain_seen f) in
    let body = body_of file (head_seen f.sound) in
    let count = needed_for file f h in
    get_or-map (frame_for picks (shape (plain_seen f))) (pieces n body) k [] [] (omega (arith, l, count, length-pieces n body))
    ∙ ap (frame_for picks (shape (plain_seen f))) (piece_at n body k (omega (arith, l, count)))
    ∙ ap (λ (g : Shape). frame_for picks g (piece_of (sound_bytes g) body k)) f.shape

-- ---- one size more is noted
pub one_more_size : (sizes : List ℕ) (k size : ℕ) (frames : List (List ℕ)) (frame : List ℕ) → k < length sizes → k < length frames →
    size ≡ length frame → frame ≡ get_or frames k [] →
    take k sizes ≡ map length (take k frames) → take (k + 1) (set sizes k size) ≡ map length (take (k + 1) frames)
one_more_size sizes k size frames frame inside l long is before =
    take_more_set sizes k size inside
    ∙ ap (λ w. w ++ size ∷ []) before
    ∙ ap (λ n. map length (take k frames) ++ n ∷ []) (long ∙ ap length is)
    ∙ sym (map-append length (take k frames) (get_or frames k [] ∷ []))
    ∙ ap (map length) (sym (take_more frames k [] l))
