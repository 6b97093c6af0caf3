-- A part of a frame's sound is that part of the whole sound.
use Rattle.std.proofs.Common.{◌≡◌, ℕ, zero, suc, ◌+◌, ◌*◌, ◌<◌, ◌≤◌, List, [], ◌∷◌, ◌++◌, length, take, drop, get_or}
use Rattle.std.proofs.Common.{sym, ap, subst, ◌∙◌, arith, length-drop}
use Rattle.std.specs.List.{AllZip, concat}
use Rattle.std.proofs.lemmas.List.{take-append-le, drop-append-le, drop_at, drop-drop, length-map, get_or-map}
use Rattle.dst_spec.specs.Sample.{Shape, IsShape, sound_bytes}
use Rattle.dst_spec.specs.Means.{Means}
use Rattle.dsdiff_spec.specs.Bytes.{bytes_at}
use Rattle.dsdiff_spec.specs.Form.{Form, shape, sound_bytes_of, size_of_sound}
use Rattle.dsdiff_spec.specs.Walk.{entry, entries, frame_at}
use Rattle.dsdiff_spec.specs.Decoded.{frames_of}
use Rattle.dsdiff_spec.specs.Ranges.{MeansOrZeros, Sound}
use Rattle.dsdiff_spec.proofs.Pieces.{AreWhole}
use Rattle.dsdiff_spec.proofs.Sounding.{one_of_both, long_of_both}
use Rattle.chunk_view.proofs.InParts.{bytes_in_part}

whole_sounds : (f : Shape) (frames sounds : List (List ℕ)) → AllZip (MeansOrZeros f) frames sounds → AreWhole (sound_bytes f) sounds
whole_sounds f [] [] z = tt
whole_sounds f [] (s ∷ ss) z = absurd z
whole_sounds f (w ∷ ws) [] z = absurd z
whole_sounds f (w ∷ ws) (s ∷ ss) z = (long_of_both f w s z.0, whole_sounds f ws ss z.1)

sound_at : (f : Shape) (frames sounds : List (List ℕ)) (k : ℕ) (s : List ℕ) → IsShape f → AllZip (MeansOrZeros f) frames sounds → k < length frames →
    Means f (get_or frames k []) s → (get_or sounds k [] ≡ s) × (k < length sounds)
sound_at f [] sounds k s lawful z l m = absurd (omega arith)
sound_at f (w ∷ ws) [] k s lawful z l m = absurd z
sound_at f (w ∷ ws) (b ∷ bs) zero s lawful z l m = (one_of_both f w s b lawful m z.0, omega arith)
sound_at f (w ∷ ws) (b ∷ bs) (suc k) s lawful z l m = let later = sound_at f ws bs k s lawful z.1 (omega arith) m in let less =
    later.1 in (later.0, omega arith)

-- part of one of several sounds of n bytes each
part_at : (n : ℕ) (sounds : List (List ℕ)) (k i m : ℕ) → AreWhole n sounds → k < length sounds → i + m ≤ n →
    bytes_at (concat sounds) (k * n + i) m ≡ bytes_at (get_or sounds k []) i m
part_at n [] k i m whole l fits = absurd (omega arith)
part_at n (s ∷ ss) zero i m whole l fits =
    let long = whole.0 in
    let here : zero * n + i ≡ i = omega arith in
    let cut : i ≤ length s = omega arith in
    let room : m ≤ length (drop i s) = omega (arith, length-drop i s) in
    ap (λ p. take m (drop p (s ++ concat ss))) here ∙ ap (take m) (drop-append-le i s (concat ss) cut) ∙ take-append-le m (drop i s) (concat ss) room
part_at n (s ∷ ss) (suc k) i m whole l fits =
    let long = whole.0 in
    let place : suc k * n + i ≡ n + (k * n + i) = omega arith in
    ap (λ p. take m (drop p (s ++ concat ss))) place
    ∙ ap (take m) (sym (drop-drop (k * n + i) n (s ++ concat ss)) ∙ ap (drop (k * n + i)) (drop_at s (concat ss) n long))
    ∙ part_at n ss k i m whole.1 (omega arith) fits

pub part_of_sound : (file : List ℕ) (form : Form) (sound : List ℕ) (k i m : ℕ) (s : List ℕ) → IsShape (shape form) → Sound file form sound →
    k < length (entries file form) → Means (shape form) (frame_at file (entry (entries file form) k)) s →
    i + m ≤ sound_bytes_of form → k * sound_bytes_of form + i + m ≤ size_of_sound form →
    bytes_at sound (k * sound_bytes_of form + i) m ≡ bytes_at s i m
part_of_sound file form sound k i m s lawful whole l means fits within =
    let f = shape form in
    let n = sound_bytes_of form in
    let es = entries file form in
    let count : length (frames_of file form) ≡ length es = length-map es (frame_at file) in
    let frame : get_or (frames_of file form) k [] ≡ frame_at file (entry es k) = get_or-map (frame_at file) es k (record { offset = 0; size = 0 }) [] l in
    let at = sound_at f (frames_of file form) whole.sounds k s lawful whole.each (omega (arith, count)) (subst (λ w. Means f w s) (sym frame) means) in
    let from : 0 + (k * n + i) ≡ k * n + i = omega arith in
    ap (λ w. bytes_at w (k * n + i) m) whole.is_sound
    ∙ bytes_in_part (concat whole.sounds) 0 (size_of_sound form) (k * n + i) m within
    ∙ ap (λ p. bytes_at (concat whole.sounds) p m) from
    ∙ part_at n whole.sounds k i m (whole_sounds f (frames_of file form) whole.sounds whole.each) at.1 fits
    ∙ ap (λ w. bytes_at w i m) at.0
