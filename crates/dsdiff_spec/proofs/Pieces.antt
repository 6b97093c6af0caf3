-- What decoding writes is its pieces, one after the other.
use Rattle.std.proofs.Common.{◌≡◌, ℕ, zero, suc, ◌+◌, ◌-◌, ◌*◌, ◌%◌, ◌≤◌, ◌==◌, Bool, true, false, if◌then◌else◌, List, [], ◌∷◌, ◌++◌, length, take, drop}
use Rattle.std.proofs.Common.{replicate, refl, ap, ◌∙◌, arith, length-append, length-take-le, append_assoc, append-nil, eqb-true, take_at}
use Rattle.std.proofs.lemmas.Bool.{eqb-false}
use Rattle.std.proofs.lemmas.List.{length-replicate}
use Rattle.std.proofs.lemmas.List.Folds.{concat-append}
use Rattle.std.proofs.Math.Seq.{take-append-add}
use Rattle.std.specs.Prelude.{codes}
use Rattle.std.specs.List.{concat, AllByRecursion}
use Rattle.byteorder.specs.Endian.{big_bytes}
use Rattle.byteorder.specs.Numbers.{length-bytes_high_first}
use Rattle.dsdiff_spec.specs.Form.{Form, sound_bytes_of, size_of_sound}
use Rattle.dsdiff_spec.specs.Decoded.{decoded_with, decoded, decoded_before, decoded_before_frame, with_zeros, place_of_sound, plain_pad, kept_bytes}
use Rattle.dsdiff_spec.specs.Pieces.{decoded_behind, decoded_size, opening, sound_opening, decoded_front, sound_pad, decoded_end}
use Rattle.dsdiff_spec.specs.Rules.{accepted}
use Rattle.dsdiff_spec.proofs.Files.{two, two_coded}
use Rattle.dsdiff_spec.proofs.Restoring.{written_open}

-- ---- of any sound
pub pad_is_long : (n pad : ℕ) → length (if n % 2 == 1 then pad ∷ [] else []) ≡ n % 2
pad_is_long n pad = go (n % 2 == 1) refl
  where
    go : (b : Bool) → (n % 2 == 1) ≡ b → length (if b then pad ∷ [] else []) ≡ n % 2
    go true e = let one = eqb-true (n % 2) 1 e in omega arith
    go false e = let not_one = eqb-false (n % 2) 1 e in omega arith

pub length-sound_pad : (n : ℕ) (form : Form) → length (sound_pad n form) ≡ n % 2
length-sound_pad n form = pad_is_long n (plain_pad form.origin)

pub length-opening : (n : ℕ) (file : List ℕ) (form : Form) → length (opening n file form) ≡ 16
length-opening n file form = omega (
  arith,
  length-append (codes "FRM8" ++ big_bytes 8 (decoded_size n file form)) (codes "DSD "),
  length-append (codes "FRM8") (big_bytes 8 (decoded_size n file form)),
  length-bytes_high_first 8 (decoded_size n file form),
)

pub length-sound_opening : (n : ℕ) → length (sound_opening n) ≡ 12
length-sound_opening n = omega (arith, length-append (codes "DSD ") (big_bytes 8 n), length-bytes_high_first 8 n)

pub length-decoded_head : (n : ℕ) (file : List ℕ) (form : Form) → length (decoded_front n file form) ≡ place_of_sound file form
length-decoded_head n file form =
    let chunks = concat (decoded_before file form) in
    omega (
      arith,
      length-append (opening n file form ++ chunks) (sound_opening n),
      length-append (opening n file form) chunks,
      length-opening n file form,
      length-sound_opening n,
    )

pub length-decoded_end : (n : ℕ) (file : List ℕ) (form : Form) →
    length (decoded_end n file form) ≡ n % 2 + length (concat (decoded_behind file form)) + length (kept_bytes form.origin)
length-decoded_end n file form =
    let chunks = concat (decoded_behind file form) in
    omega (arith, length-append (sound_pad n form ++ chunks) (kept_bytes form.origin), length-append (sound_pad n form) chunks, length-sound_pad n form)

regroup : (o b d t sound pad behind last : List ℕ) →
    o ++ (b ++ (d ++ t ++ sound ++ pad) ++ behind) ++ last ≡ o ++ b ++ (d ++ t) ++ sound ++ (pad ++ behind ++ last)
regroup o b d t sound pad behind last = simp append_assoc refl

pub decoded_is_pieces : (sound file : List ℕ) (form : Form) →
    decoded_with sound file form ≡ decoded_front (length sound) file form ++ sound ++ decoded_end (length sound) file form
unfolding decoded_with
decoded_is_pieces sound file form =
    let n = length sound in
    let before = decoded_before file form in
    let behind = decoded_behind file form in
    let pad = sound_pad n form in
    let middle = codes "DSD " ++ big_bytes 8 n ++ sound ++ pad in
    let same : concat (before ++ middle ∷ [] ++ behind) ≡ concat before ++ middle ++ concat behind =
    concat-append (before ++ middle ∷ []) behind
    ∙ ap (λ w. w ++ concat behind) (concat-append before (middle ∷ []) ∙ ap (λ w. concat before ++ w) (append-nil middle)) in
    let long : length middle ≡ 12 + n + n % 2 =
    omega (
      arith,
      length-append (codes "DSD " ++ big_bytes 8 n ++ sound) pad,
      length-append (codes "DSD " ++ big_bytes 8 n) sound,
      length-sound_opening n,
      length-sound_pad n form,
    ) in
    let size : 4 + length (concat (before ++ middle ∷ [] ++ behind)) ≡ decoded_size n file form =
    omega (arith, ap length same, length-append (concat before ++ middle) (concat behind), length-append (concat before) middle, long) in
    ap (λ m. codes "FRM8" ++ big_bytes 8 m ++ codes "DSD " ++ concat (before ++ middle ∷ [] ++ behind) ++ kept_bytes form.origin) size
    ∙ ap (λ w. opening n file form ++ w ++ kept_bytes form.origin) same
    ∙ regroup (opening n file form) (concat before) (codes "DSD ") (big_bytes 8 n) sound pad (concat behind) (kept_bytes form.origin)

-- ---- of sounds of frames, each of the bytes of a frame
abbrev pub AreWhole : ℕ → List (List ℕ) → Type 0
AreWhole n sounds = AllByRecursion (λ sound. length sound ≡ n) sounds

pub length-sounds : (n : ℕ) (sounds : List (List ℕ)) → AreWhole n sounds → length (concat sounds) ≡ length sounds * n
length-sounds n [] h = omega arith
length-sounds n (s ∷ ss) h =
    let here = h.0 in
    let later = length-sounds n ss h.1 in
    let whole = length-append s (concat ss) in
    omega arith

-- a size that these sounds have room for is the size of the sound
pub decoded_of_sounds : (sounds : List (List ℕ)) (file : List ℕ) (form : Form) → size_of_sound form ≤ length (concat sounds) →
    decoded sounds file form ≡ decoded_front (size_of_sound form) file form ++ take (size_of_sound form) (concat sounds) ++ decoded_end
    (size_of_sound form) file form
decoded_of_sounds sounds file form h =
    let n = size_of_sound form in
    let sound = take n (concat sounds) in
    decoded_is_pieces sound file form
    ∙ ap (λ m. decoded_front m file form ++ sound ++ decoded_end m file form) (length-take-le n (concat sounds) h)

-- zeros stand for the sounds of the frames from k on
pub zeros_are_whole : (m n : ℕ) → AreWhole n (replicate m (replicate n 0))
zeros_are_whole zero n = tt
zeros_are_whole (suc m) n = (length-replicate n 0, zeros_are_whole m n)

cut_at_seam : (head a b end : List ℕ) (size place k : ℕ) → length head ≡ place → length a ≡ k → k ≤ size →
    take (place + k) (head ++ take size (a ++ b) ++ end) ≡ head ++ a
cut_at_seam head a b end size place k h l fits =
    let place_is : place + k ≡ length head + k = omega arith in
    let size_is : size ≡ length a + (size - k) = omega arith in
    let inner : take size (a ++ b) ≡ a ++ take (size - k) b = ap (λ m. take m (a ++ b)) size_is ∙ take-append-add a b (size - k) in
    ap (take (place + k)) (append_assoc head (take size (a ++ b)) end)
    ∙ ap (λ m. take m (head ++ (take size (a ++ b) ++ end))) place_is
    ∙ take-append-add head (take size (a ++ b) ++ end) k
    ∙ ap (λ w. head ++ take k (w ++ end)) inner
    ∙ ap (λ w. head ++ take k w) (append_assoc a (take (size - k) b) end)
    ∙ ap (λ w. head ++ w) (take_at a (take (size - k) b ++ end) k l)

pub written_before_frame : (sounds : List (List ℕ)) (file : List ℕ) (form : Form) → AreWhole (sound_bytes_of form) sounds → length sounds ≤ form.frames →
    length sounds * sound_bytes_of form ≤ size_of_sound form → size_of_sound form ≤ form.frames * sound_bytes_of form →
    decoded_before_frame sounds file form ≡ decoded_front (size_of_sound form) file form ++ concat sounds
written_before_frame sounds file form whole few reached fits =
    let n = sound_bytes_of form in
    let k = length sounds in
    let m = form.frames - k in
    let zeros : List (List ℕ) = replicate m (replicate n 0) in
    let size = size_of_sound form in
    let long = length-sounds n sounds whole in
    let rest = length-sounds n zeros (zeros_are_whole m n) in
    let count = length-replicate {A = List ℕ} m (replicate n 0) in
    let joined = concat-append sounds zeros in
    let all : length (concat (with_zeros sounds form)) ≡ form.frames * n =
    ap length joined ∙ length-append (concat sounds) (concat zeros)
    ∙ shared k m (form.frames) n (length (concat sounds)) (length (concat zeros)) long (rest ∙ ap (λ c. c * n) count) (omega arith) in
    let room : size ≤ length (concat (with_zeros sounds form)) = omega (arith, all, fits) in
    ap (take (place_of_sound file form + k * n))
    (decoded_of_sounds (with_zeros sounds form) file form room ∙ ap (λ w. decoded_front size file form ++ take size w ++ decoded_end size file form) joined)
    ∙ cut_at_seam (decoded_front size file form) (concat sounds) (concat zeros) (decoded_end size file form) size (place_of_sound file form) (k * n)
    (length-decoded_head size file form) long reached
  where
    shared : (k m all n a b : ℕ) → a ≡ k * n → b ≡ m * n → k + m ≡ all → a + b ≡ all * n
    shared k m all n a b p q r = let product = ap (λ x. x * n) r in omega (arith, p, q, product)

-- ---- the pieces of a file of two frames
pub two_in_pieces : (decoded_front 4705 two_coded (accepted two_coded) ≡ take 126 two) × (decoded_end 4705 two_coded (accepted two_coded) ≡ drop 4831 two)
unfolding written_open
two_in_pieces = (refl, refl)

pub size_of_two : decoded_size 4705 two_coded (accepted two_coded) + 12 ≡ length two
unfolding written_open
size_of_two = refl
