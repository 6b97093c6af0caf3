-- A sound that is cut into pieces: how many there are, and which.
use Rattle.std.proofs.Common.{◌≡◌, ℕ, ◌*◌, ◌<◌, List, [], length, get_or, ◌∙◌, arith}
use Rattle.std.specs.List.{range_with_len}
use Rattle.std.proofs.lemmas.List.{length-map}
use Rattle.std.proofs.lemmas.List.FromFn.{get_or-map-range_with_len, length-range_with_len}
use Rattle.dsdiff_spec.specs.Bytes.{bytes_at}
use Rattle.dsdiff_spec.specs.Form.{frames_for}
use Rattle.dsdiff_spec.specs.Coded.{filled, pieces}

pub length-pieces : (n : ℕ) (sound : List ℕ) → length (pieces n sound) ≡ frames_for n (length sound)
unfolding pieces
length-pieces n sound = length-map (range_with_len 0 (frames_for n (length sound))) (λ k. filled n (bytes_at sound (k * n) n))
    ∙ length-range_with_len 0 (frames_for n (length sound))

pub piece_at : (n : ℕ) (sound : List ℕ) (k : ℕ) → k < frames_for n (length sound) → get_or (pieces n sound) k [] ≡ filled n (bytes_at sound (k * n) n)
unfolding pieces
piece_at n sound k h = get_or-map-range_with_len (λ k. filled n (bytes_at sound (k * n) n)) 0 (frames_for n (length sound)) k k [] h (omega arith)
