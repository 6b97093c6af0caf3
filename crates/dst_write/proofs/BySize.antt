-- Frames by their sizes: the bytes of their chunks, and their entries in `DSTI`.
use Rattle.std.proofs.Common.{◌≡◌, ℕ, ◌+◌, ◌*◌, ◌/◌, ◌<◌, List, [], ◌∷◌, ◌++◌, length, map, take, get_or}
use Rattle.std.proofs.Common.{flat_map, refl, sym, ap, ◌∙◌, arith, length-append, append-nil, append_assoc, drop}
use Rattle.std.specs.Prelude.{codes}
use Rattle.std.proofs.lemmas.List.{take_more, take-append-drop}
use Rattle.std.proofs.lemmas.List.Sums.{sum_by-cons}
use Rattle.std.proofs.lemmas.List.Concat.{flat_map-append}
use Rattle.byteorder.specs.Endian.{big_bytes}
use Rattle.dsdiff_spec.proofs.Progress.{BeginsWith}
use Rattle.dsdiff_spec.proofs.ByteLists.{entry_bytes, length-index}
use Rattle.dst_commands.proofs.ChunkLengths.{length-padded, even_chunk}
use Rattle.dsdiff_spec.specs.Walk.{Entry}
use Rattle.dsdiff_spec.specs.Written.{dstf, dsti, entries_from}
use Rattle.dst_write.specs.Layout.{chunk_size, frames_size, entries_by}

-- ---- the chunks of frames
pub chunk_size_is : (frame : List ℕ) → length (dstf frame) ≡ chunk_size (length frame)
chunk_size_is frame = length-padded "DSTF" frame 0 refl

pub frames_size_is : (frames : List (List ℕ)) → length (flat_map dstf frames) ≡ frames_size (map length frames)
frames_size_is [] = refl
frames_size_is (frame ∷ frames) =
    omega (
      arith,
      length-append (dstf frame) (flat_map dstf frames),
      chunk_size_is frame,
      frames_size_is frames,
      sum_by-cons chunk_size (length frame) (map length frames),
    )

pub half_of_frames : (sizes : List ℕ) → (half : ℕ) × (frames_size sizes ≡ 2 * half)
half_of_frames [] = (0, refl)
half_of_frames (size ∷ sizes) =
    let later = half_of_frames sizes in
    (6 + (size + 1) / 2 + later.0, omega (arith, later.1, sum_by-cons chunk_size size sizes))

-- ---- entries
pub entries_are : (place : ℕ) (frames : List (List ℕ)) → entries_by place (map length frames) ≡ entries_from place frames
entries_are place [] = refl
entries_are place (frame ∷ frames) =
    ap (λ n. record { offset = place + 12; size = length frame } ∷ entries_by (place + n) (map length frames)) (sym (chunk_size_is frame))
    ∙ ap (λ es. record { offset = place + 12; size = length frame } ∷ es) (entries_are (place + length (dstf frame)) frames)

pub length-entries : (place : ℕ) (sizes : List ℕ) → length (entries_by place sizes) ≡ length sizes
length-entries place [] = refl
length-entries place (size ∷ sizes) = omega (arith, length-entries (place + chunk_size size) sizes)

pub dsti_is : (place : ℕ) (sizes : List ℕ) →
    codes "DSTI" ++ big_bytes 8 (12 * length sizes) ++ flat_map entry_bytes (entries_by place sizes) ≡ dsti (entries_by place sizes)
dsti_is place sizes =
    let body = flat_map entry_bytes (entries_by place sizes) in
    let long : 12 * length sizes ≡ length body = omega (arith, length-index (entries_by place sizes), length-entries place sizes) in
    ap (λ n. codes "DSTI" ++ big_bytes 8 n ++ body) long ∙ sym (even_chunk "DSTI" body (6 * length sizes) (omega (arith, long)))

pub length-dsti : (place : ℕ) (sizes : List ℕ) → length (dsti (entries_by place sizes)) ≡ 12 + 12 * length sizes
length-dsti place sizes =
    let body = flat_map entry_bytes (entries_by place sizes) in
    omega (arith, length-padded "DSTI" body 0 refl, length-index (entries_by place sizes), length-entries place sizes)

-- of two parts, and of one more
entries_of_parts : (place : ℕ) (a b : List ℕ) → entries_by place (a ++ b) ≡ entries_by place a ++ entries_by (place + frames_size a) b
entries_of_parts place [] b = ap (λ n. entries_by n b) (let same : place ≡ place + 0 = omega arith in same)
entries_of_parts place (size ∷ a) b =
    let moved : place + chunk_size size + frames_size a ≡ place + frames_size (size ∷ a) = omega (arith, sum_by-cons chunk_size size a) in
    ap (λ es. record { offset = place + 12; size = size } ∷ es) (entries_of_parts (place + chunk_size size) a b)
    ∙ ap (λ n. record { offset = place + 12; size = size } ∷ (entries_by (place + chunk_size size) a ++ entries_by n b)) moved

pub one_more_entry : (place : ℕ) (sizes : List ℕ) (j d : ℕ) → j < length sizes →
    flat_map entry_bytes (entries_by place (take j sizes)) ++ (big_bytes 8 (place + frames_size (take j sizes) + 12) ++ big_bytes 4 (get_or sizes j d))
    ≡ flat_map entry_bytes (entries_by place (take (j + 1) sizes))
one_more_entry place sizes j d l =
    let front = take j sizes in
    let here = place + frames_size front in
    let entry : Entry = record { offset = here + 12; size = get_or sizes j d } in
    sym (
    ap (λ w. flat_map entry_bytes (entries_by place w)) (take_more sizes j d l)
    ∙ ap (flat_map entry_bytes) (entries_of_parts place front (get_or sizes j d ∷ []))
    ∙ flat_map-append entry_bytes (entries_by place front) (entry ∷ [])
    ∙ ap (λ w. flat_map entry_bytes (entries_by place front) ++ w) (append-nil (entry_bytes entry))
    )

-- `DSTI` begins with its head and its first entries
abbrev pub dsti_head : List ℕ → List ℕ
dsti_head sizes = codes "DSTI" ++ big_bytes 8 (12 * length sizes)

pub begins_with_entries : (place : ℕ) (sizes : List ℕ) (j : ℕ) →
    BeginsWith (dsti (entries_by place sizes)) (dsti_head sizes ++ flat_map entry_bytes (entries_by place (take j sizes)))
begins_with_entries place sizes j =
    let front = take j sizes in
    let rest = flat_map entry_bytes (entries_by (place + frames_size front) (drop j sizes)) in
    record {
      rest = rest;
      is =
          sym (dsti_is place sizes)
          ∙ ap (λ w. dsti_head sizes ++ flat_map entry_bytes (entries_by place w)) (sym (take-append-drop j sizes))
          ∙ ap (λ es. dsti_head sizes ++ flat_map entry_bytes es) (entries_of_parts place front (drop j sizes))
          ∙ ap (λ w. dsti_head sizes ++ w) (flat_map-append entry_bytes (entries_by place front) (entries_by (place + frames_size front) (drop j sizes)))
          ∙ sym (append_assoc (dsti_head sizes) (flat_map entry_bytes (entries_by place front)) rest);
    }

pub head_and_more : (place : ℕ) (sizes : List ℕ) (j d here : ℕ) → j < length sizes → here ≡ place + frames_size (take j sizes) →
    dsti_head sizes ++ flat_map entry_bytes (entries_by place (take j sizes)) ++ (big_bytes 8 (here + 12) ++ big_bytes 4 (get_or sizes j d))
    ≡ dsti_head sizes ++ flat_map entry_bytes (entries_by place (take (j + 1) sizes))
head_and_more place sizes j d here l e =
    append_assoc (dsti_head sizes) (flat_map entry_bytes (entries_by place (take j sizes))) (big_bytes 8 (here + 12) ++ big_bytes 4 (get_or sizes j d))
    ∙ ap (λ n. dsti_head sizes ++ (flat_map entry_bytes (entries_by place (take j sizes)) ++ (big_bytes 8 (n + 12) ++ big_bytes 4 (get_or sizes j d)))) e
    ∙ ap (λ w. dsti_head sizes ++ w) (one_more_entry place sizes j d l)
