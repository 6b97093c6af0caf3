-- The `KEPT` that encoding writes is lawful, and says what the plain file was.
use Rattle.std.proofs.Common.{◌≡◌, inr, ℕ, ◌+◌, ◌%◌, ◌^◌, ◌<◌, ◌≤◌, ◌==◌, Bool, true, false, List, [], ◌∷◌, ◌++◌, length, take, refl, sym, ap, ◌∙◌}
use Rattle.std.proofs.Common.{arith, length-append, append-nil, eqb-true}
use Rattle.std.specs.Prelude.{codes, not, ◌||◌, ◌&&◌, nat_lt}
use Rattle.std.proofs.lemmas.Bool.{le-ltb, eq-eqb}
use Rattle.byteorder.specs.Endian.{big_bytes}
use Rattle.byteorder.specs.Numbers.{big_number-reads_back, length-bytes_high_first}
use Rattle.dsdiff_spec.specs.Bytes.{bytes_at, number_at, ◌is◌}
use Rattle.dsdiff_spec.specs.Chunks.{Chunk, bytes_of_chunk, IsChunk, Head}
use Rattle.dsdiff_spec.specs.Form.{Origin, frames_for}
use Rattle.dsdiff_spec.specs.Origin.{kept_length, origin_of, is_one_chunk, is_bad_origin}
use Rattle.dsdiff_spec.proofs.KeptBack.{kept_is_read_back, number_in}
use Rattle.dsdiff_spec.proofs.Tiling.{head_of, head_of_chunk, length_of_chunk}
use Rattle.dsdiff_laws.proofs.Composed.{is_ending}
use Rattle.dsdiff_laws.proofs.Standing.{Holds, all_hold}
use Rattle.dsdiff_laws.proofs.Props.{bytes_in_body}
use Rattle.dsdiff_laws.proofs.CodedChunks.{origin_body}
use Rattle.dsdiff_laws.proofs.CodedFile.{length-origin}

-- ---- the chunk `CMPR` in it
pub record IsPlainCmpr (c : Chunk) : Type 0 where
  pub whole : IsChunk c
  pub name : c.id ≡ codes "CMPR"
  pub least : 4 ≤ length c.body
  pub type : take 4 c.body ≡ codes "DSD "

size_in : (c : Chunk) → IsChunk c → number_at (bytes_of_chunk c) 4 8 ≡ length c.body
size_in c h = ap (λ w. number_at w 4 8) (sym (append-nil (bytes_of_chunk c))) ∙ ap (λ (i : Head). i.size) (head_of_chunk [] c [] h)

id_in : (c : Chunk) → IsChunk c → bytes_at (bytes_of_chunk c) 0 4 ≡ c.id
id_in c h = ap (λ w. bytes_at w 0 4) (sym (append-nil (bytes_of_chunk c))) ∙ ap (λ (i : Head). i.id) (head_of_chunk [] c [] h)

type_in : (c : Chunk) → IsPlainCmpr c → bytes_at (bytes_of_chunk c) 12 4 ≡ codes "DSD "
type_in c k =
    let w = bytes_of_chunk c in
    let hold : Holds w (length w) (head_of c.id 0 (length c.body)) c =
    (all_hold (λ id. false) w (length w) (c ∷ []) [] [] (is_ending (λ id. false) c k.whole) (alone w) (inr (ends w))).0 in
    bytes_in_body w (length w) (head_of c.id 0 (length c.body)) c 4 hold k.least ∙ k.type
  where
    alone : (w : List ℕ) → w ≡ [] ++ (w ++ []) ++ []
    alone w = sym (append-nil (w ++ []) ∙ append-nil w)

    ends : (w : List ℕ) → length w ≡ 0 + length (w ++ [])
    ends w = omega (arith, length-append w [])

pub cmpr_is_one : (c : Chunk) → IsPlainCmpr c → is_one_chunk "CMPR" (bytes_of_chunk c) ≡ true
cmpr_is_one c k =
    let w = bytes_of_chunk c in
    let long = length_of_chunk c k.whole in
    let some : nat_lt (length w) 12 ≡ false = le-ltb (length w) 12 (omega (arith, long)) in
    let name : bytes_at w 0 4 ≡ codes "CMPR" = id_in c k.whole ∙ k.name in
    let exact : (length w == 12 + number_at w 4 8 + number_at w 4 8 % 2) ≡ true =
    eq-eqb (length w) (12 + number_at w 4 8 + number_at w 4 8 % 2)
    (long ∙ shifted (length c.body) ∙ ap (λ (n : ℕ). 12 + n + n % 2) (sym (size_in c k.whole))) in
    rw (some, name, exact) refl
  where
    shifted : (n : ℕ) → n + 12 + n % 2 ≡ 12 + n + n % 2
    shifted n = omega arith

-- ---- all of it
pub record IsOrigin (channels bytes count sound pad : ℕ) (c : Chunk) (kept : List ℕ) : Type 0 where
  pub cmpr : IsPlainCmpr c
  pub cmpr_most : length (bytes_of_chunk c) ≤ 65536
  pub kept_most : length kept ≤ 65536
  pub sound_fits : sound < 2 ^ 64
  pub pad_even : sound % 2 ≡ 0 → pad ≡ 0
  pub even : sound % channels ≡ 0
  pub frames : frames_for bytes sound ≡ count

pub origin_is_read : (sound pad : ℕ) (cmpr kept : List ℕ) → sound < 2 ^ 64 → length kept ≤ 65536 →
    origin_of (origin_body sound pad cmpr kept) ≡ record { sound = sound; pad = pad; cmpr = cmpr; kept = kept }
origin_is_read sound pad cmpr kept s k = kept_is_read_back sound pad cmpr kept s (omega (arith, k))

pub origin_is_lawful : (channels bytes count sound pad : ℕ) (c : Chunk) (kept : List ℕ) → IsOrigin channels bytes count sound pad c kept →
    is_bad_origin channels bytes count (origin_body sound pad (bytes_of_chunk c) kept) ≡ false
origin_is_lawful channels bytes count sound pad c kept h =
    let cmpr = bytes_of_chunk c in
    let body = origin_body sound pad cmpr kept in
    let o = origin_is_read sound pad cmpr kept h.sound_fits h.kept_most in
    let long = length-origin sound pad cmpr kept in
    let n : kept_length body ≡ length kept =
    number_in (big_bytes 8 sound) pad (big_bytes 4 (length kept)) cmpr kept (length-bytes_high_first 8 sound)
    ∙ big_number-reads_back 4 (length kept) (cmpr ++ kept) (omega (arith, h.kept_most)) in
    let whole = length_of_chunk c h.cmpr.whole in
    let least : nat_lt (length body) 30 ≡ false = le-ltb (length body) 30 (omega (arith, long, whole, h.cmpr.least)) in
    let most : nat_lt 131086 (length body) ≡ false = le-ltb 131086 (length body) (omega (arith, long, h.cmpr_most, h.kept_most)) in
    let few : nat_lt 65536 (kept_length body) ≡ false = le-ltb 65536 (kept_length body) (omega (arith, n, h.kept_most)) in
    let fits : nat_lt (65550 + kept_length body) (length body) ≡ false =
    le-ltb (65550 + kept_length body) (length body) (omega (arith, n, long, h.cmpr_most)) in
    let one = cmpr_is_one c h.cmpr in
    let size : nat_lt (number_at cmpr 4 8) 4 ≡ false = le-ltb (number_at cmpr 4 8) 4 (omega (arith, size_in c h.cmpr.whole, h.cmpr.least)) in
    let type = type_in c h.cmpr in
    let even : (sound % channels == 0) ≡ true = eq-eqb (sound % channels) 0 h.even in
    let frames : (frames_for bytes sound == count) ≡ true = eq-eqb (frames_for bytes sound) count h.frames in
    let padded : ((sound % 2 == 0) && not (pad == 0)) ≡ false = no_pad (sound % 2 == 0) refl in
    let judged : Origin → Bool = λ q.
    (nat_lt (length body) 30 || nat_lt 131086 (length body) || nat_lt 65536 (kept_length body) || nat_lt (65550 + kept_length body) (length body)
    || (q.sound % 2 == 0 && not (q.pad == 0)))
    || not (is_one_chunk "CMPR" q.cmpr) || nat_lt (number_at q.cmpr 4 8) 4 || not (bytes_at q.cmpr 12 4 is "DSD ")
    || not (q.sound % channels == 0) || not (frames_for bytes q.sound == count) in
    let by_origin : is_bad_origin channels bytes count body ≡ judged (origin_of body) = refl in
    by_origin ∙ ap judged o ∙ rw (least, most, few, fits, padded, one, size, type, even, frames) refl
  where
    no_pad : (b : Bool) → (sound % 2 == 0) ≡ b → (b && not (pad == 0)) ≡ false
    no_pad true e = ap not (eq-eqb pad 0 (h.pad_even (eqb-true (sound % 2) 0 e)))
    no_pad false e = refl
