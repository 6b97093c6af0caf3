-- The pieces that are appended of a coded form's chunks are these chunks.
use Rattle.std.proofs.Common.{◌≡◌, ℕ, zero, suc, ◌+◌, ◌%◌, ◌<◌, List, [], ◌∷◌, ◌++◌, length, take, refl, sym, ap, ◌∙◌, arith, append_assoc}
use Rattle.std.specs.Prelude.{◌==◌, codes, if◌then◌else◌}
use Rattle.std.proofs.lemmas.List.{append-nil, length-append}
use Rattle.byteorder.specs.Endian.{big_bytes}
use Rattle.dsdiff_spec.specs.Written.{chunk, frte, origin_chunk}
use Prim.Native.String.{String}

-- the pad byte of a body of this size, 0 behind an odd one
abbrev pad_behind : ℕ → List ℕ
pad_behind n = take (n % 2) (0 ∷ [])

pad_of : (n : ℕ) → pad_behind n ≡ (if n % 2 == 1 then 0 ∷ [] else [])
pad_of n = go (n % 2) (omega arith)
  where
    go : (k : ℕ) → k < 2 → take {A = ℕ} k (0 ∷ []) ≡ (if k == 1 then 0 ∷ [] else [])
    go zero h = refl
    go (suc zero) h = refl
    go (suc (suc k)) h = absurd (omega arith)

-- a head, a body and a pad byte
pub chunk_is : (name : String) (body head : List ℕ) → head ≡ codes name ++ big_bytes 8 (length body) →
    head ++ (body ++ (pad_behind (length body) ++ [])) ≡ chunk name body
chunk_is name body head e =
    ap (λ h. h ++ (body ++ (pad_behind (length body) ++ []))) e
    ∙ ap (λ p. (codes name ++ big_bytes 8 (length body)) ++ (body ++ p)) (append-nil _ ∙ pad_of (length body))
    ∙ sym (append_assoc (codes name ++ big_bytes 8 (length body)) body _)

pub frte_is : (frames : ℕ) (head number : List ℕ) → head ≡ codes "FRTE" ++ big_bytes 8 6 → number ≡ big_bytes 4 frames →
    head ++ (number ++ (0 ∷ 75 ∷ [])) ≡ frte frames
frte_is frames head number p q =
    ap (λ h. h ++ (number ++ (0 ∷ 75 ∷ []))) p ∙ ap (λ n. (codes "FRTE" ++ big_bytes 8 6) ++ (n ++ (0 ∷ 75 ∷ []))) q

-- `KEPT`, whose first fields have 14 bytes
abbrev fields_of : ℕ → ℕ → ℕ → List ℕ
fields_of sound pad kept = 2 ∷ big_bytes 8 sound ++ pad ∷ big_bytes 4 kept

pub origin_is : (sound pad : ℕ) (cmpr kept head fields : List ℕ) → head ≡ codes "KEPT" ++ big_bytes 8 (14 + length cmpr + length kept) →
    fields ≡ fields_of sound pad (length kept) →
    head ++ (fields ++ (cmpr ++ (kept ++ (pad_behind (14 + length cmpr + length kept) ++ [])))) ≡ origin_chunk sound pad cmpr kept
origin_is sound pad cmpr kept head fields p q =
    let all = fields_of sound pad (length kept) in
    let body = all ++ cmpr ++ kept in
    let long : 14 + length cmpr + length kept ≡ length body = omega (arith, length-append (all ++ cmpr) kept, length-append all cmpr) in
    let back : List ℕ = pad_behind (length body) ++ [] in
    ap (λ w. head ++ (w ++ (cmpr ++ (kept ++ (pad_behind (14 + length cmpr + length kept) ++ []))))) q
    ∙ ap (λ n. head ++ (all ++ (cmpr ++ (kept ++ (pad_behind n ++ []))))) long
    ∙ ap (λ w. head ++ w) (sym (append_assoc all cmpr (kept ++ back)) ∙ sym (append_assoc (all ++ cmpr) kept back))
    ∙ chunk_is "KEPT" body head (p ∙ ap (λ n. codes "KEPT" ++ big_bytes 8 n) long)
