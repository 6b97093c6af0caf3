-- The bytes of the plain file: its front, the sounds of some frames, and zeros for the others.
use Rattle.std.proofs.Common.{◌≡◌, ℕ, zero, suc, ◌+◌, ◌-◌, ◌*◌, ◌%◌, ◌≤◌, ◌==◌, List, [], ◌∷◌, ◌++◌, length, replicate, refl, sym, ap, ap₂, ◌∙◌}
use Rattle.std.proofs.Common.{arith, length-append, append-nil, append_assoc}
use Rattle.std.specs.Prelude.{codes, if◌then◌else◌}
use Rattle.std.specs.List.{concat}
use Rattle.std.proofs.lemmas.List.{length-replicate}
use Rattle.std.proofs.Math.Nat.{mul-mod_right}
use Rattle.byteorder.specs.Endian.{big_bytes}
use Rattle.byteorder.specs.Numbers.{length-bytes_high_first}
use Rattle.dst_spec.specs.Sample.{sound_bytes}
use Rattle.dsdiff_spec.specs.Parts.{channel_count, multiple}
use Rattle.dsdiff_spec.specs.Written.{chunk, form_of, prop_with, cmpr_plain}
use Rattle.dsdiff_spec.specs.Streams.{Front, shape_in, piped, place_of_piped_sound}
use Rattle.dsdiff_spec.proofs.Pieces.{AreWhole, length-sounds, zeros_are_whole}
use Rattle.dsdiff_spec.proofs.MadeLengths.{sound_chunk}
use Rattle.stream_spec.specs.Outcome.{sound_size}
use Rattle.dst_pipes.specs.Fronts.{version_bytes, opening_bytes, plain_size, front_bytes}

-- ---- sizes
abbrev pub size_of : Front → ℕ
size_of front = sound_bytes (shape_in front.prop)

abbrev pub zeros : Front → ℕ → List ℕ
zeros front k = concat (replicate (front.frames - k) (replicate (size_of front) 0))

shared : (k m n : ℕ) → k * n + m * n ≡ (k + m) * n
shared zero m n = omega arith
shared (suc k) m n = (let later = shared k m n in omega (arith, later))

pub length-body : (front : Front) (sounds : List (List ℕ)) → AreWhole (size_of front) sounds → length sounds ≤ front.frames →
    length (concat sounds ++ zeros front (length sounds)) ≡ sound_size front
length-body front sounds whole le =
    let k = length sounds in
    let m = front.frames - k in
    let all : k + m ≡ front.frames = omega (arith, le) in
    length-append (concat sounds) (zeros front k)
    ∙ ap₂ (λ a b. a + b) (length-sounds (size_of front) sounds whole)
    (length-sounds (size_of front) (replicate m (replicate (size_of front) 0)) (zeros_are_whole m (size_of front))
    ∙ ap (λ n. n * size_of front) (length-replicate m (replicate (size_of front) 0)))
    ∙ shared k m (size_of front)
    ∙ ap (λ n. n * size_of front) all

-- a sound of whole frames has an even number of bytes
even_parts : (a b c : ℕ) → a * (4704 * b * c) ≡ 2 * (a * (2352 * b * c))
even_parts a b c = grind arith

even : (front : Front) → sound_size front % 2 ≡ 0
even front =
    ap (λ n. n % 2) (even_parts front.frames (multiple front.prop) (channel_count front.prop)) ∙ mul-mod_right 2 _

-- ---- the chunks of the plain file
version_is : (version : List ℕ) → length version ≡ 4 → chunk "FVER" version ≡ version_bytes version
version_is version e =
    ap (λ n. codes "FVER" ++ big_bytes 8 n ++ version ++ (if n % 2 == 1 then 0 ∷ [] else [])) e
    ∙ append-nil (codes "FVER" ++ big_bytes 8 4 ++ version)

length-version : (version : List ℕ) → length version ≡ 4 → length (version_bytes version) ≡ 16
length-version version e =
    omega (arith, e, length-append (codes "FVER" ++ big_bytes 8 4) version, length-append (codes "FVER") (big_bytes 8 4), length-bytes_high_first 8 4)

length-sound : (body : List ℕ) (n : ℕ) → length (codes "DSD " ++ big_bytes 8 n ++ body) ≡ 12 + length body
length-sound body n =
    omega (arith, length-append (codes "DSD " ++ big_bytes 8 n) body, length-append (codes "DSD ") (big_bytes 8 n), length-bytes_high_first 8 n)

three : (a b c : List ℕ) → concat (a ∷ b ∷ c ∷ []) ≡ a ++ (b ++ c)
three a b c = ap (λ x. a ++ (b ++ x)) (append-nil c)

grouped : (a b c d e : List ℕ) → a ++ (b ++ (c ++ (d ++ e))) ≡ (a ++ b ++ c ++ d) ++ e
grouped a b c d e = simp append_assoc refl

pub piped_is : (front : Front) (sounds : List (List ℕ)) → length front.version ≡ 4 → AreWhole (size_of front) sounds → length sounds ≤ front.frames →
    piped front sounds ≡ front_bytes front ++ (concat sounds ++ zeros front (length sounds))
piped_is front sounds four whole le =
    let body = concat sounds ++ zeros front (length sounds) in
    let n = sound_size front in
    let v = version_bytes front.version in
    let p = prop_with front.prop cmpr_plain in
    let d = codes "DSD " ++ big_bytes 8 n ++ body in
    let long = length-body front sounds whole le in
    let size : 4 + length (v ++ (p ++ d)) ≡ plain_size front.prop n =
    omega (arith, length-append v (p ++ d), length-append p d, length-version front.version four, length-sound body n, long) in
    ap (λ x. form_of (x ∷ p ∷ chunk "DSD " body ∷ [])) (version_is front.version four)
    ∙ ap (λ x. form_of (v ∷ p ∷ x ∷ [])) (sound_chunk body n long (even front))
    ∙ ap (λ x. codes "FRM8" ++ big_bytes 8 (4 + length x) ++ codes "DSD " ++ x) (three v p d)
    ∙ ap (λ m. opening_bytes m ++ (v ++ (p ++ d))) size
    ∙ ap (λ x. opening_bytes (plain_size front.prop n) ++ (v ++ (p ++ x)))
    (append_assoc (codes "DSD ") (big_bytes 8 n) body ∙ sym (append_assoc (codes "DSD ") (big_bytes 8 n) body))
    ∙ grouped (opening_bytes (plain_size front.prop n)) v p (codes "DSD " ++ big_bytes 8 n) body

pub length-front : (front : Front) → length front.version ≡ 4 → length (front_bytes front) ≡ place_of_piped_sound front
length-front front four =
    let v = version_bytes front.version in
    let p = prop_with front.prop cmpr_plain in
    let n = sound_size front in
    let o = opening_bytes (plain_size front.prop n) in
    let d = codes "DSD " ++ big_bytes 8 n in
    omega (
      arith,
      length-append (o ++ v ++ p) d,
      length-append (o ++ v) p,
      length-append o v,
      length-append (codes "FRM8" ++ big_bytes 8 (plain_size front.prop n)) (codes "DSD "),
      length-append (codes "FRM8") (big_bytes 8 (plain_size front.prop n)),
      length-bytes_high_first 8 (plain_size front.prop n),
      length-append (codes "DSD ") (big_bytes 8 n),
      length-bytes_high_first 8 n,
      ap length (version_is front.version four),
    )
