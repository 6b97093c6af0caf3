-- The form that stands for a DSF file is its parts one after the other, so long, and bytes.
use Rattle.std.proofs.Common.{◌≡◌, ℕ, zero, suc, ◌+◌, ◌*◌, ◌%◌, ◌<◌, ◌≤◌, ◌==◌, if◌then◌else◌, List, [], ◌∷◌, ◌++◌, length, take}
use Rattle.std.proofs.Common.{refl, sym, ap, ap₂, ◌∙◌, arith, append_assoc, append-nil, length-append}
use Rattle.std.specs.Prelude.{codes}
use Rattle.std.specs.Fmt.{digits}
use Rattle.byteorder.specs.Endian.{big_bytes}
use Rattle.dsdiff_spec.specs.Dsf.{Dsf, dsf_of, octets, dsf_sample, dsfk, dsdiff}
use Rattle.dsdiff_spec.specs.Made.{fver, prop_of, plain_form}
use Rattle.dsdiff_spec.specs.Samples.{sound_of}
use Rattle.dsdiff_spec.specs.Written.{chunk, cmpr_plain}
use Rattle.dsdiff_spec.proofs.MadeLengths.{prop_is_long, sound_is_long}
use Rattle.dsf_files.specs.Standing.{sound_size, form_size, front, sound, back, front_size, back_size, whole_size}

-- ---- `PROP` of so many channels
-- the front in pieces: the numbers in it, and the ids of the channels
abbrev pub ids : List ℕ
ids = codes "C000C001C002C003C004C005"

abbrev pub front_pieces : (size prop rate chnl count ids sound : List ℕ) → List ℕ
front_pieces size prop rate chnl count ids sound =
    codes "FRM8" ++
    (size ++ ((codes "DSD " ++ fver ++ codes "PROP") ++
    (prop ++ ((codes "SND FS  " ++ big_bytes 8 4) ++
    (rate ++ (codes "CHNL" ++ (chnl ++ (count ++ (ids ++ ((cmpr_plain ++ codes "DSD ") ++ (sound ++ [])))))))))))

front_by_count : (m size sound c : ℕ) → 1 ≤ c → c ≤ 6 →
    front_pieces (big_bytes 8 size) (big_bytes 8 (66 + 4 * c)) (big_bytes 4 (2822400 * m)) (big_bytes 8 (2 + 4 * c)) (big_bytes 2 c) (take (4 * c) ids)
    (big_bytes 8 sound)
    ≡ codes "FRM8" ++ big_bytes 8 size ++ codes "DSD " ++ fver ++ prop_of c m ++ codes "DSD " ++ big_bytes 8 sound
unfolding digits
front_by_count m size sound zero least most = absurd (omega (arith, least))
front_by_count m size sound (suc zero) least most = refl
front_by_count m size sound (suc (suc zero)) least most = refl
front_by_count m size sound (suc (suc (suc zero))) least most = refl
front_by_count m size sound (suc (suc (suc (suc zero)))) least most = refl
front_by_count m size sound (suc (suc (suc (suc (suc zero))))) least most = refl
front_by_count m size sound (suc (suc (suc (suc (suc (suc zero)))))) least most = refl
front_by_count m size sound (suc (suc (suc (suc (suc (suc (suc c))))))) least most = absurd (omega (arith, most))

pub front_is : (d : Dsf) (count multiple size : ℕ) (form prop rate chnl counted sound : List ℕ) → 1 ≤ d.channels → d.channels ≤ 6 →
    count ≡ d.channels → multiple ≡ d.multiple → size ≡ sound_size d →
    form ≡ big_bytes 8 (136 + 4 * count + size + size % 2) → prop ≡ big_bytes 8 (66 + 4 * count) → rate ≡ big_bytes 4 (2822400 * multiple) →
    chnl ≡ big_bytes 8 (2 + 4 * count) → counted ≡ big_bytes 2 count → sound ≡ big_bytes 8 size →
    front_pieces form prop rate chnl counted (take (4 * count) ids) sound ≡ front d
front_is d count multiple size form prop rate chnl counted sound least most is_count is_multiple is_size is_form is_prop is_rate is_chnl is_counted is_sound =
    let all : 136 + 4 * d.channels + sound_size d + sound_size d % 2 ≡ form_size d = omega arith in
    let f : form ≡ big_bytes 8 (form_size d) = is_form ∙ ap₂ (λ c s. big_bytes 8 (136 + 4 * c + s + s % 2)) is_count is_size ∙ ap (big_bytes 8) all in
    let p : prop ≡ big_bytes 8 (66 + 4 * d.channels) = is_prop ∙ ap (λ c. big_bytes 8 (66 + 4 * c)) is_count in
    let r : rate ≡ big_bytes 4 (2822400 * d.multiple) = is_rate ∙ ap (λ m. big_bytes 4 (2822400 * m)) is_multiple in
    let n : chnl ≡ big_bytes 8 (2 + 4 * d.channels) = is_chnl ∙ ap (λ c. big_bytes 8 (2 + 4 * c)) is_count in
    let k : counted ≡ big_bytes 2 d.channels = is_counted ∙ ap (big_bytes 2) is_count in
    let s : sound ≡ big_bytes 8 (sound_size d) = is_sound ∙ ap (big_bytes 8) is_size in
    let i : take (4 * count) ids ≡ take (4 * d.channels) ids = ap (λ c. take (4 * c) ids) is_count in
    same_pieces form prop rate chnl counted (take (4 * count) ids) sound _ _ _ _ _ _ _ f p r n k i s
    ∙ front_by_count d.multiple (form_size d) (sound_size d) d.channels least most
  where
    same_pieces : (a b c d e f g a' b' c' d' e' f' g' : List ℕ) → a ≡ a' → b ≡ b' → c ≡ c' → d ≡ d' → e ≡ e' → f ≡ f' → g ≡ g' →
        front_pieces a b c d e f g ≡ front_pieces a' b' c' d' e' f' g'
    same_pieces a b c d e f g a' b' c' d' e' f' g' p q r s t u v = rw (p, q, r, s, t, u, v) refl

-- the back: a pad byte, and `DSFK`
pub back_is : (d : Dsf) (pad samples type bits : List ℕ) → pad ≡ (if sound_size d % 2 == 1 then 0 ∷ [] else []) →
    samples ≡ big_bytes 8 d.samples → type ≡ big_bytes 4 d.type → bits ≡ d.bits ∷ [] →
    pad ++ ((codes "DSFK" ++ big_bytes 8 14 ++ 1 ∷ []) ++ (samples ++ (type ++ (bits ++ [])))) ≡ back d
back_is d pad samples type bits p s t b = rw (p, s, t, b) refl

-- ---- how long the parts are
long_front : (size sound m c : ℕ) → 1 ≤ c → c ≤ 6 →
    length (codes "FRM8" ++ big_bytes 8 size ++ codes "DSD " ++ fver ++ prop_of c m ++ codes "DSD " ++ big_bytes 8 sound) ≡ 122 + 4 * c
unfolding digits
long_front size sound m zero least most = absurd (omega (arith, least))
long_front size sound m (suc zero) least most = refl
long_front size sound m (suc (suc zero)) least most = refl
long_front size sound m (suc (suc (suc zero))) least most = refl
long_front size sound m (suc (suc (suc (suc zero)))) least most = refl
long_front size sound m (suc (suc (suc (suc (suc zero))))) least most = refl
long_front size sound m (suc (suc (suc (suc (suc (suc zero)))))) least most = refl
long_front size sound m (suc (suc (suc (suc (suc (suc (suc c))))))) least most = absurd (omega (arith, most))

pub length-front : (d : Dsf) → 1 ≤ d.channels → d.channels ≤ 6 → length (front d) ≡ front_size d
length-front d least most = long_front (form_size d) (sound_size d) d.multiple d.channels least most

pad_long : (n : ℕ) → length {A = ℕ} (if n % 2 == 1 then 0 ∷ [] else []) ≡ n % 2
pad_long n = go (n % 2) (omega arith)
  where
    go : (k : ℕ) → k < 2 → length {A = ℕ} (if k == 1 then 0 ∷ [] else []) ≡ k
    go zero l = refl
    go (suc zero) l = refl
    go (suc (suc k)) l = absurd (omega (arith, l))

pub length-back : (d : Dsf) → length (back d) ≡ back_size d
length-back d =
    let dsfk_long : length (dsfk d) ≡ 26 = refl in
    omega (arith, length-append (if sound_size d % 2 == 1 then 0 ∷ [] else []) (dsfk d), pad_long (sound_size d))

pub length-sound : (f : List ℕ) (d : Dsf) → length (sound f d) ≡ sound_size d
length-sound f d = sound_is_long (dsf_sample f) d.channels (octets d)

-- ---- one after the other they are the form
regrouped : (a b c d e s p k : List ℕ) → a ++ b ++ c ++ d ++ e ++ s ++ (p ++ k) ≡ a ++ (b ++ (c ++ ((d ++ e ++ s ++ p) ++ (k ++ []))))
regrouped a b c d e s p k = simp (append_assoc, append-nil)

pub standing : (f : List ℕ) (d : Dsf) → dsf_of f ≡ d → 1 ≤ d.channels → d.channels ≤ 6 → dsdiff f ≡ front d ++ sound f d ++ back d
unfolding plain_form
standing f d says least most =
    let s = sound f d in
    let prop = prop_of d.channels d.multiple in
    let pad = if sound_size d % 2 == 1 then 0 ∷ [] else [] in
    let long = length-sound f d in
    let one : chunk "DSD " s ≡ codes "DSD " ++ big_bytes 8 (sound_size d) ++ s ++ pad =
    ap (λ n. codes "DSD " ++ big_bytes 8 n ++ s ++ (if n % 2 == 1 then 0 ∷ [] else [])) long in
    let whole = fver ++ (prop ++ (chunk "DSD " s ++ (dsfk d ++ []))) in
    let a = length-append fver (prop ++ (chunk "DSD " s ++ (dsfk d ++ []))) in
    let b = length-append prop (chunk "DSD " s ++ (dsfk d ++ [])) in
    let c = length-append (chunk "DSD " s) (dsfk d ++ []) in
    let e = ap length one ∙ length-append (codes "DSD " ++ big_bytes 8 (sound_size d) ++ s) pad in
    let h = length-append (codes "DSD " ++ big_bytes 8 (sound_size d)) s in
    let i : length (codes "DSD " ++ big_bytes 8 (sound_size d)) ≡ 12 = refl in
    let k : length (dsfk d ++ []) ≡ 26 = refl in
    let v : length fver ≡ 16 = refl in
    let size : 4 + length whole ≡ form_size d = omega
    (arith, a, b, c, e, h, i, k, v, long, pad_long (sound_size d), prop_is_long d.multiple d.channels least most) in
    let form = codes "FRM8" ++ big_bytes 8 (form_size d) ++ codes "DSD " in
    ap (λ (x : Dsf). plain_form x.channels x.multiple (sound_of (dsf_sample f) x.channels (octets x)) (dsfk x ∷ [])) says
    ∙ ap (λ n. codes "FRM8" ++ big_bytes 8 n ++ codes "DSD " ++ whole) size
    ∙ ap (λ w. form ++ (fver ++ (prop ++ (w ++ (dsfk d ++ []))))) one
    ∙ sym (regrouped form fver prop (codes "DSD ") (big_bytes 8 (sound_size d)) s pad (dsfk d))

pub length-dsdiff : (f : List ℕ) (d : Dsf) → dsf_of f ≡ d → 1 ≤ d.channels → d.channels ≤ 6 → length (dsdiff f) ≡ whole_size d
length-dsdiff f d says least most =
    let a = ap length (standing f d says least most) ∙ length-append (front d ++ sound f d) (back d) in
    let b = length-append (front d) (sound f d) in
    omega (arith, a, b, length-front d least most, length-sound f d, length-back d)
