-- How long a sound by its samples is, and `PROP` and the sound chunk of a form that is made.
use Rattle.std.proofs.Common.{◌≡◌, ℕ, zero, suc, ◌+◌, ◌*◌, ◌%◌, ◌≤◌, List, [], ◌∷◌, ◌++◌, map, length, append-nil, refl, ap, ◌∙◌, arith}
use Rattle.std.specs.Prelude.{◌==◌, codes, if◌then◌else◌}
use Rattle.std.specs.Fmt.{digits}
use Rattle.std.specs.List.{range_with_len}
use Rattle.std.proofs.lemmas.List.{length-map}
use Rattle.byteorder.specs.Endian.{big_bytes}
use Rattle.dst_spec.specs.Bits.{number_from}
use Rattle.dst_spec.proofs.Numbers.{length-range}
use Rattle.dsdiff_spec.specs.Made.{prop_of}
use Rattle.dsdiff_spec.specs.Samples.{eight, sound_of}
use Rattle.dsdiff_spec.specs.Written.{chunk}
use Rattle.dsdiff_spec.proofs.DsfLengths.{length-parts}

-- the bytes of all channels at one place
abbrev pub row : (ℕ → ℕ → ℕ) → ℕ → ℕ → List ℕ
row F channels i = map (λ c. number_from (eight F c i) 0 8) (range_with_len 0 channels)

pub length-group : (F : ℕ → ℕ → ℕ) (channels i : ℕ) → length (row F channels i) ≡ channels
length-group F channels i = length-map (range_with_len 0 channels) (λ c. number_from (eight F c i) 0 8) ∙ length-range 0 channels

pub sound_is_long : (F : ℕ → ℕ → ℕ) (channels octets : ℕ) → length (sound_of F channels octets) ≡ octets * channels
unfolding sound_of
sound_is_long F channels octets =
    length-parts channels (row F channels) (range_with_len 0 octets) (length-group F channels) ∙ ap (λ n. n * channels) (length-range 0 octets)

pub prop_is_long : (m c : ℕ) → 1 ≤ c → c ≤ 6 → length (prop_of c m) ≡ 78 + 4 * c
unfolding digits
prop_is_long m zero least most = absurd (omega (arith, least))
prop_is_long m (suc zero) least most = refl
prop_is_long m (suc (suc zero)) least most = refl
prop_is_long m (suc (suc (suc zero))) least most = refl
prop_is_long m (suc (suc (suc (suc zero)))) least most = refl
prop_is_long m (suc (suc (suc (suc (suc zero))))) least most = refl
prop_is_long m (suc (suc (suc (suc (suc (suc zero)))))) least most = refl
prop_is_long m (suc (suc (suc (suc (suc (suc (suc c))))))) least most = absurd (omega (arith, most))

-- the chunk of a sound of even size
pub sound_chunk : (s : List ℕ) (n : ℕ) → length s ≡ n → n % 2 ≡ 0 → chunk "DSD " s ≡ codes "DSD " ++ big_bytes 8 n ++ s
sound_chunk s n long even =
    ap (λ k. codes "DSD " ++ big_bytes 8 k ++ s ++ (if k % 2 == 1 then 0 ∷ [] else [])) long
    ∙ ap (λ p. codes "DSD " ++ big_bytes 8 n ++ s ++ (if p == 1 then 0 ∷ [] else [])) even
    ∙ append-nil (codes "DSD " ++ big_bytes 8 n ++ s)
