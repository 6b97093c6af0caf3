-- A sound by its samples: how long it is, each byte of it, and each sample.
use Rattle.std.proofs.Common.{◌≡◌, ℕ, ◌+◌, ◌-◌, ◌*◌, ◌/◌, ◌%◌, ◌^◌, ◌<◌, take, length, get_or, sym, ap, ◌∙◌, arith}
use Rattle.std.specs.List.{flat_map, range_with_len}
use Rattle.std.proofs.lemmas.List.{length-take}
use Rattle.std.proofs.lemmas.List.Concat.{get_or-flat_map}
use Rattle.std.proofs.lemmas.List.FromFn.{get_or-map-range_with_len}
use Rattle.dst_spec.specs.Bits.{number_from, AreBits, AreBytes}
use Rattle.dst_spec.proofs.Lists.{all_map, all_flat_map, all_range}
use Rattle.dst_spec.proofs.Numbers.{length-range, get_or-range, number_from-below, bit-number_from, low_bits-at}
use Rattle.dsdiff_spec.specs.Samples.{eight, sound_of, sample_in}
use Rattle.dsdiff_spec.proofs.DsfLengths.{length-parts}
use Rattle.dsdiff_spec.proofs.MadeLengths.{row, length-group}

-- a byte by its channel and its place in it
pub byte_of_sound : (F : ℕ → ℕ → ℕ) (channels octets c i : ℕ) → c < channels → i < octets →
    get_or (sound_of F channels octets) (i * channels + c) 0 ≡ number_from (eight F c i) 0 8
unfolding sound_of
byte_of_sound F channels octets c i below within =
    let all = range_with_len 0 octets in
    let there : get_or all i 0 ≡ i = get_or-range 0 octets i within ∙ omega arith in
    let front : length (take i all) ≡ i = omega (arith, length-take i all, length-range 0 octets) in
    let before : length (flat_map (row F channels) (take i all)) ≡ i * channels =
    length-parts channels (row F channels) (take i all) (length-group F channels) ∙ ap (λ n. n * channels) front in
    ap (λ n. get_or (flat_map (row F channels) all) (n + c) 0) (sym before)
    ∙ get_or-flat_map (row F channels) all i c 0 0 (omega (arith, within, length-range 0 octets))
    (omega (arith, below, length-group F channels (get_or all i 0)))
    ∙ ap (λ k. get_or (row F channels k) c 0) there
    ∙ get_or-map-range_with_len (λ k. number_from (eight F k i) 0 8) 0 channels c c 0 below (omega arith)

-- where samples are bits, a byte is one, and each sample is in its byte
bits_of_eight : (F : ℕ → ℕ → ℕ) (c i : ℕ) → ((t : ℕ) → F c t < 2) → AreBits (eight F c i)
bits_of_eight F c i bits = all_map (λ b. b < 2) (λ s. F c (8 * i + s)) (range_with_len 0 8) (all_range (λ s. F c (8 * i + s) < 2) 0 8 (λ s l. bits (8 * i + s)))

pub sound_is_bytes : (F : ℕ → ℕ → ℕ) (channels octets : ℕ) → ((c t : ℕ) → F c t < 2) → AreBytes (sound_of F channels octets)
unfolding sound_of
sound_is_bytes F channels octets bits =
    all_flat_map (λ b. b < 256) (row F channels) (range_with_len 0 octets)
    (all_range (λ i. AreBytes (row F channels i)) 0 octets
    (λ i l. all_map (λ b. b < 256) (λ c. number_from (eight F c i) 0 8) (range_with_len 0 channels)
    (all_range (λ c. number_from (eight F c i) 0 8 < 256) 0 channels (λ c k. number_from-below (eight F c i) 0 8 (bits_of_eight F c i (bits c))))))

pub sample_of_sound : (F : ℕ → ℕ → ℕ) (channels octets c t : ℕ) → ((c t : ℕ) → F c t < 2) → c < channels → t < 8 * octets →
    sample_in (sound_of F channels octets) channels c t ≡ F c t
sample_of_sound F channels octets c t bits below within =
    let i = t / 8 in
    let s = t % 8 in
    let whole : 8 * i + s ≡ t = omega arith in
    let all : s + (7 - s) + 1 ≡ 8 = omega arith in
    ap (λ b. b / 2 ^ (7 - s) % 2) (byte_of_sound F channels octets c i below (omega arith))
    ∙ sym (low_bits-at 8 (number_from (eight F c i) 0 8) s (7 - s) all)
    ∙ bit-number_from (eight F c i) 0 8 s (bits_of_eight F c i (bits c)) (omega arith)
    ∙ get_or-map-range_with_len (λ k. F c (8 * i + k)) 0 8 (0 + s) s 0 (omega arith) (omega arith)
    ∙ ap (F c) whole
