-- The bytes of a row of a DSF file by those of the sound in it.
use Rattle.std.proofs.Common.{◌≡◌, inl, inr, ℕ, ◌+◌, ◌-◌, ◌*◌, ◌/◌, ◌%◌, ◌^◌, ◌<◌, ◌≤◌, Bool, true, false, if◌then◌else◌, List, map}
use Rattle.std.proofs.Common.{reverse, take, length, get_or}
use Rattle.std.proofs.Common.{refl, sym, ap, ap₂, subst, ◌∙◌, arith}
use Rattle.std.specs.Prelude.{◌==◌}
use Rattle.std.specs.List.{flat_map, range_with_len}
use Rattle.std.proofs.lemmas.Bool.{lt-ltb, le-ltb, cases_lt}
use Rattle.std.proofs.lemmas.List.{ext_get_or, get_or_past, length-take}
use Rattle.std.proofs.lemmas.List.Concat.{get_or-flat_map}
use Rattle.std.proofs.lemmas.List.FromFn.{get_or-map-range_with_len}
use Rattle.std.proofs.Math.Nat.{mul-le-mul_right}
use Rattle.dst_spec.specs.Bits.{number_from}
use Rattle.dst_spec.proofs.Lists.{place-below}
use Rattle.dst_spec.proofs.Numbers.{length-range, get_or-range}
use Rattle.dsdiff_spec.specs.Bytes.{◌below◌}
use Rattle.dsdiff_spec.specs.Dsf.{Dsf, dsf_byte, dsf_row, octets}
use Rattle.dsdiff_spec.specs.Samples.{eight, sample_in}
use Rattle.dsdiff_spec.proofs.DsfLengths.{length-parts, length-block, length-dsf_row}
use Rattle.dsf_files.specs.Rows.{turned, in_order, cleared}
use Rattle.dsf_files.proofs.SoundBytes.{joined, eight_joined, same_joined, joined_alike, bit_of, turned_bits, bits_in_order, part_of_bits, below_by}
use Rattle.dst_dsf.specs.Rows.{samples_of, HasRow, ends_within, IsClearedRow}
use Rattle.dst_dsf.proofs.RowPlaces.{place_at}

-- ---- a byte of the sound by its samples
abbrev pub byte_in : List ℕ → ℕ → ℕ → ℕ → ℕ
byte_in sound channels c i = get_or sound (i * channels + c) 0

abbrev number_of : Dsf → List ℕ → ℕ → ℕ → ℕ
number_of d sound c i = number_from (eight (samples_of d sound) c i) 0 8

sample_here : (d : Dsf) (sound : List ℕ) (c i s : ℕ) → s < 8 →
    samples_of d sound c (8 * i + s) ≡ (if (8 * i + s) below d.samples then bit_of 8 (byte_in sound d.channels c i) s else 0)
sample_here d sound c i s small =
    let octet : (8 * i + s) / 8 ≡ i = omega arith in
    let bit : (8 * i + s) % 8 ≡ s = omega arith in
    ap (λ b. if (8 * i + s) below d.samples then b else 0)
    (ap₂ (λ o k. get_or sound (o * d.channels + c) 0 / 2 ^ (7 - k) % 2) octet bit)

whole_number : (d : Dsf) (sound : List ℕ) (c i : ℕ) → byte_in sound d.channels c i < 256 → 8 * i + 8 ≤ d.samples →
    number_of d sound c i ≡ byte_in sound d.channels c i
whole_number d sound c i small all =
    let g = bit_of 8 (byte_in sound d.channels c i) in
    joined_alike (samples_of d sound) c i g
    (λ s l. sample_here d sound c i s l ∙ ap (λ b. if b then g s else 0) (lt-ltb (8 * i + s) d.samples (omega arith)))
    ∙ bits_in_order 8 (byte_in sound d.channels c i) refl small

part_number : (d : Dsf) (sound : List ℕ) (c i k : ℕ) → byte_in sound d.channels c i < 256 → d.samples ≡ 8 * i + k → 0 < k → k < 8 →
    number_of d sound c i ≡ cleared (8 - k) (byte_in sound d.channels c i)
part_number d sound c i k small count least most =
    let g = bit_of 8 (byte_in sound d.channels c i) in
    joined_alike (samples_of d sound) c i (λ s. if s below k then g s else 0)
    (λ s l. sample_here d sound c i s l ∙ ap (λ b. if b then g s else 0) (below_by (8 * i) s k d.samples count))
    ∙ part_of_bits k g (λ s. omega arith) least most
    ∙ ap (cleared (8 - k)) (bits_in_order 8 (byte_in sound d.channels c i) refl small)

past_number : (d : Dsf) (sound : List ℕ) (c i : ℕ) → d.samples ≤ 8 * i → number_of d sound c i ≡ 0
past_number d sound c i past =
    let g = bit_of 8 (byte_in sound d.channels c i) in
    joined_alike (samples_of d sound) c i (λ s. 0)
    (λ s l. sample_here d sound c i s l ∙ ap (λ b. if b then g s else 0) (le-ltb (8 * i + s) d.samples (omega arith)))

-- ---- in either order of bits
samples_are_bits : (d : Dsf) (sound : List ℕ) (c t : ℕ) → samples_of d sound c t < 2
samples_are_bits d sound c t = go (t below d.samples)
  where
    go : (b : Bool) → (if b then sample_in sound d.channels c t else 0) < 2
    go true = omega arith
    go false = omega arith

reversed_joined : (F : ℕ → ℕ → ℕ) (c i : ℕ) → number_from (reverse (eight F c i)) 0 8 ≡
    joined (F c (8 * i + 7)) (F c (8 * i + 6)) (F c (8 * i + 5)) (F c (8 * i + 4)) (F c (8 * i + 3)) (F c (8 * i + 2)) (F c (8 * i + 1)) (F c (8 * i + 0))
unfolding number_from
reversed_joined F c i = refl

joined_turned : (a b c d e f g h : ℕ) → a < 2 → b < 2 → c < 2 → d < 2 → e < 2 → f < 2 → g < 2 → h < 2 →
    joined h g f e d c b a ≡ turned (joined a b c d e f g h)
joined_turned a b c d e f g h p q r s t u v w =
    let n = joined a b c d e f g h in
    same_joined h g f e d c b a (n / 2 ^ 0 % 2) (n / 2 ^ 1 % 2) (n / 2 ^ 2 % 2) (n / 2 ^ 3 % 2) (n / 2 ^ 4 % 2) (n / 2 ^ 5 % 2) (n / 2 ^ 6 % 2) (n / 2 ^ 7 % 2)
    (omega arith) (omega arith) (omega arith) (omega arith) (omega arith) (omega arith) (omega arith) (omega arith)
    ∙ turned_bits n

reversed_number : (F : ℕ → ℕ → ℕ) (c i : ℕ) → ((t : ℕ) → F c t < 2) → number_from (reverse (eight F c i)) 0 8 ≡ turned (number_from (eight F c i) 0 8)
reversed_number F c i bits =
    reversed_joined F c i
    ∙ joined_turned (F c (8 * i + 0)) (F c (8 * i + 1)) (F c (8 * i + 2)) (F c (8 * i + 3)) (F c (8 * i + 4)) (F c (8 * i + 5)) (F c (8 * i + 6))
    (F c (8 * i + 7))
    (bits (8 * i + 0)) (bits (8 * i + 1)) (bits (8 * i + 2)) (bits (8 * i + 3)) (bits (8 * i + 4)) (bits (8 * i + 5)) (bits (8 * i + 6)) (bits (8 * i + 7))
    ∙ ap turned (sym (eight_joined F c i))

byte_ordered : (d : Dsf) (sound : List ℕ) (c i : ℕ) → dsf_byte d (samples_of d sound) c i ≡ in_order d.bits (number_of d sound c i)
byte_ordered d sound c i = go (d.bits == 1)
  where
    go : (one : Bool) → number_from (if one then reverse (eight (samples_of d sound) c i) else eight (samples_of d sound) c i) 0 8 ≡
        (if one then turned (number_of d sound c i) else number_of d sound c i)
    go true = reversed_number (samples_of d sound) c i (samples_are_bits d sound c)
    go false = refl

-- ---- a byte of a row of blocks
pub byte_of_row : (d : Dsf) (F : ℕ → ℕ → ℕ) (number c j : ℕ) → c < d.channels → j < 4096 →
    get_or (dsf_row d F number) (4096 * c + j) 0 ≡ dsf_byte d F c (4096 * number + j)
byte_of_row d F number c j mine small =
    let all = range_with_len 0 d.channels in
    let block : ℕ → List ℕ = λ k. map (λ m. dsf_byte d F k (4096 * number + m)) (range_with_len 0 4096) in
    let there : get_or all c 0 ≡ c = get_or-range 0 d.channels c mine ∙ omega arith in
    let front : length (take c all) ≡ c = omega (arith, length-take c all, length-range 0 d.channels) in
    let before : length (flat_map block (take c all)) ≡ 4096 * c = length-parts 4096 block (take c all) (λ k. length-block d F number k)
    ∙ ap (λ n. n * 4096) front ∙ omega arith in
    ap (λ n. get_or (flat_map block all) (n + j) 0) (sym before)
    ∙ get_or-flat_map block all c j 0 0 (omega (arith, mine, length-range 0 d.channels)) (omega (arith, small, length-block d F number (get_or all c 0)))
    ∙ ap (λ k. get_or (block k) j 0) there
    ∙ get_or-map-range_with_len (λ m. dsf_byte d F c (4096 * number + m)) 0 4096 j j 0 small (omega arith)

-- what is known of a row of sound, of what clearing leaves of it, and of the row in its order
pub record IsReady (d : Dsf) (sound : List ℕ) (number : ℕ) (raw clear new : List ℕ) : Type 0 where
  pub few : length sound ≤ octets d * d.channels
  pub small : (k : ℕ) → get_or raw k 0 < 256
  pub has : HasRow d.channels sound number raw
  pub cleared : IsClearedRow d number raw clear
  pub long : length new ≡ 4096 * d.channels
  pub ordered : (k : ℕ) → k < 4096 * d.channels → get_or new k 0 ≡ in_order d.bits (get_or clear k 0)

module _ (d : Dsf) (sound : List ℕ) (number : ℕ) (raw clear new : List ℕ) (h : IsReady d sound number raw clear new)
  where
    raw_byte : (c j : ℕ) → c < d.channels → j < 4096 → get_or raw (4096 * c + j) 0 ≡ byte_in sound d.channels c (4096 * number + j)
    raw_byte c j mine small =
        let within : j * d.channels + c < 4096 * d.channels = place-below j c d.channels 4096 mine small in
        let there : number * (4096 * d.channels) + (j * d.channels + c) ≡ (4096 * number + j) * d.channels + c = omega arith in
        ap (λ k. get_or raw k 0) (sym (place_at d.channels j c (j * d.channels + c) refl mine))
        ∙ h.has (j * d.channels + c) within
        ∙ ap (λ k. get_or sound k 0) there

    byte_small : (c j : ℕ) → c < d.channels → j < 4096 → byte_in sound d.channels c (4096 * number + j) < 256
    byte_small c j mine small = subst (λ b. b < 256) (raw_byte c j mine small) (h.small (4096 * c + j))

    nothing_past : (c i : ℕ) → octets d ≤ i → byte_in sound d.channels c i ≡ 0
    nothing_past c i past =
        let more : octets d * d.channels ≤ i * d.channels = mul-le-mul_right d.channels past in
        get_or_past sound (i * d.channels + c) 0 (omega (arith, h.few, more))

    clear_byte : (c j : ℕ) → c < d.channels → j < 4096 → get_or clear (4096 * c + j) 0 ≡ number_of d sound c (4096 * number + j)
    clear_byte c j mine small = elim (cases_lt d.samples (8 * (4096 * number + j) + 8)) [
      | inr all ↦
          h.cleared.others c j mine small (λ e. not_here d.samples number j (e.1) (e.2) all)
          ∙ raw_byte c j mine small
          ∙ sym (whole_number d sound c (4096 * number + j) (byte_small c j mine small) all)
      | inl less ↦ elim (cases_lt (8 * (4096 * number + j)) d.samples) [
        | inl more ↦
            let k = d.samples % 8 in
            let count : d.samples ≡ 8 * (4096 * number + j) + k = the_rest d.samples (4096 * number + j) more less in
            let some = is_some d.samples (4096 * number + j) more less in
            let here : ends_within d number j = (
              (λ e. omega (arith, e, some)),
              row_there d.samples number j more less small,
              octet_there d.samples
                  number j more less small,
            ) in
            h.cleared.last c j mine small here
            ∙ ap (cleared (8 - k)) (raw_byte c j mine small)
            ∙ sym (part_number d sound c (4096 * number + j) k (byte_small c j mine small) count some (omega arith))
        | inr past ↦
            h.cleared.others c j mine small (λ e. not_past d.samples number j (e.0) (e.1) (e.2) past)
            ∙ raw_byte c j mine small
            ∙ nothing_past c (4096 * number + j) (omega arith)
            ∙ sym (past_number d sound c (4096 * number + j) past)
      ]
    ]
      where
        not_here : (n r j : ℕ) → n / 32768 ≡ r → n % 32768 / 8 ≡ j → 8 * (4096 * r + j) + 8 ≤ n → ⊥
        not_here n r j a b l = absurd (omega arith)

        not_past : (n r j : ℕ) → (n % 8 ≡ 0 → ⊥) → n / 32768 ≡ r → n % 32768 / 8 ≡ j → n ≤ 8 * (4096 * r + j) → ⊥
        not_past n r j some a b l = some (omega arith)

        the_rest : (n i : ℕ) → 8 * i < n → n < 8 * i + 8 → n ≡ 8 * i + n % 8
        the_rest n i a b = omega arith

        is_some : (n i : ℕ) → 8 * i < n → n < 8 * i + 8 → 0 < n % 8
        is_some n i a b = omega arith

        row_there : (n r j : ℕ) → 8 * (4096 * r + j) < n → n < 8 * (4096 * r + j) + 8 → j < 4096 → n / 32768 ≡ r
        row_there n r j a b l = omega arith

        octet_there : (n r j : ℕ) → 8 * (4096 * r + j) < n → n < 8 * (4096 * r + j) + 8 → j < 4096 → n % 32768 / 8 ≡ j
        octet_there n r j a b l = omega arith

    new_byte : (c j : ℕ) → c < d.channels → j < 4096 → get_or new (4096 * c + j) 0 ≡ get_or (dsf_row d (samples_of d sound) number) (4096 * c + j) 0
    new_byte c j mine small =
        h.ordered (4096 * c + j) (omega arith)
        ∙ ap (in_order d.bits) (clear_byte c j mine small)
        ∙ sym (byte_ordered d sound c (4096 * number + j))
        ∙ sym (byte_of_row d (samples_of d sound) number c j mine small)

    pub is_row : new ≡ dsf_row d (samples_of d sound) number
    is_row =
        let long = length-dsf_row d (samples_of d sound) number in
        ext_get_or 0 new (dsf_row d (samples_of d sound) number) (omega (arith, h.long))
        (λ k l.
        let split : 4096 * (k / 4096) + k % 4096 ≡ k = omega arith in
        let there : get_or new (4096 * (k / 4096) + k % 4096) 0 ≡ get_or (dsf_row d (samples_of d sound) number) (4096 * (k / 4096) + k % 4096) 0 =
        new_byte (k / 4096) (k % 4096) (omega (arith, l, h.long)) (omega arith) in
        subst (λ k. get_or new k 0 ≡ get_or (dsf_row d (samples_of d sound) number) k 0) split there)
