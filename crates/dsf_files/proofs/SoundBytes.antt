-- Bytes of sound by the bytes of blocks: eight samples of a byte, in either order.
use Rattle.std.proofs.Common.{◌≡◌, ℕ, zero, suc, ◌+◌, ◌-◌, ◌*◌, ◌/◌, ◌%◌, ◌^◌, ◌<◌, ◌≤◌, Bool, true, false, if◌then◌else◌, List, get_or, refl, sym}
use Rattle.std.proofs.Common.{ap, ap₂, ◌∙◌, inl, inr, arith}
use Rattle.std.specs.Prelude.{◌==◌}
use Rattle.std.specs.Int.{reverse_bits_onto}
use Rattle.std.proofs.lemmas.Bool.{lt-ltb, le-ltb, cases_lt}
use Rattle.dst_spec.specs.Bits.{number_from, low_bits}
use Rattle.dst_spec.proofs.Numbers.{number_from-low_bits}
use Rattle.dsdiff_spec.specs.Bytes.{◌below◌}
use Rattle.dsdiff_spec.specs.Dsf.{dsf_of, dsf_sample}
use Rattle.dsdiff_spec.specs.Samples.{eight}
use Rattle.dsf_files.specs.Forms.{is_order}
use Rattle.dsf_files.specs.Rows.{turned, in_order, cleared, sound_byte}

-- the number of eight bits
abbrev pub joined : (a b c d e f g h : ℕ) → ℕ
joined a b c d e f g h = 2 * (2 * (2 * (2 * (2 * (2 * (2 * (2 * 0 + a) + b) + c) + d) + e) + f) + g) + h

pub eight_joined : (F : ℕ → ℕ → ℕ) (c i : ℕ) → number_from (eight F c i) 0 8 ≡
    joined (F c (8 * i + 0)) (F c (8 * i + 1)) (F c (8 * i + 2)) (F c (8 * i + 3)) (F c (8 * i + 4)) (F c (8 * i + 5)) (F c (8 * i + 6)) (F c (8 * i + 7))
unfolding number_from
eight_joined F c i = refl

abbrev pub joined_of : (ℕ → ℕ) → ℕ
joined_of g = joined (g 0) (g 1) (g 2) (g 3) (g 4) (g 5) (g 6) (g 7)

pub same_joined : (a b c d e f g h a' b' c' d' e' f' g' h' : ℕ) → a ≡ a' → b ≡ b' → c ≡ c' → d ≡ d' → e ≡ e' → f ≡ f' → g ≡ g' → h ≡ h' →
    joined a b c d e f g h ≡ joined a' b' c' d' e' f' g' h'
same_joined a b c d e f g h a' b' c' d' e' f' g' h' p q r s t u v w = omega arith

pub joined_alike : (F : ℕ → ℕ → ℕ) (c i : ℕ) (g : ℕ → ℕ) → ((s : ℕ) → s < 8 → F c (8 * i + s) ≡ g s) → number_from (eight F c i) 0 8 ≡ joined_of g
joined_alike F c i g same =
    eight_joined F c i
    ∙ same_joined (F c (8 * i + 0)) (F c (8 * i + 1)) (F c (8 * i + 2)) (F c (8 * i + 3)) (F c (8 * i + 4)) (F c (8 * i + 5)) (F c (8 * i + 6))
    (F c (8 * i + 7))
    (g 0) (g 1) (g 2) (g 3) (g 4) (g 5) (g 6) (g 7)
    (same 0 (omega arith)) (same 1 (omega arith)) (same 2 (omega arith)) (same 3 (omega arith)) (same 4 (omega arith)) (same 5 (omega arith))
    (same 6 (omega arith))
    (same 7 (omega arith))

-- ---- the bits of a byte in either order
abbrev pub bit_of : ℕ → ℕ → ℕ → ℕ
bit_of order byte s = byte / 2 ^ (if order == 1 then s else (7 - s)) % 2

pub turned_bits : (b : ℕ) → joined_of (λ s. b / 2 ^ s % 2) ≡ turned b
unfolding reverse_bits_onto
turned_bits b =
    let b2 : b / 2 / 2 ≡ b / 4 = omega arith in
    let b3 : b / 2 / 2 / 2 ≡ b / 8 = ap (λ n. n / 2) b2 ∙ omega arith in
    let b4 : b / 2 / 2 / 2 / 2 ≡ b / 16 = ap (λ n. n / 2) b3 ∙ omega arith in
    let b5 : b / 2 / 2 / 2 / 2 / 2 ≡ b / 32 = ap (λ n. n / 2) b4 ∙ omega arith in
    let b6 : b / 2 / 2 / 2 / 2 / 2 / 2 ≡ b / 64 = ap (λ n. n / 2) b5 ∙ omega arith in
    let b7 : b / 2 / 2 / 2 / 2 / 2 / 2 / 2 ≡ b / 128 = ap (λ n. n / 2) b6 ∙ omega arith in
    let first : b / 1 ≡ b = omega arith in
    rw (b7, b6, b5, b4, b3, b2, first) (sums (b % 2) (b / 2 % 2) (b / 4 % 2) (b / 8 % 2) (b / 16 % 2) (b / 32 % 2) (b / 64 % 2) (b / 128 % 2))
  where
    sums : (a b c d e f g h : ℕ) → joined a b c d e f g h ≡ (((((((0 * 2 + a) * 2 + b) * 2 + c) * 2 + d) * 2 + e) * 2 + f) * 2 + g) * 2 + h
    sums a b c d e f g h = omega arith

same_bits : (b : ℕ) → b < 256 → joined_of (λ s. b / 2 ^ (7 - s) % 2) ≡ b
unfolding number_from low_bits
same_bits b small = number_from-low_bits 8 b ∙ omega arith

pub bits_in_order : (order b : ℕ) → is_order order ≡ true → b < 256 → joined_of (bit_of order b) ≡ in_order order b
bits_in_order order b lawful small = go (order == 1)
  where
    go : (one : Bool) → joined_of (λ s. b / 2 ^ (if one then s else (7 - s)) % 2) ≡ (if one then turned b else b)
    go true = turned_bits b
    go false = same_bits b small

-- the first k bits, and zeros
pub part_of_bits : (k : ℕ) (g : ℕ → ℕ) → ((s : ℕ) → g s < 2) → 0 < k → k < 8 →
    joined_of (λ s. if s below k then g s else 0) ≡ cleared (8 - k) (joined_of g)
part_of_bits zero g bits least most = absurd (omega arith)
part_of_bits (suc zero) g bits least most =
    omega (arith, bits 0, bits 1, bits 2, bits 3, bits 4, bits 5, bits 6, bits 7)
part_of_bits (suc (suc zero)) g bits least most =
    omega (arith, bits 0, bits 1, bits 2, bits 3, bits 4, bits 5, bits 6, bits 7)
part_of_bits (suc (suc (suc zero))) g bits least most =
    omega (arith, bits 0, bits 1, bits 2, bits 3, bits 4, bits 5, bits 6, bits 7)
part_of_bits (suc (suc (suc (suc zero)))) g bits least most =
    omega (arith, bits 0, bits 1, bits 2, bits 3, bits 4, bits 5, bits 6, bits 7)
part_of_bits (suc (suc (suc (suc (suc zero))))) g bits least most =
    omega (arith, bits 0, bits 1, bits 2, bits 3, bits 4, bits 5, bits 6, bits 7)
part_of_bits (suc (suc (suc (suc (suc (suc zero)))))) g bits least most =
    omega (arith, bits 0, bits 1, bits 2, bits 3, bits 4, bits 5, bits 6, bits 7)
part_of_bits (suc (suc (suc (suc (suc (suc (suc zero))))))) g bits least most =
    omega (arith, bits 0, bits 1, bits 2, bits 3, bits 4, bits 5, bits 6, bits 7)
part_of_bits (suc (suc (suc (suc (suc (suc (suc (suc k)))))))) g bits least most = absurd (omega arith)

-- ---- samples of a file
abbrev pub block_byte : List ℕ → ℕ → ℕ → ℕ
block_byte f c i = get_or f (92 + (i / 4096 * (dsf_of f).channels + c) * 4096 + i % 4096) 0

sample_there : (f : List ℕ) (c i s : ℕ) → s < 8 →
    dsf_sample f c (8 * i + s) ≡ (if (8 * i + s) below (dsf_of f).samples then bit_of (dsf_of f).bits (block_byte f c i) s else 0)
sample_there f c i s small =
    let row : (8 * i + s) / 32768 ≡ i / 4096 = omega arith in
    let place : (8 * i + s) % 32768 / 8 ≡ i % 4096 = omega arith in
    let bit : (8 * i + s) % 8 ≡ s = omega arith in
    let n = (dsf_of f).channels in
    ap (λ b. if (8 * i + s) below (dsf_of f).samples then b else 0)
    (ap₂ (λ byte k. byte / 2 ^ k % 2)
    (ap₂ (λ r p. get_or f (92 + (r * n + c) * 4096 + p) 0) row place)
    (ap (λ k. if (dsf_of f).bits == 1 then k else (7 - k)) bit))

-- where all eight samples are there, and where k of them are
pub whole_byte : (f : List ℕ) (c i : ℕ) → is_order (dsf_of f).bits ≡ true → block_byte f c i < 256 → 8 * i + 8 ≤ (dsf_of f).samples →
    sound_byte f c i ≡ in_order (dsf_of f).bits (block_byte f c i)
whole_byte f c i lawful small all =
    joined_alike (dsf_sample f) c i (bit_of (dsf_of f).bits (block_byte f c i))
    (λ s l. sample_there f c i s l
    ∙ ap (λ b. if b then bit_of (dsf_of f).bits (block_byte f c i) s else 0) (lt-ltb (8 * i + s) (dsf_of f).samples (omega arith)))
    ∙ bits_in_order (dsf_of f).bits (block_byte f c i) lawful small

pub below_by : (a s k n : ℕ) → n ≡ a + k → ((a + s) below n) ≡ (s below k)
below_by a s k n e = elim (cases_lt s k) [
  | inl l ↦ lt-ltb (a + s) n (omega arith) ∙ sym (lt-ltb s k l)
  | inr m ↦ le-ltb (a + s) n (omega arith) ∙ sym (le-ltb s k m)
]

pub part_byte : (f : List ℕ) (c i k : ℕ) → is_order (dsf_of f).bits ≡ true → block_byte f c i < 256 → (dsf_of f).samples ≡ 8 * i + k → 0 < k → k < 8 →
    sound_byte f c i ≡ cleared (8 - k) (in_order (dsf_of f).bits (block_byte f c i))
part_byte f c i k lawful small count least most =
    let g = bit_of (dsf_of f).bits (block_byte f c i) in
    joined_alike (dsf_sample f) c i (λ s. if s below k then g s else 0)
    (λ s l. sample_there f c i s l ∙ ap (λ b. if b then g s else 0) (below_by (8 * i) s k (dsf_of f).samples count))
    ∙ part_of_bits k g (λ s. omega arith) least most
    ∙ ap (cleared (8 - k)) (bits_in_order (dsf_of f).bits (block_byte f c i) lawful small)
