-- A DSF file is its header and its samples: files of the same samples are the same.
use Rattle.std.proofs.Common.{◌≡◌, ℕ, zero, suc, ◌+◌, ◌-◌, ◌*◌, ◌/◌, ◌%◌, ◌^◌, ◌<◌, false, if◌then◌else◌, List, ◌∷◌, ◌++◌, map, reverse, take, get_or}
use Rattle.std.proofs.Common.{refl, sym, ap, ap₂, ◌∙◌, inl, inr, arith}
use Rattle.std.specs.Prelude.{◌==◌}
use Rattle.std.specs.List.{flat_map, range_with_len}
use Rattle.std.proofs.lemmas.Bool.{cases_lt, lt-ltb, le-ltb}
use Rattle.std.proofs.lemmas.List.{get_or-take}
use Rattle.dst_spec.specs.Bits.{number_from}
use Rattle.dst_spec.proofs.Lists.{place-below}
use Rattle.dsdiff_spec.specs.Bytes.{◌below◌}
use Rattle.dsdiff_spec.specs.Dsf.{Dsf, dsf_of, octets, dsf_header, dsf_byte, dsf_row, dsf_with, dsf_sample, sample_to}
use Rattle.dsdiff_spec.specs.Samples.{sample_in}
use Rattle.dsf_files.specs.Standing.{sound}
use Rattle.dsf_files.proofs.PlainBytes.{samples_are_bits}
use Rattle.dsf_files.proofs.SoundSamples.{sample_of_sound}

-- functions that are alike on a range give the same lists
pub map_alike : {A : Type 0} (f g : ℕ → A) (a n : ℕ) → ((k : ℕ) → k < a + n → f k ≡ g k) → map f (range_with_len a n) ≡ map g (range_with_len a n)
map_alike f g a zero same = refl
map_alike f g a (suc n) same = ap₂ (λ x xs. x ∷ xs) (same a (omega arith)) (map_alike f g (a + 1) n (λ k l. same k (omega (arith, l))))

pub flat_alike : (f g : ℕ → List ℕ) (a n : ℕ) → ((k : ℕ) → k < a + n → f k ≡ g k) → flat_map f (range_with_len a n) ≡ flat_map g (range_with_len a n)
flat_alike f g a zero same = refl
flat_alike f g a (suc n) same = ap₂ (λ x xs. x ++ xs) (same a (omega arith)) (flat_alike f g (a + 1) n (λ k l. same k (omega (arith, l))))

byte_alike : (d : Dsf) (F G : ℕ → ℕ → ℕ) (c i : ℕ) → ((t : ℕ) → F c t ≡ G c t) → dsf_byte d F c i ≡ dsf_byte d G c i
byte_alike d F G c i same =
    ap (λ w. number_from (if d.bits == 1 then reverse w else w) 0 8) (map_alike (λ s. F c (8 * i + s)) (λ s. G c (8 * i + s)) 0 8 (λ s l. same (8 * i + s)))

pub with_alike : (d : Dsf) (F G : ℕ → ℕ → ℕ) (n : ℕ) → ((c t : ℕ) → c < d.channels → F c t ≡ G c t) → dsf_with d F n ≡ dsf_with d G n
unfolding dsf_with
with_alike d F G n same =
    ap (λ w. dsf_header d ++ w) (flat_alike (dsf_row d F) (dsf_row d G) 0 n (λ r l.
    flat_alike (λ c. map (λ j. dsf_byte d F c (4096 * r + j)) (range_with_len 0 4096))
    (λ c. map (λ j. dsf_byte d G c (4096 * r + j)) (range_with_len 0 4096)) 0 d.channels
    (λ c k. map_alike (λ j. dsf_byte d F c (4096 * r + j)) (λ j. dsf_byte d G c (4096 * r + j)) 0 4096
    (λ j m. byte_alike d F G c (4096 * r + j) (λ t. same c t (omega (arith, k)))))))

-- ---- the samples of a file are those of its sound, and 0 past the last one
pub samples_again : (f : List ℕ) (all : List ℕ) (c t : ℕ) → c < (dsf_of f).channels → take (octets (dsf_of f) * (dsf_of f).channels) all ≡ sound f (dsf_of f) →
    sample_to (dsf_of f).samples (sample_in all (dsf_of f).channels) c t ≡ dsf_sample f c t
samples_again f all c t mine front = elim (cases_lt t (dsf_of f).samples) [
  | inl l ↦
      let d = dsf_of f in
      let inside : t / 8 * d.channels + c < octets d * d.channels = index_below (t / 8) (octets d) c d.channels (omega arith) mine in
      let there : sample_in all d.channels c t ≡ sample_in (sound f d) d.channels c t =
      ap (λ b. b / 2 ^ (7 - t % 8) % 2)
      (sym (get_or-take (octets d * d.channels) all (t / 8 * d.channels + c) 0 inside) ∙ ap (λ w. get_or w (t / 8 * d.channels + c) 0) front) in
      ap (λ b. if b then sample_in all d.channels c t else 0) (lt-ltb t d.samples l)
      ∙ there
      ∙ sample_of_sound (dsf_sample f) d.channels (octets d) c t (samples_are_bits f) mine (omega arith)
  | inr m ↦
      let past : (t below (dsf_of f).samples) ≡ false = le-ltb t (dsf_of f).samples m in
      ap (λ b. if b then sample_in all (dsf_of f).channels c t else 0) past
      ∙ sym (none f c t past)
]
  where
    index_below : (i n c k : ℕ) → i < n → c < k → i * k + c < n * k
    index_below i n c k l m = place-below i c k n m l

    none : (f : List ℕ) (c t : ℕ) → (t below (dsf_of f).samples) ≡ false → dsf_sample f c t ≡ 0
    none f c t past = rw past refl
