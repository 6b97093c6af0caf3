-- How long a DSF file is, and its parts.
use Rattle.std.proofs.Common.{◌≡◌, ℕ, ◌+◌, ◌*◌, List, [], ◌∷◌, map, length, length-append, refl, ap, ◌∙◌, arith}
use Rattle.std.specs.List.{flat_map, range_with_len}
use Rattle.std.proofs.lemmas.List.{length-map}
use Rattle.dst_spec.proofs.Numbers.{length-range}
use Rattle.dsdiff_spec.specs.Dsf.{Dsf, dsf_header, dsf_byte, dsf_row, dsf_with}

-- parts of one length
pub length-parts : {A : Type 0} (n : ℕ) (f : A → List ℕ) (xs : List A) → ((x : A) → length (f x) ≡ n) → length (flat_map f xs) ≡ length xs * n
length-parts n f [] each = omega arith
length-parts n f (x ∷ xs) each =
    let first = each x in
    let later = length-parts n f xs each in
    omega (arith, length-append (f x) (flat_map f xs))

pub length-dsf_header : (d : Dsf) → length (dsf_header d) ≡ 92
length-dsf_header d = refl

pub length-block : (d : Dsf) (sample : ℕ → ℕ → ℕ) (r c : ℕ) → length (map (λ j. dsf_byte d sample c (4096 * r + j)) (range_with_len 0 4096)) ≡ 4096
length-block d sample r c = length-map (range_with_len 0 4096) (λ j. dsf_byte d sample c (4096 * r + j)) ∙ length-range 0 4096

pub length-dsf_row : (d : Dsf) (sample : ℕ → ℕ → ℕ) (r : ℕ) → length (dsf_row d sample r) ≡ d.channels * 4096
length-dsf_row d sample r =
    length-parts 4096 (λ c. map (λ j. dsf_byte d sample c (4096 * r + j)) (range_with_len 0 4096)) (range_with_len 0 d.channels) (length-block d sample r)
    ∙ ap (λ n. n * 4096) (length-range 0 d.channels)

pub length-dsf_with : (d : Dsf) (sample : ℕ → ℕ → ℕ) (n : ℕ) → length (dsf_with d sample n) ≡ 92 + n * (d.channels * 4096)
unfolding dsf_with
length-dsf_with d sample n =
    length-append (dsf_header d) (flat_map (dsf_row d sample) (range_with_len 0 n))
    ∙ ap (λ more. 92 + more) (length-parts (d.channels * 4096) (dsf_row d sample) (range_with_len 0 n) (length-dsf_row d sample)
    ∙ ap (λ m. m * (d.channels * 4096)) (length-range 0 n))
