-- Zeros behind zeros.
use Rattle.std.proofs.Common.{◌≡◌, ℕ, ◌+◌, List, ◌++◌, replicate, ap, ◌∙◌, append_assoc}
use Rattle.std.proofs.lemmas.List.{replicate-append-replicate}
use Rattle.dst_spec.specs.Bits.{low_bits}
use Rattle.dst_spec.proofs.LowBits.{low_bits-zero}

pub zeros_more : (xs ys : List ℕ) (a b n : ℕ) → ys ≡ xs ++ replicate a 0 → a + b ≡ n → ys ++ low_bits b 0 ≡ xs ++ replicate n 0
zeros_more xs ys a b n e same =
    ap (λ zs. zs ++ low_bits b 0) e ∙ append_assoc xs (replicate a 0) (low_bits b 0)
    ∙ ap (λ zs. xs ++ zs) (ap (λ zs. replicate a 0 ++ zs) (low_bits-zero b) ∙ replicate-append-replicate a b 0 ∙ ap (λ k. replicate k 0) same)
