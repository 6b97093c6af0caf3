-- What seven bits have of a probability.
use Rattle.std.proofs.Common.{◌≡◌, ◌≢◌, ◌⊎◌, inl, inr, ℕ, ◌%◌, ◌<◌, ◌≤◌, arith, ne_eqb, refl}
use Rattle.std.proofs.lemmas.Bool.{cases_lt}
use Rattle.frame_store.specs.Probs.{prob_in}

pub prob_again : (p : ℕ) → 1 ≤ p → p ≤ 128 → prob_in (p % 128) ≡ p
prob_again p least most = go (cases_lt p 128)
  where
    go : (p < 128) ⊎ (128 ≤ p) → prob_in (p % 128) ≡ p
    go (inl lt) =
        let same : p % 128 ≡ p = omega arith in
        let ne : p ≢ 0 = omega arith in
        rw (same, ne_eqb p 0 ne) refl
    go (inr le) =
        let none : p % 128 ≡ 0 = omega arith in
        rw none (omega arith)
