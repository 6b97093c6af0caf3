-- The samples of a channel before a sample, and its symbol.
use Rattle.std.proofs.Common.{◌≡◌, ℕ, zero, suc, ◌+◌, ◌≤◌, ◌==◌, ◌&&◌, nat_lt, ℤ, pos, Bool, true, false, not, if◌then◌else◌, List, ◌∷◌}
use Rattle.std.proofs.Common.{length, replicate, get_or, refl, ap, ap₂, sym, subst, ◌∙◌, add-one}
use Rattle.std.specs.Int.{is_negative}
use Rattle.dst_spec.specs.Sample.{Shape, sample}
use Rattle.dst_spec.specs.Header.{Params, bit_of}
use Rattle.dst_spec.specs.Guess.{sum_before, filter_of, probs_of, prediction, probability, as_guessed}
use Rattle.byte_predictor.specs.Samples.{IsBefore, samples_of, signed_sum}
use Rattle.dst_frames.specs.Tables.{prob_at, symbol_after}
use Rattle.dst_frames.specs.Underway.{earlier}

-- what is known of samples before a place and of predictions
pub record Predicts : Type 0 where
  pub frame : (f : Shape) (sound : List ℕ) (c : ℕ) → IsBefore f sound c 0 (samples_of (replicate 16 170))
  pub next : (f : Shape) (sound : List ℕ) (c t : ℕ) (samples : List ℕ) → IsBefore f sound c t samples →
      IsBefore f sound c (t + 1) (sample f sound c (pos t) ∷ samples)
  pub predicts : (f : Shape) (sound : List ℕ) (c t : ℕ) (samples : List ℕ) (coefs : List ℤ) → length coefs ≤ 128 → IsBefore f sound c t samples →
      signed_sum coefs samples ≡ sum_before f sound c coefs (pos t)

pub earlier-suc : (f : Shape) (sound : List ℕ) (c t : ℕ) → earlier f sound c (t + 1) ≡ sample f sound c (pos t) ∷ earlier f sound c t
unfolding earlier
earlier-suc f sound c t = rw add-one refl

earlier_before : Predicts → (f : Shape) (sound : List ℕ) (c t : ℕ) → IsBefore f sound c t (earlier f sound c t)
unfolding earlier
earlier_before law f sound c zero = law.frame f sound c
earlier_before law f sound c (suc t) =
    subst (λ n. IsBefore f sound c n (sample f sound c (pos t) ∷ earlier f sound c t)) (add-one t)
    (law.next f sound c t (earlier f sound c t) (earlier_before law f sound c t))

bit_back : (s : Bool) → (bit_of s == 1) ≡ s
bit_back true = refl
bit_back false = refl

-- the symbol of a sample of a sound
pub pair_is : Predicts → (f : Shape) (P : Params) (sound : List ℕ) (c t : ℕ) (early s : Bool) (samples : List ℕ) → earlier f sound c t ≡ samples →
    sample f sound c (pos t) ≡ bit_of s →
    early ≡ (get_or P.half_prob c false && nat_lt t (length (filter_of P c))) → length (filter_of P c) ≤ 128 →
    symbol_after (filter_of P c) (probs_of P c) early samples s ≡ (as_guessed f P sound c t, probability f P sound c t)
pair_is law f P sound c t early s samples before bit given short =
    let z : signed_sum (filter_of P c) samples ≡ prediction f P sound c t =
    ap (signed_sum (filter_of P c)) (sym before) ∙ law.predicts f sound c t (earlier f sound c t) (filter_of P c) short (earlier_before law f sound c t) in
    let one : s ≡ (sample f sound c (pos t) == 1) = sym (bit_back s) ∙ ap (λ b. b == 1) (sym bit) in
    ap₂ (λ x y. (x, y)) (ap₂ (λ n o. if is_negative n then not o else o) z one) (ap₂ (λ b n. if b then 128 else prob_at (probs_of P c) n) given z)
