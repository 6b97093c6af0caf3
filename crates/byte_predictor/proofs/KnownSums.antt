-- Rows and sums over samples that are known a byte at a time.
use Rattle.std.proofs.Common.{◌≡◌, ◌≢◌, ℕ, zero, suc, ◌+◌, ◌-◌, ◌%◌, ◌<◌, ◌≤◌, ◌⊎◌, inl, inr, ℤ, pos, List, [], ◌∷◌, ◌++◌}
use Rattle.std.proofs.Common.{length, get_or, drop, replicate, refl, ap, sym, ◌∙◌, arith}
use Rattle.std.proofs.lemmas.Int.{ints}
use Rattle.std.proofs.lemmas.List.{get_or-drop, get_or_past}
use Rattle.std.proofs.lemmas.Bool.{cases_lt}
use Rattle.std.specs.List.{AllByRecursion}
use Rattle.dst_spec.specs.Table.{filter_kind, InRange}
use Rattle.byte_predictor.specs.Samples.{rising_bits, samples_of}
use Rattle.byte_predictor.specs.Upward.{upward_sum, size_sum, shifted}
use Rattle.byte_predictor.specs.KnownRows.{IsReach, HasKnownRows}
use Rattle.byte_predictor.proofs.Upward.{upward_sum-same, upward_sum-empty}
use Rattle.byte_predictor.proofs.Lanes.{zeros-at, no_rows-at, added-lane}
use Rattle.byte_predictor.proofs.Sums.{coef-range}

pub shifted-front : (coefs : List ℤ) (j : ℕ) → j < 8 → get_or (shifted coefs) j (pos 0) ≡ pos 0
unfolding shifted
shifted-front coefs zero h = refl
shifted-front coefs (suc zero) h = refl
shifted-front coefs (suc (suc zero)) h = refl
shifted-front coefs (suc (suc (suc zero))) h = refl
shifted-front coefs (suc (suc (suc (suc zero)))) h = refl
shifted-front coefs (suc (suc (suc (suc (suc zero))))) h = refl
shifted-front coefs (suc (suc (suc (suc (suc (suc zero)))))) h = refl
shifted-front coefs (suc (suc (suc (suc (suc (suc (suc zero))))))) h = refl
shifted-front coefs (suc (suc (suc (suc (suc (suc (suc (suc j)))))))) h = absurd (omega arith)

by_eight : (coefs : List ℤ) (k : ℕ) → get_or (shifted coefs) (suc (suc (suc (suc (suc (suc (suc (suc k)))))))) (pos 0) ≡ get_or coefs k (pos 0)
unfolding shifted
by_eight coefs k = refl

pub shifted-behind : (coefs : List ℤ) (k : ℕ) → get_or (shifted coefs) (k + 8) (pos 0) ≡ get_or coefs k (pos 0)
shifted-behind coefs k =
    let up : k + 8 ≡ suc (suc (suc (suc (suc (suc (suc (suc k))))))) = omega arith in
    ap (λ m. get_or (shifted coefs) m (pos 0)) up ∙ by_eight coefs k

-- an array that has the coefficients eight places behind
pub is-shifted : (coefs table : List ℤ) → length coefs ≤ 128 → ((k : ℕ) → k < 8 → get_or table k (pos 0) ≡ pos 0) →
    ((k : ℕ) → k < 128 → get_or table (k + 8) (pos 0) ≡ get_or coefs k (pos 0)) → ((k : ℕ) → 136 ≤ k → get_or table k (pos 0) ≡ pos 0) → (k : ℕ) →
    get_or table k (pos 0) ≡ get_or (shifted coefs) k (pos 0)
is-shifted coefs table short front between behind k = first (cases_lt k 8)
  where
    back : 8 ≤ k → k - 8 + 8 ≡ k
    back le = omega arith

    at_back : 8 ≤ k → get_or (shifted coefs) k (pos 0) ≡ get_or coefs (k - 8) (pos 0)
    at_back le = ap (λ m. get_or (shifted coefs) m (pos 0)) (sym (back le)) ∙ shifted-behind coefs (k - 8)

    last : 8 ≤ k → (k < 136) ⊎ (136 ≤ k) → get_or table k (pos 0) ≡ get_or (shifted coefs) k (pos 0)
    last le (inl lt) = ap (λ m. get_or table m (pos 0)) (sym (back le)) ∙ between (k - 8) (omega arith) ∙ sym (at_back le)
    last le (inr far) = behind k far ∙ sym (get_or_past coefs (k - 8) (pos 0) (omega arith)) ∙ sym (at_back le)

    first : (k < 8) ⊎ (8 ≤ k) → get_or table k (pos 0) ≡ get_or (shifted coefs) k (pos 0)
    first (inl lt) = front k lt ∙ sym (shifted-front coefs k lt)
    first (inr le) = last le (cases_lt k 136)

pub shifted-each : (coefs : List ℤ) → AllByRecursion (InRange filter_kind) coefs → length coefs ≤ 128 →
    AllByRecursion (InRange filter_kind) (shifted coefs) × (length (shifted coefs) ≡ 8 + length coefs)
unfolding shifted
shifted-each coefs each short =
    let none : InRange filter_kind (pos 0) = (omega (arith, ints), omega (arith, ints)) in
    ((none, (none, (none, (none, (none, (none, (none, (none, each)))))))), omega arith)

pub shifted-range : (coefs : List ℤ) (j : ℕ) → AllByRecursion (InRange filter_kind) coefs → length coefs ≤ 128 →
    InRange filter_kind (get_or (shifted coefs) j (pos 0))
shifted-range coefs j each short = coef-range (shifted coefs) j (shifted-each coefs each short).0

pub same-shifted : (table coefs : List ℤ) (lane : ℕ) (samples : List ℕ) →
    ((j : ℕ) → get_or table j (pos 0) ≡ get_or (shifted coefs) j (pos 0)) →
    upward_sum (drop lane table) samples ≡ upward_sum (drop lane (shifted coefs)) samples
same-shifted table coefs lane samples same =
    upward_sum-same (drop lane table) (drop lane (shifted coefs)) samples (λ j. get_or-drop lane table j (pos 0) ∙ same (lane + j)
    ∙ sym (get_or-drop lane (shifted coefs) j (pos 0)))

lone-shifted : (j : ℕ) → get_or (shifted (pos 0 ∷ [])) j (pos 0) ≡ pos 0
unfolding shifted
lone-shifted j = zeros-at 9 j

-- the coefficient 0 alone
pub known-none : HasKnownRows (pos 0 ∷ []) (replicate 256 (replicate 136 0)) 0 24
unfolding size_sum
known-none = record {
  table = record { least = omega arith; most = omega arith; each = ((omega (arith, ints), omega (arith, ints)), tt); alone = λ lone. absurd cc };
  added = λ byte lane h i.
      no_rows-at 136 256 byte lane ∙ sym (upward_sum-same (drop lane (shifted (pos 0 ∷ []))) [] (rising_bits 8 byte)
      (λ j. get_or-drop lane (shifted (pos 0 ∷ [])) j (pos 0) ∙ lone-shifted (lane + j)) ∙ upward_sum-empty (rising_bits 8 byte));
  sizes = refl;
  is_reach = inl refl;
  all = omega arith;
}

-- one whole byte more of the same samples
pub byte-more : (byte n : ℕ) → rising_bits 8 byte ++ samples_of (replicate n byte) ≡ samples_of (replicate (suc n) byte)
unfolding samples_of
byte-more byte n = refl

-- no more lanes than there are
pub reach-few : (reach : ℕ) → IsReach reach → reach ≤ 136
reach-few reach (inl is) = omega arith
reach-few reach (inr (inl is)) = omega arith
reach-few reach (inr (inr (inl is))) = omega arith
reach-few reach (inr (inr (inr is))) = omega arith

-- all lanes, where no smaller number of them has sums
pub reach-all : (reach : ℕ) → IsReach reach → reach ≢ 24 → reach ≢ 40 → reach ≢ 72 → reach ≡ 136
reach-all reach (inl is) a b c = absurd (a is)
reach-all reach (inr (inl is)) a b c = absurd (b is)
reach-all reach (inr (inr (inl is))) a b c = absurd (c is)
reach-all reach (inr (inr (inr is))) a b c = is

-- a byte goes into the lanes that the coefficients reach; those behind them stay 0
pub known-taken : (n : ℕ) (coefs : List ℤ) (samples lanes row new : List ℕ) (byte : ℕ) → AllByRecursion (InRange filter_kind) coefs → length coefs ≤ 128 →
    8 + length coefs ≤ n → n ≤ 136 →
    ((lane : ℕ) → lane < 144 → get_or lanes lane 0 ≡ upward_sum (drop lane (shifted coefs)) samples) →
    ((lane : ℕ) → lane < n → get_or row lane 0 ≡ upward_sum (drop lane (shifted coefs)) (rising_bits 8 byte)) →
    ((lane : ℕ) → lane < n → get_or new lane 0 ≡ (get_or lanes (lane + 8) 0 + get_or row lane 0) % 65536) →
    ((lane : ℕ) → n ≤ lane → get_or new lane 0 ≡ get_or lanes lane 0) → (lane : ℕ) → lane < 144 →
    get_or new lane 0 ≡ upward_sum (drop lane (shifted coefs)) (rising_bits 8 byte ++ samples)
known-taken n coefs samples lanes row new byte range short reach few sums is moved stays =
    let each = shifted-each coefs range short in
    added-lane n 144 (shifted coefs) samples lanes row new byte each.0 (omega (arith, each.1)) few (omega arith) sums
    is moved stays
