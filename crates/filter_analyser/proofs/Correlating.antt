-- Correlations from counts of differing samples.
use Rattle.std.proofs.Common.{◌≡◌, ℕ, zero, suc, ◌+◌, ◌-◌, ◌*◌, ◌%◌, ◌<◌, ◌≤◌, ℤ, pos, ◌+ℤ◌}
use Rattle.std.proofs.Common.{◌-ℤ◌, ◌*ℤ◌, cond, List, [], ◌∷◌, length, inl, inr, refl, ap, sym, ◌∙◌, arith}
use Rattle.std.proofs.lemmas.Int.{ints}
use Rattle.std.proofs.lemmas.Bool.{cases_lt}
use Rattle.dst_spec.specs.Sample.{Shape, samples}
use Rattle.dst_spec.specs.Guess.{signed}
use Rattle.level_spec.specs.Correlation.{sum_over, sign, correlation, joint_correlation}
use Rattle.filter_refiner.proofs.Lengths.{test-true, test-false}
use Rattle.filter_analyser.specs.Stretches.{bit_of, late, tally, differing, HasSamples}
use Rattle.filter_analyser.proofs.Tallies.{tally-same, tally-append, tally-most, tally-none, sum_over-tally}

-- the correlation of a channel alone
pub alone : (f : Shape) (sound : List ℕ) (c k : ℕ) → correlation f sound c k ≡ joint_correlation f sound (c ∷ []) k
unfolding joint_correlation
alone f sound c k = let x = correlation f sound c k in let e : x ≡ x +ℤ pos 0 = omega (arith, ints) in e

-- samples that were moved twice
pub late-late : (stretches behind : List ℕ) (m j n t : ℕ) → ((t : ℕ) → t < n → bit_of behind t ≡ late stretches m t) → t < n →
    late behind j t ≡ late stretches (m + j) t
late-late stretches behind m j n t h inside =
    elim (cases_lt t j) [
      | inl early ↦
          ap (λ b. cond b 0 (bit_of behind (t - j))) (test-true t j early)
          ∙ sym (ap (λ b. cond b 0 (bit_of stretches (t - (m + j)))) (test-true t (m + j) (omega arith)))
      | inr behind_j ↦
          ap (λ b. cond b 0 (bit_of behind (t - j))) (test-false t j behind_j)
          ∙ h (t - j) (omega arith)
          ∙ elim (cases_lt t (m + j)) as (λ _. late stretches m (t - j) ≡ late stretches (m + j) t) [
            | inl early ↦ ap (λ b. cond b 0 (bit_of stretches (t - j - m))) (test-true (t - j) m (omega arith))
                ∙ sym (ap (λ b. cond b 0 (bit_of stretches (t - (m + j)))) (test-true t (m + j) early))
            | inr far ↦
                let e : t - j - m ≡ t - (m + j) = omega arith in
                ap (λ b. cond b 0 (bit_of stretches (t - j - m))) (test-false (t - j) m (omega arith)) ∙ ap (bit_of stretches) e
                ∙ sym (ap (λ b. cond b 0 (bit_of stretches (t - (m + j)))) (test-false t (m + j) far))
          ]
    ]

-- the first k samples differ from the zeros before the frame where they are 1
pub differing-parts : (stretches behind : List ℕ) (m j k : ℕ) → ((t : ℕ) → t < 64 * length stretches → bit_of behind t ≡ late stretches m t) → m + j ≡ k →
    k ≤ 64 * length stretches →
    differing stretches behind j ≡ tally (bit_of stretches) 0 k + tally (λ t. (bit_of stretches t + bit_of stretches (t - k)) % 2) k (64 * length stretches - k)
unfolding differing
differing-parts stretches behind m j k h e most =
    let n = 64 * length stretches in
    let G : ℕ → ℕ = λ t. (bit_of stretches t + late stretches k t) % 2 in
    let moved : tally (λ t. (bit_of stretches t + late behind j t) % 2) 0 n ≡ tally G 0 n =
    tally-same (λ t. (bit_of stretches t + late behind j t) % 2) G 0 n
    (λ t _ inside. ap (λ b. (bit_of stretches t + b) % 2) (late-late stretches behind m j n t h (omega arith) ∙ ap (λ l. late stretches l t) e)) in
    let whole : n ≡ k + (n - k) = omega arith in
    let z : 0 + k ≡ k = omega arith in
    let parts : tally G 0 (k + (n - k)) ≡ tally G 0 k + tally G (0 + k) (n - k) = tally-append G 0 k (n - k) in
    let first : tally G 0 k ≡ tally (bit_of stretches) 0 k = tally-same G (bit_of stretches) 0 k (λ t _ inside.
    ap (λ b. (bit_of stretches t + cond b 0 (bit_of stretches (t - k))) % 2) (test-true t k (omega arith)) ∙ omega arith) in
    let rest : tally G k (n - k) ≡ tally (λ t. (bit_of stretches t + bit_of stretches (t - k)) % 2) k (n - k) =
    tally-same G (λ t. (bit_of stretches t + bit_of stretches (t - k)) % 2) k (n - k) (λ t least inside.
    ap (λ b. (bit_of stretches t + cond b 0 (bit_of stretches (t - k))) % 2) (test-false t k least)) in
    moved ∙ ap (tally G 0) whole ∙ parts ∙ ap (λ a. tally G 0 k + tally G a (n - k)) z ∙ ap (λ x. x + tally G k (n - k)) first
    ∙ ap (λ x. tally (bit_of stretches) 0 k + x) rest

signs : (a b : ℕ) → a < 2 → b < 2 → signed a (pos 1) *ℤ signed b (pos 1) ≡ pos 1 -ℤ pos (2 * ((a + b) % 2))
signs zero zero h k = refl
signs zero (suc zero) h k = refl
signs (suc zero) zero h k = refl
signs (suc zero) (suc zero) h k = refl
signs (suc (suc a)) b h k = absurd (omega arith)
signs zero (suc (suc b)) h k = absurd (omega arith)
signs (suc zero) (suc (suc b)) h k = absurd (omega arith)

pub correlation-counted : (f : Shape) (sound : List ℕ) (c k : ℕ) (stretches : List ℕ) → HasSamples f sound c stretches → k ≤ 64 * length stretches →
    correlation f sound c k ≡ pos (64 * length stretches - k) -ℤ pos
    (2 * tally (λ t. (bit_of stretches t + bit_of stretches (t - k)) % 2) k (64 * length stretches - k))
correlation-counted f sound c k stretches h most =
    let n = 64 * length stretches in
    let e : samples f - k ≡ n - k = omega (arith, h.long) in
    let F : ℕ → ℤ = λ t. sign f sound c t *ℤ sign f sound c (t - k) in
    ap (sum_over F k) e
    ∙ sum_over-tally F (λ t. (bit_of stretches t + bit_of stretches (t - k)) % 2) k (n - k) (λ t least inside.
    ap (λ b. signed b (pos 1) *ℤ sign f sound c (t - k)) (sym (h.each t (omega arith)))
    ∙ ap (λ b. signed (bit_of stretches t) (pos 1) *ℤ signed b (pos 1)) (sym (h.each (t - k) (omega arith)))
    ∙ signs (bit_of stretches t) (bit_of stretches (t - k)) (omega arith) (omega arith))

-- the correlation from the number of differing samples, of which so many are before sample k
pub correlation-is : (f : Shape) (sound : List ℕ) (c k m j early count : ℕ) (stretches behind : List ℕ) → HasSamples f sound c stretches →
    k ≤ 64 * length stretches
    → ((t : ℕ) → t < 64 * length stretches → bit_of behind t ≡ late stretches m t) → m + j ≡ k → early ≡ tally (bit_of stretches) 0 k →
    count ≡ differing stretches behind j
    → pos (64 * length stretches - k) -ℤ pos (2 * (count - early)) ≡ correlation f sound c k
correlation-is f sound c k m j early count stretches behind h most moved e ones differ =
    let parts = differing-parts stretches behind m j k moved e most in
    let is = correlation-counted f sound c k stretches h most in
    let D = tally (λ t. (bit_of stretches t + bit_of stretches (t - k)) % 2) k (64 * length stretches - k) in
    let less : count - early ≡ D = omega arith in
    ap (λ d. pos (64 * length stretches - k) -ℤ pos (2 * d)) less ∙ sym is

pub early-most : (stretches behind : List ℕ) (k m j : ℕ) → k ≤ 64 * length stretches → ((t : ℕ) → t < 64 * length stretches →
    bit_of behind t ≡ late stretches m t) →
    m + j ≡ k →
    (tally (bit_of stretches) 0 k ≤ differing stretches behind j) × (differing stretches behind j ≤ 64 * length stretches)
early-most stretches behind k m j most moved e =
    let parts = differing-parts stretches behind m j k moved e most in
    let a = tally-most (bit_of stretches) 0 k (λ t. omega arith) in
    let b = tally-most (λ t. (bit_of stretches t + bit_of stretches (t - k)) % 2) k (64 * length stretches - k) (λ t. omega arith) in
    (omega arith, omega arith)

pub correlation-at_0 : (f : Shape) (sound : List ℕ) (c : ℕ) (stretches : List ℕ) → HasSamples f sound c stretches →
    pos (64 * length stretches) ≡ correlation f sound c 0
correlation-at_0 f sound c stretches h =
    let is = correlation-counted f sound c 0 stretches h (omega arith) in
    let none = tally-none (λ t. (bit_of stretches t + bit_of stretches (t - 0)) % 2) 0 (64 * length stretches - 0) (λ t. let e : t - 0 ≡ t =
    omega arith in ap (λ k. (bit_of stretches t + bit_of stretches k) % 2) e ∙ omega arith) in
    omega (arith, ints)
