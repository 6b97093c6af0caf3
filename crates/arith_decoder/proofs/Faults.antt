-- Codes that break a rule.
use Rattle.std.proofs.Common.{◌≡◌, ℕ, ◌+◌, List, drop, get_or, Err, refl, ap, ◌∙◌, arith}
use Rattle.dst_spec.specs.Bits.{AreBits, number_from}
use Rattle.dst_spec.specs.Fields.{read}
use Rattle.dst_spec.specs.declared.faults.Reason.TheVariants.{FirstCodeBit, CodeRange}
use Rattle.dst_spec.proofs.Numbers.{number_from-drop, bit-below}
use Rattle.arith_decoder.specs.Decoding.{code_fields}

pub one_bit : (xs : List ℕ) (i : ℕ) → number_from xs i 1 ≡ get_or xs i 0
unfolding number_from
one_bit xs i =
    let place : i + 0 ≡ i = omega arith in
    rw place (omega arith)

-- a bit that isn't 1 is 0
pub first_is_zero : (xs : List ℕ) (i x : ℕ) → AreBits xs → x ≡ number_from xs i 1 → (x ≡ 1 → ⊥) → get_or xs i 0 ≡ 0
first_is_zero xs i x bits is other =
    let below = bit-below xs i bits in
    let same = is ∙ one_bit xs i in
    omega arith

pub first_fault : (xs : List ℕ) (i place : ℕ) → number_from xs i 1 ≡ 1 →
    read code_fields (drop i xs) place ≡ Err (record { reason = FirstCodeBit; bit = place })
unfolding read
first_fault xs i place is =
    let at : i + 0 ≡ i = omega arith in
    let number : number_from (drop i xs) 0 1 ≡ 1 = number_from-drop xs i 0 1 ∙ ap (λ k. number_from xs k 1) at ∙ is in
    rw (read, number) refl

pub range_fault : (xs : List ℕ) (i : ℕ) → get_or xs i 0 ≡ 0 → number_from xs (i + 1) 12 ≡ 4095 →
    read code_fields (drop i xs) i ≡ Err (record { reason = CodeRange; bit = i + 1 })
unfolding read
range_fault xs i zero_bit is =
    let at : i + 0 ≡ i = omega arith in
    let number : number_from (drop i xs) 0 1 ≡ 0 = number_from-drop xs i 0 1 ∙ ap (λ k. number_from xs k 1) at ∙ one_bit xs i ∙ zero_bit in
    let next : number_from (drop 1 (drop i xs)) 0 12 ≡ 4095 = number_from-drop (drop i xs) 1 0 12 ∙ number_from-drop xs i 1 12 ∙ is in
    rw (read, number, read, next) refl
