-- The tables that a map numbers.
use Rattle.std.proofs.Common.{◌≡◌, ℕ, zero, suc, ◌+◌, ◌*◌, ◌/◌, ◌%◌, ◌^◌, ◌<◌, ◌≤◌, List, [], length, get_or, reverse, refl, ap, ap₂, add-one, ◌∙◌, ℤ}
use Rattle.std.proofs.Common.{pos, sym, subst, arith}
use Rattle.std.proofs.lemmas.List.{get_or_default}
use Rattle.std.proofs.Math.Nat.{pow-suc, pow-le-pow_right}
use Rattle.dst_spec.specs.Bits.{low_bits, signed_bits, number_from}
use Rattle.dst_spec.specs.Header.{Params}
use Rattle.dst_spec.specs.Symbols.{reserved_probability}
use Rattle.dst_spec.specs.Map.{element_count}
use Rattle.channel_params.specs.Reserved.{turned}
use Rattle.dst_spec.proofs.MapNumbers.{element-below as below_count}

pub element-below : (map : List ℕ) (c : ℕ) → c < length map → get_or map c 0 < element_count map
element-below map c h = below_count 0 map c h

pub turned-number : (x : ℕ) → number_from (reverse (low_bits 9 x)) 0 7 ≡ turned 7 x
unfolding number_from low_bits turned
turned-number x = refl

pub first-turned : (P : Params) (coef : ℤ) (x : ℕ) → get_or (get_or P.filters 0 []) 0 (pos 0) ≡ coef → signed_bits 9 coef ≡ low_bits 9 x →
    turned 7 x + 1 ≡ reserved_probability P
unfolding reserved_probability
first-turned P coef x at bits =
    let number = ap (λ xs. number_from (reverse xs) 0 7) (ap (signed_bits 9) at ∙ bits) ∙ turned-number x in
    omega (arith, number)

pub turned-suc : (n x : ℕ) → turned (n + 1) x ≡ 2 * turned n x + x / 2 ^ n % 2
unfolding turned
turned-suc n x = rw add-one refl

turned-below : (n x : ℕ) → turned n x < 2 ^ n
unfolding turned
turned-below zero x = omega arith
turned-below (suc n) x = omega (arith, turned-below n x, pow-suc 2 n)

pub turned-small : (n x : ℕ) → n ≤ 7 → turned n x < 128
turned-small n x h =
    let most : 2 ^ n ≤ 2 ^ 7 = pow-le-pow_right {n = 2} (omega arith) {i = n} {j = 7} h in
    omega (arith, turned-below n x, most)

pub channel-inside : (P Q : Params) (c : ℕ) → Q ≡ P → c < length P.half_prob → c < length Q.half_prob
channel-inside P Q c view h = subst (λ (R : Params). c < length R.half_prob) (sym view) h

-- what a map chooses for a channel
pub chosen-inside : {A : Type 0} (map seen : List ℕ) (tables shown : List A) (halves c : ℕ) → seen ≡ map → shown ≡ tables → length map ≡ halves →
    length tables ≡ element_count map → c < halves → get_or seen c 0 < length shown
chosen-inside map seen tables shown halves c a b long count h =
    let below = element-below map c (omega arith) in
    omega (arith, below, ap (λ xs. get_or xs c 0) a, ap length b, count)

pub chosen-is : {A : Type 0} (map seen : List ℕ) (tables shown : List A) (c : ℕ) (item d : A) → seen ≡ map → shown ≡ tables →
    item ≡ get_or shown (get_or seen c 0) item → get_or seen c 0 < length shown → item ≡ get_or tables (get_or map c 0) d
chosen-is map seen tables shown c item d a b is h =
    is ∙ get_or_default shown (get_or seen c 0) item d h ∙ ap₂ (λ xs ms. get_or xs (get_or ms c 0) d) b a
