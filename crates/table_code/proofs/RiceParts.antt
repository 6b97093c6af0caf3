-- What a residual is, part by part as it is read.
use Rattle.std.proofs.Common.{◌≡◌, ℕ, zero, suc, ◌+◌, ◌-◌, ◌*◌, ◌/◌, ◌%◌, ◌^◌, ◌<◌, ◌≤◌, ◌==◌, Bool, true, false, cond, List, ◌∷◌, ◌++◌, length, drop}
use Rattle.std.proofs.Common.{get_or, refl, ap, sym, ◌∙◌, arith, length-append, length-drop, drop-drop, get_or-drop, ℤ, pos, negsuc, neg_ℤ}
use Rattle.std.proofs.Common.{if◌then◌else◌, not, ne_eqb, nat_abs, replicate, append_assoc, ap₂, add-one, ◌<ℤ◌}
use Rattle.std.proofs.lemmas.Int.{ints}
use Rattle.std.proofs.lemmas.Nat.{pow_pos, shr_high, shr_split}
use mir.Val.{bool_byte}
use Rattle.dst_spec.specs.Bits.{number_from, low_bits, AreBits}
use Rattle.dst_spec.specs.Rice.{rice, sign_bits}
use Rattle.dst_spec.specs.Fields.{zero_run, residual_size, sign_length, residual_length, residual_value}
use Rattle.dst_spec.proofs.Numbers.{number_from-drop, low_bits-high}
use Rattle.dst_spec.proofs.Rices.{residual_length-rice}
use Rattle.dst_spec.proofs.Taking.{front-rice}

-- the parts that were read: zeros with their one, and the low bits
pub record IsFront (xs : List ℕ) (m q low : ℕ) (rest : List ℕ) : Type 0 where
  pub bits : AreBits xs
  pub run : q ≡ zero_run xs
  pub one : q < length xs
  pub enough : m ≤ length (drop (q + 1) xs)
  pub value : low ≡ number_from (drop (q + 1) xs) 0 m
  pub behind : rest ≡ drop m (drop (q + 1) xs)

pub front_of : (xs a ys rest : List ℕ) (m q low : ℕ) → a ≡ xs → AreBits xs → q ≡ zero_run a → q < length a → ys ≡ drop (q + 1) a →
    m ≤ length ys → low ≡ number_from ys 0 m → rest ≡ drop m ys → IsFront xs m q low rest
front_of xs a ys rest m q low same bits run one behind enough value rest_is =
    let passed : ys ≡ drop (q + 1) xs = behind ∙ ap (drop (q + 1)) same in
    record {
      bits = bits;
      run = run ∙ ap zero_run same;
      one = rw same at one;
      enough = rw passed at enough;
      value = value ∙ ap (λ zs. number_from zs 0 m) passed;
      behind = rest_is ∙ ap (drop m) passed;
    }

-- the residual r, n bits long, and what is left behind it
pub record IsResidual (xs : List ℕ) (m n : ℕ) (r : ℤ) (rest : List ℕ) : Type 0 where
  pub long : residual_length m xs ≡ n
  pub enough : residual_length m xs ≤ length xs
  pub residual : r ≡ residual_value m xs
  pub code : xs ≡ rice r m ++ rest
  pub behind : rest ≡ drop (residual_length m xs) xs

size_of : (xs : List ℕ) (m q low : ℕ) (rest : List ℕ) → IsFront xs m q low rest → residual_size m xs ≡ q * 2 ^ m + low
size_of xs m q low rest f =
    let place : q + 1 + 0 ≡ q + 1 = omega arith in
    let same : low ≡ number_from xs (q + 1) m = f.value ∙ number_from-drop xs (q + 1) 0 m ∙ ap (λ i. number_from xs i m) place in
    rw (sym f.run, same) refl

whole : (xs : List ℕ) (m n : ℕ) (r : ℤ) (rest : List ℕ) → AreBits xs → residual_length m xs ≡ n → n ≤ length xs → r ≡ residual_value m xs →
    rest ≡ drop n xs → IsResidual xs m n r rest
whole xs m n r rest bits long enough value behind =
    let front = front-rice m xs bits (omega arith) in
    let same : drop (residual_length m xs) xs ≡ rest = ap (λ k. drop k xs) long ∙ sym behind in
    record {
      long = long;
      enough = omega arith;
      residual = value;
      code = front ∙ ap (λ s. rice s m ++ drop (residual_length m xs) xs) (sym value) ∙ ap (λ zs. rice r m ++ zs) same;
      behind = sym same;
    }

either_zero : (b : Bool) → cond b (pos 0) (pos 0) ≡ pos 0
either_zero true = refl
either_zero false = refl

-- behind its low bits stands its sign, which a residual of size 0 doesn't have
pub signed_residual : (xs : List ℕ) (m q low size sign n : ℕ) (zs rest : List ℕ) (r : ℤ) → IsFront xs m q low zs → q * 2 ^ m + low ≡ size →
    n ≡ sign_length size →
    n ≤ length zs → sign ≡ number_from zs 0 n → rest ≡ drop n zs → r ≡ (if sign == 0 then pos size else neg_ℤ (pos size)) →
    IsResidual xs m (q + 1 + m + n) r rest
unfolding number_from
signed_residual xs m q low size sign n zs rest r f is long there value behind signed =
    let same : residual_size m xs ≡ size = size_of xs m q low zs f ∙ is in
    let run = f.run in
    let signs : sign_length (residual_size m xs) ≡ n = ap sign_length same ∙ sym long in
    let all : residual_length m xs ≡ q + 1 + m + n = omega arith in
    let place : q + 1 + (m + 0) ≡ zero_run xs + 1 + m = omega arith in
    let bit : get_or zs 0 0 ≡ get_or xs (zero_run xs + 1 + m) 0 =
    ap (λ ys. get_or ys 0 0) f.behind ∙ get_or-drop m (drop (q + 1) xs) 0 0 ∙ get_or-drop (q + 1) xs (m + 0) 0 ∙ ap (λ i. get_or xs i 0) place in
    let value_is : r ≡ residual_value m xs = signed ∙ by_size size sign n zs long value ∙ rw (bit, sym same) refl in
    let zs_long : length zs ≡ length (drop (q + 1) xs) - m = ap length f.behind ∙ length-drop m (drop (q + 1) xs) in
    let fits : q + 1 + m + n ≤ length xs = omega (arith, f.enough, f.one, length-drop (q + 1) xs) in
    let left_is : rest ≡ drop (q + 1 + m + n) xs = behind ∙ ap (drop n) (f.behind ∙ drop-drop m (q + 1) xs) ∙ drop-drop n (q + 1 + m) xs in
    whole xs m (q + 1 + m + n) r rest f.bits all fits value_is left_is
  where
    by_size : (size sign n : ℕ) (zs : List ℕ) → n ≡ sign_length size → sign ≡ number_from zs 0 n →
        ◌≡◌ {A = ℤ} (if sign == 0 then pos size else neg_ℤ (pos size)) (if get_or zs 0 0 == 0 then pos size else neg_ℤ (pos size))
    by_size zero sign n zs e f = either_zero (sign == 0) ∙ sym (either_zero (get_or zs 0 0 == 0))
    by_size (suc size) sign n zs e f =
        let at : sign ≡ get_or zs 0 0 = f ∙ ap (number_from zs 0) e ∙ omega arith in
        ap (λ b. if b == 0 then pos (suc size) else neg_ℤ (pos (suc size))) at

-- what is cut short begins with no residual
pub no_residual : (xs : List ℕ) (m : ℕ) → length xs < residual_length m xs → (r : ℤ) (rest : List ℕ) → xs ≡ rice r m ++ rest → ⊥
no_residual xs m short r rest e =
    let long : residual_length m xs ≡ length (rice r m) = ap (residual_length m) e ∙ residual_length-rice r m rest in
    omega (arith, ap length e, length-append (rice r m) rest)

-- it is cut in its low bits
pub no_low_bits : (xs a ys : List ℕ) (m q : ℕ) → a ≡ xs → q ≡ zero_run a → q < length a → ys ≡ drop (q + 1) a → length ys < m → length xs < residual_length m xs
no_low_bits xs a ys m q same run one behind short =
    let long : length ys ≡ length a - (q + 1) = ap length behind ∙ length-drop (q + 1) a in
    let whole : length a ≡ length xs = ap length same in
    let first : q ≡ zero_run xs = run ∙ ap zero_run same in
    omega arith

-- it is cut in its sign
pub no_sign : (xs : List ℕ) (m q low n : ℕ) (zs : List ℕ) → IsFront xs m q low zs → n ≡ sign_length (q * 2 ^ m + low) → length zs < n →
    length xs < residual_length m xs
no_sign xs m q low n zs f long short =
    let same : sign_length (residual_size m xs) ≡ n = ap sign_length (size_of xs m q low zs f) ∙ sym long in
    let run = f.run in
    let zs_long : length zs ≡ length (drop (q + 1) xs) - m = ap length f.behind ∙ length-drop m (drop (q + 1) xs) in
    omega (arith, f.enough, f.one, length-drop (q + 1) xs)

-- how many bits its sign takes
pub sign_bit : (size : ℕ) → bool_byte (not (size == 0)) ≡ sign_length size
sign_bit zero = refl
sign_bit (suc size) = rw (ne_eqb (suc size) 0 (λ e. omega arith)) refl

-- a residual's one with its low bits
pub one_with_low_bits : (m a : ℕ) → low_bits (m + 1) (2 ^ m + a % 2 ^ m) ≡ 1 ∷ low_bits m a
unfolding low_bits
one_with_low_bits m a =
    let below : a % 2 ^ m < 2 ^ m = omega (arith, pow_pos m) in
    let more : 2 ^ m + a % 2 ^ m ≡ 1 * 2 ^ m + a % 2 ^ m = omega arith in
    let top = shr_high 1 m (a % 2 ^ m) below in
    let low : low_bits m (1 * 2 ^ m + a % 2 ^ m) ≡ low_bits m a =
    low_bits-high m m 1 (a % 2 ^ m) (omega arith) ∙ sym (low_bits-high m m (a / 2 ^ m) (a % 2 ^ m) (omega arith)) ∙ ap (low_bits m) (shr_split a m) in
    rw (add-one, more, top, low) refl

-- zeros, a one with the low bits, and the sign
pub rice_in_parts : (xs ys zs ws : List ℕ) (r : ℤ) (m : ℕ) → ys ≡ xs ++ replicate (nat_abs r / 2 ^ m) 0 →
    zs ≡ ys ++ low_bits (m + 1) (2 ^ m + nat_abs r % 2 ^ m) → ws ≡ zs ++ sign_bits r →
    ws ≡ xs ++ rice r m
rice_in_parts xs ys zs ws r m e f g =
    let a = nat_abs r in
    let front : zs ≡ xs ++ replicate (a / 2 ^ m) 0 ++ 1 ∷ low_bits m a = f ∙ ap₂ (λ u v. u ++ v) e (one_with_low_bits m a) in
    g ∙ ap (λ u. u ++ sign_bits r) front ∙ simp append_assoc

pub sign_of_positive : (r : ℤ) → pos 0 <ℤ r → low_bits 1 0 ≡ sign_bits r
unfolding low_bits
sign_of_positive (pos zero) h = absurd (omega (arith, ints))
sign_of_positive (pos (suc n)) h = refl
sign_of_positive (negsuc n) h = absurd (omega (arith, ints))

pub sign_of_negative : (r : ℤ) → r <ℤ pos 0 → low_bits 1 1 ≡ sign_bits r
unfolding low_bits
sign_of_negative (pos n) h = absurd (omega (arith, ints))
sign_of_negative (negsuc n) h = refl
