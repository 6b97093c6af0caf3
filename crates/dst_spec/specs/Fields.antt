-- Fields that stand one after the other, each with its rule, and what they give.
use Rattle.std.specs.Prelude.{ℕ, zero, suc, ◌+◌, ◌*◌, ◌^◌, ℤ, pos, neg_ℤ, true, false, ◌==◌, nat_lt, if◌then◌else◌, List, length, drop, get_or}
use Rattle.std.specs.Prelude.{Option, Some, None, Result, Ok, Err}
use Rattle.std.specs.List.{prefix_len}
use Rattle.dst_spec.specs.Bits.{number_from}
use Rattle.dst_spec.specs.declared.faults.FrameFault.{FrameFault}
use Rattle.dst_spec.specs.declared.faults.Reason.{Reason}
use Rattle.dst_spec.specs.declared.faults.Reason.TheVariants.{Truncated}

-- A rule answers why a value of its field is refused, if it is. Which fields come next follows from the value.
-- A residual's field has as many bits as the residual takes. A code's field is never cut short: its bits behind the end
-- of the frame are 0.
pub data Fields (A : Type 0) : Type 0 where
  gives : A → Fields A
  field : ℕ → (ℕ → Option Reason) → (ℕ → Fields A) → Fields A
  residual : ℕ → (ℤ → Option Reason) → (ℤ → Fields A) → Fields A
  code : ℕ → (ℕ → Option Reason) → (ℕ → Fields A) → Fields A

-- the fields of a part, then those of what follows it
infixl 10 ◌>>=◌
abbrev pub ◌>>=◌ : {A B : Type 0} → Fields A → (A → Fields B) → Fields B
(gives x) >>= f = f x
(field n rule next) >>= f = field n rule (λ v. next v >>= f)
(residual m rule next) >>= f = residual m rule (λ v. next v >>= f)
(code n rule next) >>= f = code n rule (λ v. next v >>= f)

-- a field without a rule, of n bits
abbrev pub any : {V : Type 0} → V → Option Reason
any v = None

abbrev pub number : ℕ → Fields ℕ
number n = field n any gives

-- The residual that bits begin with, and how many of them it takes: its size is the number of zeros in front of the
-- first one, times 2 ^ m, and m bits; unless it is 0 a sign follows.
abbrev pub zero_run : List ℕ → ℕ
zero_run xs = prefix_len (λ b. b == 0) xs

abbrev pub residual_size : ℕ → List ℕ → ℕ
residual_size m xs = zero_run xs * 2 ^ m + number_from xs (zero_run xs + 1) m

abbrev pub sign_length : ℕ → ℕ
sign_length zero = 0
sign_length (suc size) = 1

abbrev pub residual_length : ℕ → List ℕ → ℕ
residual_length m xs = zero_run xs + 1 + m + sign_length (residual_size m xs)

abbrev pub residual_value : ℕ → List ℕ → ℤ
residual_value m xs =
    let size = pos (residual_size m xs) in
    if get_or xs (zero_run xs + 1 + m) 0 == 0 then size else neg_ℤ size

-- The fields read from bits on, the first of which is at a place of the frame: what they give with the bits behind
-- them and their place, or the first field that isn't there with all its bits or breaks its rule.
unfoldable pub read : {A : Type 0} → Fields A → List ℕ → ℕ → Result (A × List ℕ × ℕ) FrameFault
read (gives x) xs place = Ok (x, xs, place)
read (field n rule next) xs place =
    elim (nat_lt (length xs) n) [
      | true ↦ Err (record { reason = Truncated; bit = place })
      | false ↦
          let v = number_from xs 0 n in
          elim (rule v) [
            | Some reason ↦ Err (record { reason = reason; bit = place })
            | None ↦ read (next v) (drop n xs) (place + n)
          ]
    ]
read (residual m rule next) xs place =
    let n = residual_length m xs in
    elim (nat_lt (length xs) n) [
      | true ↦ Err (record { reason = Truncated; bit = place })
      | false ↦
          let v = residual_value m xs in
          elim (rule v) [
            | Some reason ↦ Err (record { reason = reason; bit = place })
            | None ↦ read (next v) (drop n xs) (place + n)
          ]
    ]
read (code n rule next) xs place =
    let v = number_from xs 0 n in
    elim (rule v) [
      | Some reason ↦ Err (record { reason = reason; bit = place })
      | None ↦ read (next v) (drop n xs) (place + n)
    ]
