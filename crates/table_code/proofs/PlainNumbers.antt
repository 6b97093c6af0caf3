-- The value that a plain number spells.
use Rattle.std.proofs.Common.{◌≡◌, ℕ, ◌-◌, ◌^◌, ◌<◌, ◌≤◌, nat_lt, Bool, true, false, ℤ, pos, negsuc, ◌+ℤ◌, ◌-ℤ◌, ◌≤ℤ◌, ◌<ℤ◌, refl, ap, sym, ◌∙◌}
use Rattle.std.proofs.Common.{arith, le-ltb, lt-ltb, ltb-true, ltb-false}
use Rattle.std.proofs.lemmas.Int.{ints}
use mir.Val.{SFits, to_z, of_z}
use mir.Syntax.{w32}
use Rattle.std.proofs.Math.Pow.{pow_mono}
use Rattle.std.specs.Int.{is_negative}
use Rattle.dst_spec.specs.Bits.{low_bits}
use Rattle.dst_spec.specs.Table.{Kind, InRange, plain_value}
use Rattle.dst_spec.specs.Offends.{value_of}
use Rattle.table_code.specs.Kinds.{IsSmall, HasPlainValues}
use Rattle.table_code.proofs.TableSpelled.{plain_value-value_of}

pub negative : (z : ℤ) → z <ℤ pos 0 → is_negative z ≡ true
negative (pos n) h = absurd (omega (arith, ints))
negative (negsuc n) h = refl

pub not_negative : (z : ℤ) → pos 0 ≤ℤ z → is_negative z ≡ false
not_negative (pos n) h = grind arith
not_negative (negsuc n) h = absurd (omega (arith, ints))

pub value_low : (K : Kind) (x : ℕ) → K.least <ℤ pos 0 → x < 2 ^ (K.value_bits - 1) → value_of K x ≡ pos x
value_low K x h k = rw (negative K.least h, lt-ltb x (2 ^ (K.value_bits - 1)) k) refl

pub value_high : (K : Kind) (x : ℕ) → K.least <ℤ pos 0 → 2 ^ (K.value_bits - 1) ≤ x → value_of K x ≡ pos x -ℤ pos (2 ^ K.value_bits)
value_high K x h k = rw (negative K.least h, le-ltb x (2 ^ (K.value_bits - 1)) k) refl

pub value_from_least : (K : Kind) (x : ℕ) → pos 0 ≤ℤ K.least → value_of K x ≡ pos x +ℤ K.least
value_from_least K x h = rw (not_negative K.least h) refl

pub few_numbers : (K : Kind) → IsSmall K → 2 ^ K.value_bits ≤ 512
few_numbers K s = pow_mono s.most_value

-- the number that spells a value
pub record IsNumber (K : Kind) (v : ℤ) (x : ℕ) : Type 0 where
  pub below : x < 2 ^ K.value_bits
  pub spelled : low_bits K.value_bits x ≡ plain_value K v

number_of : (K : Kind) (v : ℤ) → HasPlainValues K → InRange K v → (x : ℕ) × IsNumber K v x × (value_of K x ≡ v)
number_of K v law h =
    let p = law.1 v h in
    (p.0, record { below = p.1; spelled = sym (plain_value-value_of K p.0 p.1) ∙ ap (plain_value K) p.2 }, p.2)

pub number_from_least : (K : Kind) (v : ℤ) → HasPlainValues K → InRange K v → pos 0 ≤ℤ K.least → (x : ℕ) × IsNumber K v x × (v -ℤ K.least ≡ pos x)
number_from_least K v law h least =
    let p = number_of K v law h in
    let is : pos p.0 +ℤ K.least ≡ v = sym (value_from_least K p.0 least) ∙ p.2 in
    (p.0, p.1, omega (arith, ints))

pub number_low : (K : Kind) (v : ℤ) → HasPlainValues K → InRange K v → K.least <ℤ pos 0 → pos 0 ≤ℤ v → (x : ℕ) × IsNumber K v x × (v ≡ pos x)
number_low K v law h least some = go (number_of K v law h)
  where
    go : (x : ℕ) × IsNumber K v x × (value_of K x ≡ v) → (x : ℕ) × IsNumber K v x × (v ≡ pos x)
    go p = (p.0, p.1, either (nat_lt p.0 (2 ^ (K.value_bits - 1))) refl)
      where
        either : (b : Bool) → nat_lt p.0 (2 ^ (K.value_bits - 1)) ≡ b → v ≡ pos p.0
        either true e = sym p.2 ∙ value_low K p.0 least (ltb-true p.0 (2 ^ (K.value_bits - 1)) e)
        either false e =
            let is : pos p.0 -ℤ pos (2 ^ K.value_bits) ≡ v = sym (value_high K p.0 least (ltb-false p.0 (2 ^ (K.value_bits - 1)) e)) ∙ p.2 in
            absurd (omega (arith, ints, p.1.below))

pub number_high : (K : Kind) (v : ℤ) → HasPlainValues K → InRange K v → K.least <ℤ pos 0 → v <ℤ pos 0 →
    (x : ℕ) × IsNumber K v x × (v +ℤ pos (2 ^ K.value_bits) ≡ pos x)
number_high K v law h least some = go (number_of K v law h)
  where
    go : (x : ℕ) × IsNumber K v x × (value_of K x ≡ v) → (x : ℕ) × IsNumber K v x × (v +ℤ pos (2 ^ K.value_bits) ≡ pos x)
    go p = (p.0, p.1, either (nat_lt p.0 (2 ^ (K.value_bits - 1))) refl)
      where
        either : (b : Bool) → nat_lt p.0 (2 ^ (K.value_bits - 1)) ≡ b → v +ℤ pos (2 ^ K.value_bits) ≡ pos p.0
        either true e =
            let is : pos p.0 ≡ v = sym (value_low K p.0 least (ltb-true p.0 (2 ^ (K.value_bits - 1)) e)) ∙ p.2 in
            absurd (omega (arith, ints))
        either false e =
            let is : pos p.0 -ℤ pos (2 ^ K.value_bits) ≡ v = sym (value_high K p.0 least (ltb-false p.0 (2 ^ (K.value_bits - 1)) e)) ∙ p.2 in
            omega (arith, ints)

-- the same in 32 bits
pub moved_up : (v : ℤ) (n x : ℕ) → SFits w32 v → n ≤ 512 → x < n → v +ℤ pos n ≡ pos x → to_z w32 (of_z w32 (to_z w32 (of_z w32 v) +ℤ to_z w32 n)) ≡ pos x
moved_up v n x fits few below e = omega (arith, ints)

pub moved_down : (v l : ℤ) (x : ℕ) → SFits w32 v → SFits w32 l → x < 512 → v -ℤ l ≡ pos x →
    to_z w32 (of_z w32 (to_z w32 (of_z w32 v) -ℤ to_z w32 (of_z w32 l))) ≡ pos x
moved_down v l x fits fits_l below e = omega (arith, ints)

pub raised : (x : ℕ) (l : ℤ) → x < 512 → pos 0 ≤ℤ l → (pos x +ℤ l) ≤ℤ pos 255 → to_z w32 (of_z w32 (to_z w32 x +ℤ to_z w32 (of_z w32 l))) ≡ pos x +ℤ l
raised x l few some most = omega (arith, ints)
