-- The doublings that give a probability eight bits, and the probabilities at the places of a table.
use Rattle.std.proofs.Common.{◌≡◌, ℕ, suc, ◌+◌, ◌-◌, ◌*◌, ◌%◌, ◌^◌, ◌<◌, ◌≤◌, if◌then◌else◌, refl, ap, sym, ◌∙◌, arith, Bool, true, false, nat_lt}
use Rattle.std.proofs.Common.{nat_eq, ltb-true, ltb-false}
use Rattle.std.proofs.lemmas.Bool.{eqb-true, eqb-false}
use Rattle.std.proofs.lemmas.Nat.{leading_top, pow-add, pow_below, pow_pos, mul-le}
use Rattle.arith_core.specs.Range.{IsShift}
use lib.Count.{count_leading_zeros}

-- the place of the highest bit of a probability
record HasTop (p : ℕ) : Type 0 where
  top : ℕ
  low : top ≤ 7
  is : count_leading_zeros 64 p - 56 ≡ 7 - top
  many : 56 ≤ count_leading_zeros 64 p
  least : 2 ^ top ≤ p
  most : p < 2 ^ suc top

has_top : (p : ℕ) → 1 ≤ p → p ≤ 128 → HasTop p
has_top p h k =
    let t = leading_top 64 p (omega arith) (omega arith) in
    let low : t.0 ≤ 7 = below t.0 p k t.2 in
    record { top = t.0; low = low; is = omega (arith, t.1); many = omega (arith, t.1); least = t.2; most = t.3 }
  where
    below : (t p : ℕ) → p ≤ 128 → 2 ^ t ≤ p → t ≤ 7
    below t p h k = go (nat_lt 7 t) refl
      where
        go : (b : Bool) → nat_lt 7 t ≡ b → t ≤ 7
        go true e =
            let lt : 7 < t = ltb-true 7 t e in
            let more = pow_below 7 t lt in
            absurd (omega arith)
        go false e = ltb-false 7 t e

-- the zeros in front of a probability in eight bits
abbrev pub shift_of : ℕ → ℕ
shift_of p = count_leading_zeros 64 p - 56

pub is_shift : (p : ℕ) → 1 ≤ p → p ≤ 128 → IsShift p (shift_of p)
is_shift p h k =
    let t = has_top p h k in
    let s = 7 - t.top in
    let is = t.is in
    let to_eight : suc t.top + s ≡ 8 = omega (arith, t.low) in
    let to_seven : t.top + s ≡ 7 = omega (arith, t.low) in
    let eight : 2 ^ suc t.top * 2 ^ s ≡ 256 = sym (pow-add 2 (suc t.top) s) ∙ ap (λ n. 2 ^ n) to_eight in
    let seven : 2 ^ t.top * 2 ^ s ≡ 128 = sym (pow-add 2 t.top s) ∙ ap (λ n. 2 ^ n) to_seven in
    let some = pow_pos s in
    let most : p * 2 ^ s < 256 = omega (arith, times_lt p (2 ^ suc t.top) (2 ^ s) t.most some) in
    let least : 128 ≤ p * 2 ^ s = omega (arith, mul-le (2 ^ t.top) (2 ^ s) p (2 ^ s) t.least (omega arith)) in
    rw is (record { few = omega arith; least = least; most = most })
  where
    times_lt : (a b c : ℕ) → a < b → 0 < c → a * c < b * c
    times_lt a b c h k = omega (arith, mul-le (suc a) c b c (omega arith) (omega arith))

-- the probability at a place of a table
abbrev pub prob_at : ℕ → ℕ
prob_at i = if nat_eq i 0 then 128 else i

pub prob_at-is : (p : ℕ) → 1 ≤ p → p ≤ 128 → prob_at (p % 128) ≡ p
prob_at-is p h k = go (nat_eq (p % 128) 0) refl
  where
    go : (e : Bool) → nat_eq (p % 128) 0 ≡ e → (if e then 128 else (p % 128)) ≡ p
    go true is = let none : p % 128 ≡ 0 = eqb-true (p % 128) 0 is in omega arith
    go false is = let some = eqb-false (p % 128) 0 is in omega arith
