-- How many bits spellings take.
use Rattle.std.proofs.Common.{◌≡◌, ℕ, zero, suc, ◌+◌, ◌-◌, ◌*◌, ◌^◌, ◌<◌, ◌≤◌, Bool, true, false, cond, List, [], ◌∷◌, ◌++◌, length, get_or, take}
use Rattle.std.proofs.Common.{drop, reverse, refl, ap, ap₂, sym, ◌∙◌, arith, length-append, length-take-le, drop-cons, add-one, ℤ, pos, negsuc, ◌+ℤ◌}
use Rattle.std.proofs.Common.{◌-ℤ◌, nat_abs}
use Rattle.std.proofs.lemmas.Int.{ints}
use Rattle.std.proofs.lemmas.Nat.{shr_le}
use Rattle.std.proofs.lemmas.List.{take_more, reverse-append}
use Rattle.std.proofs.lemmas.List.Sums.{sum_by-cons}
use Rattle.std.specs.Int.{is_negative}
use Rattle.std.specs.List.{sum_by}
use Rattle.dst_spec.specs.Bits.{low_bits, signed_bits}
use Rattle.dst_spec.specs.Rice.{rice, sign_bits}
use Rattle.dst_spec.specs.Table.{Kind, is_alone, plain_value, plain_values, eighth, later_values, body, Spelling, plain, coded, table_bits}
use Rattle.dst_spec.proofs.Numbers.{length-low_bits}
use Rattle.dst_spec.proofs.Rices.{length-rice}
use Rattle.table_code.specs.Choices.{residuals, IsResidual}
use Rattle.table_code.proofs.Weighing.{abs_most}

sign_most : (r : ℤ) → length (sign_bits r) ≤ 1
sign_most (pos zero) = omega arith
sign_most (pos (suc n)) = omega arith
sign_most (negsuc n) = omega arith

pub rice_most : (r : ℤ) (m : ℕ) → IsResidual r → m ≤ 7 → length (rice r m) ≤ 2057
rice_most r m h k =
    let size : nat_abs r ≤ 2048 = abs_most r 2048 (omega (arith, ints, h.0)) (omega (arith, ints, h.1)) in
    omega (arith, length-rice r m, shr_le (nat_abs r) m, sign_most r)

-- the first of the residuals
pub residuals_next : (ws vs : List ℤ) (j : ℕ) (r : ℤ) → j < length vs → r ≡ get_or vs j (pos 0) +ℤ eighth ws (reverse (take j vs)) →
    residuals ws (reverse (take j vs)) (drop j vs) ≡ r ∷ residuals ws (reverse (take (j + 1) vs)) (drop (j + 1) vs)
residuals_next ws vs j r h e =
    let v : ℤ = get_or vs j (pos 0) in
    let front = drop-cons vs j (pos 0) h in
    let more : reverse (take (j + 1) vs) ≡ v ∷ reverse (take j vs) = ap reverse (take_more vs j (pos 0) h) ∙ reverse-append (take j vs) (v ∷ []) in
    ap (residuals ws (reverse (take j vs))) front
    ∙ ap₂ (λ x xs. x ∷ xs) (sym e) (ap₂ (residuals ws) (sym more) (ap (λ i. drop i vs) (sym (add-one j))))

pub length-later : (ws : List ℤ) (m : ℕ) (earlier vs : List ℤ) →
    length (later_values ws m earlier vs) ≡ sum_by (λ r. length (rice r m)) (residuals ws earlier vs)
unfolding later_values
length-later ws m earlier [] = refl
length-later ws m earlier (v ∷ vs) =
    let r = v +ℤ eighth ws earlier in
    omega (
      arith,
      length-append (rice r m) (later_values ws m (v ∷ earlier) vs),
      length-later ws m (v ∷ earlier) vs,
      sum_by-cons (λ s. length (rice s m)) r (residuals ws (v ∷ earlier) vs),
    )

length-signed_bits : (n : ℕ) (v : ℤ) → length (signed_bits n v) ≡ n
length-signed_bits n (pos x) = length-low_bits n x
length-signed_bits n (negsuc x) = length-low_bits n (2 ^ n - 1 - x)

pub length-plain_value : (K : Kind) (v : ℤ) → length (plain_value K v) ≡ K.value_bits
length-plain_value K v = go (is_negative K.least)
  where
    go : (b : Bool) → length (cond b (signed_bits K.value_bits v) (low_bits K.value_bits (nat_abs (v -ℤ K.least)))) ≡ K.value_bits
    go true = length-signed_bits K.value_bits v
    go false = length-low_bits K.value_bits (nat_abs (v -ℤ K.least))

pub length-plain_values : (K : Kind) (vs : List ℤ) → length (plain_values K vs) ≡ length vs * K.value_bits
unfolding plain_values
length-plain_values K [] = omega arith
length-plain_values K (v ∷ vs) =
    omega (arith, length-append (plain_value K v) (plain_values K vs), length-plain_value K v, length-plain_values K vs)

-- of a whole table
pub length-alone : (K : Kind) (vs : List ℤ) (s : Spelling) → is_alone K (length vs) ≡ true → length (table_bits K vs s) ≡ K.length_bits
unfolding table_bits
length-alone K vs s alone =
    rw alone (omega (arith, length-append (low_bits K.length_bits (length vs - 1)) [], length-low_bits K.length_bits (length vs - 1)))

pub length-table : (K : Kind) (vs : List ℤ) (s : Spelling) → is_alone K (length vs) ≡ false → length (table_bits K vs s) ≡ K.length_bits + length (body K vs s)
unfolding table_bits
length-table K vs s together =
    rw together (omega (arith, length-append (low_bits K.length_bits (length vs - 1)) (body K vs s), length-low_bits K.length_bits (length vs - 1)))

pub length-plain : (K : Kind) (vs : List ℤ) → is_alone K (length vs) ≡ false → length (table_bits K vs plain) ≡ K.length_bits + 1 + length vs * K.value_bits
length-plain K vs together = omega (arith, length-table K vs plain together, length-plain_values K vs)

pub length-coded_body : (K : Kind) (vs : List ℤ) (method m : ℕ) →
    length (body K vs (coded method m)) ≡ 6 + length (plain_values K (take (method + 1) vs)) + length
    (later_values (K.weights method) m (reverse (take (method + 1) vs)) (drop (method + 1) vs))
length-coded_body K vs method m =
    let first = take (method + 1) vs in
    let later = later_values (K.weights method) m (reverse first) (drop (method + 1) vs) in
    omega (
      arith,
      length-append (1 ∷ low_bits 2 method ++ plain_values K first ++ low_bits 3 m) later,
      length-append (1 ∷ low_bits 2 method ++ plain_values K first) (low_bits 3 m),
      length-append (1 ∷ low_bits 2 method) (plain_values K first),
      length-low_bits 2 method,
      length-low_bits 3 m,
    )

pub length-coded : (K : Kind) (vs : List ℤ) (method m : ℕ) → is_alone K (length vs) ≡ false → method < length vs →
    length (table_bits K vs (coded method m))
    ≡ K.length_bits + 6 + (method + 1) * K.value_bits + sum_by (λ r. length (rice r m))
    (residuals (K.weights method) (reverse (take (method + 1) vs)) (drop (method + 1) vs))
length-coded K vs method m together h =
    let first = take (method + 1) vs in
    let long : length first ≡ method + 1 = length-take-le (method + 1) vs (omega arith) in
    let values : length (plain_values K first) ≡ (method + 1) * K.value_bits = length-plain_values K first ∙ ap (λ n. n * K.value_bits) long in
    omega (
      arith,
      length-table K vs (coded method m) together,
      values,
      length-later (K.weights method) m (reverse first) (drop (method + 1) vs),
      length-coded_body K vs method m,
    )

-- at least its length field
pub length-least : (K : Kind) (vs : List ℤ) (s : Spelling) → K.length_bits ≤ length (table_bits K vs s)
length-least K vs s = go (is_alone K (length vs)) refl
  where
    go : (b : Bool) → is_alone K (length vs) ≡ b → K.length_bits ≤ length (table_bits K vs s)
    go true e = omega (arith, length-alone K vs s e)
    go false e = omega (arith, length-table K vs s e)
