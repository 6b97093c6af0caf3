-- What is read as a table spells it, for each kind by its laws.
use Rattle.std.proofs.Common.{◌≡◌, ℕ, ◌+◌, ◌-◌, ◌^◌, ◌<◌, Bool, true, false, cond, nat_lt, List, [], ◌∷◌, ◌++◌, length, refl, ap, sym, ◌∙◌, arith}
use Rattle.std.proofs.Common.{append-nil, ℤ, pos, negsuc, ◌+ℤ◌, ◌-ℤ◌, nat_abs, Ok, if◌then◌else◌}
use Rattle.std.proofs.lemmas.Int.{ints}
use Rattle.std.proofs.lemmas.Nat.{pow_pos}
use Rattle.std.specs.Int.{is_negative}
use Rattle.dst_spec.specs.Bits.{low_bits, signed_bits, signed_value, AreBits}
use Rattle.dst_spec.specs.Table.{Kind, InRange, plain_value, HasTable}
use Rattle.dst_spec.specs.Header.{HasTables}
use Rattle.dst_spec.specs.Fields.{gives, read}
use Rattle.dst_spec.specs.Offends.{times, value_of, table_fields}
use Rattle.dst_spec.proofs.Tables.{IsKind, not_below}
use Rattle.dst_spec.proofs.TakingTables.{Takes-tables}
use Rattle.table_code.specs.Kinds.{HasPlainValues}
use Rattle.table_code.proofs.GoingOn.{read-then}
use Rattle.dst_spec.proofs.Meaning.{read-gives}

signed_again : (n x : ℕ) → x < 2 ^ n → signed_bits n (signed_value n x) ≡ low_bits n x
signed_again n x h = go (nat_lt x (2 ^ (n - 1)))
  where
    go : (b : Bool) → signed_bits n (cond b (pos x) (pos x -ℤ pos (2 ^ n))) ≡ low_bits n x
    go true = refl
    go false =
        let same : pos x -ℤ pos (2 ^ n) ≡ negsuc (2 ^ n - 1 - x) = omega (arith, ints) in
        let again : 2 ^ n - 1 - (2 ^ n - 1 - x) ≡ x = omega arith in
        ap (signed_bits n) same ∙ ap (low_bits n) again

-- a plain number is that of its value
pub plain_value-value_of : (K : Kind) (x : ℕ) → x < 2 ^ K.value_bits → plain_value K (value_of K x) ≡ low_bits K.value_bits x
plain_value-value_of K x h = go (is_negative K.least)
  where
    go : (b : Bool) → (if b then signed_bits K.value_bits (cond b (signed_value K.value_bits x) (pos x +ℤ K.least)) else low_bits K.value_bits
        (nat_abs (cond b (signed_value K.value_bits x) (pos x +ℤ K.least) -ℤ K.least))) ≡ low_bits K.value_bits x
    go true = signed_again K.value_bits x h
    go false =
        let same : pos x +ℤ K.least -ℤ K.least ≡ pos x = omega (arith, ints) in
        ap (λ z. low_bits K.value_bits (nat_abs z)) same

pub is_kind : (K : Kind) → HasPlainValues K → IsKind K
is_kind K law = record {
  plain = λ v h.
      let p = law.1 v h in
      (p.0, p.1, ap (plain_value K) (sym p.2) ∙ plain_value-value_of K p.0 p.1, p.2);
  keeps = λ v h. rw (not_below K.least v h.0, not_below v K.greatest h.1) refl;
  back = λ x h. (law.0 x h, plain_value-value_of K x h);
}

pub greatest_in_range : (K : Kind) → HasPlainValues K → InRange K K.greatest
greatest_in_range K law =
    let some : 0 < 2 ^ K.value_bits = omega (arith, pow_pos K.value_bits) in
    let p = law.0 0 some in
    (omega (arith, ints, p.0, p.1), omega (arith, ints))

pub table_spelled : (K : Kind) (xs ys : List ℕ) (p q : ℕ) (vs : List ℤ) → HasPlainValues K → AreBits xs → read (table_fields K) xs p ≡ Ok (vs, ys, q) →
    (w : List ℕ) × HasTable K vs w × (xs ≡ w ++ ys) × (q ≡ p + length w)
unfolding times HasTables
table_spelled K xs ys p q vs law bits e =
    let one : read (times 1 (table_fields K)) xs p ≡ Ok (vs ∷ [], ys, q) = read-then (table_fields K) (λ v. gives (v ∷ [])) xs ys p q vs e
    ∙ read-gives (vs ∷ []) ys q in
    let t = Takes-tables K 1 (is_kind K law) (greatest_in_range K law) xs p (vs ∷ [], ys, q) bits one in
    let h = t.related.1 in
    let whole : t.bits ≡ h.0 = h.4 ∙ ap (λ zs. h.0 ++ zs) h.3 ∙ append-nil h.0 in
    (h.0, h.2, t.whole ∙ ap (λ zs. zs ++ ys) whole, t.place_is ∙ ap (λ zs. p + length zs) whole)
