-- Digits in a list of bytes, and the number that they are.
use Rattle.std.proofs.Common.{◌≡◌, ◌≢◌, ℕ, zero, suc, ◌+◌, ◌-◌, ◌*◌, ◌^◌, ◌<◌, ◌==◌, Bool, true, false, List, [], ◌∷◌, length, drop, get_or, fold}
use Rattle.std.proofs.Common.{refl, ap, sym, ◌∙◌, arith, add-one, ltb-false, eqb-true, Option, Some, None, Result, Ok, Err}
use Rattle.std.specs.Prelude.{not, ◌&&◌, ◌||◌, nat_lt}
use Rattle.std.specs.Int.{IsInRange}
use Rattle.std.specs.List.{list_all}
use Rattle.std.specs.Result.{OkIff}
use Rattle.std.specs.Str.Parse.{ParsesUnsigned}
use Rattle.std.proofs.lemmas.Bool.{le-ltb}
use Rattle.std.proofs.lemmas.Str.Parse.{IsDigitsTest, FoldsDigits, IsNumeralModel, numerals_by_fold, parse_plain}
use Rattle.words_spec.specs.Slots.{is_digit, is_numeral, numeral_value, number_word}
use Rattle.dst_spec.proofs.Lists.{both_true}

-- the byte at a place, and those behind it
pub split_at : (bytes : List ℕ) (i : ℕ) → i < length bytes →
    list_all is_digit (drop i bytes) ≡ (is_digit (get_or bytes i 0) && list_all is_digit (drop (i + 1) bytes))
split_at [] i h = absurd (omega arith)
split_at (b ∷ bytes) zero h = refl
split_at (b ∷ bytes) (suc i) h = rw add-one
    (split_at bytes i (omega arith) ∙ ap (λ n. is_digit (get_or bytes i 0) && list_all is_digit (drop n bytes)) (add-one i))

in_range : (c : ℕ) → is_digit c ≡ true → IsInRange 48 57 c
in_range c e = go (nat_lt c 48) (nat_lt 57 c) refl refl e
  where
    go : (a b : Bool) → nat_lt c 48 ≡ a → nat_lt 57 c ≡ b → not (a || b) ≡ true → IsInRange 48 57 c
    go false false low high h = (ltb-false c 48 low, ltb-false 57 c high)
    go true b low high h = absurd cc
    go false true low high h = absurd cc

is_one : (c : ℕ) → IsInRange 48 57 c → is_digit c ≡ true
is_one c h = rw (le-ltb c 48 h.0, le-ltb 57 c h.1) refl

digits : IsDigitsTest (λ ds. list_all is_digit ds ≡ true)
digits = record {
  empty = refl;
  parts = λ c cs e. let both = both_true (is_digit c) (list_all is_digit cs) e in (in_range c both.0, both.1);
  more = λ c cs h k. ap (λ b. b && list_all is_digit cs) (is_one c h) ∙ k;
}

abbrev read_on : ℕ → List ℕ → ℕ
read_on n w = fold (λ n c. 10 * n + (c - 48)) n w

folds : FoldsDigits read_on
folds = record { empty = λ n. refl; more = λ n c cs h. ap (λ m. read_on m cs) (omega arith) }

own : IsNumeralModel (λ ds. list_all is_digit ds ≡ true) numeral_value
own = numerals_by_fold _ digits read_on folds

-- a numeral is digits, and doesn't begin with a plus
numeral_is : (w : List ℕ) → is_numeral w ≡ true → (list_all is_digit w ≡ true) × (0 < length w) × (get_or w 0 0 ≢ 43)
numeral_is [] e = absurd cc
numeral_is (c ∷ cs) e = go (c == 48) (length cs == 0) refl refl e
  where
    many : not (nat_lt c 49 || nat_lt 57 c) ≡ true → list_all is_digit cs ≡ true → (list_all is_digit (c ∷ cs) ≡ true) × (0 < length (c ∷ cs))
        × (get_or (c ∷ cs) 0 0 ≢ 43)
    many h k = go (nat_lt c 49) (nat_lt 57 c) refl refl h
      where
        go : (a b : Bool) → nat_lt c 49 ≡ a → nat_lt 57 c ≡ b → not (a || b) ≡ true → (list_all is_digit (c ∷ cs) ≡ true) × (0 < length (c ∷ cs))
            × (get_or (c ∷ cs) 0 0 ≢ 43)
        go false false low high h =
            let least = ltb-false c 49 low in
            let most = ltb-false 57 c high in
            (ap (λ b. b && list_all is_digit cs) (is_one c (omega arith, most)) ∙ k, omega arith, λ e. absurd (omega arith))
        go true b low high h = absurd cc
        go false true low high h = absurd cc

    alone : (cs : List ℕ) → c ≡ 48 → length cs ≡ 0 → (list_all is_digit (c ∷ cs) ≡ true) × (0 < length (c ∷ cs)) × (get_or (c ∷ cs) 0 0 ≢ 43)
    alone [] is none = (ap (λ b. b && true) (is_one c (omega arith, omega arith)), omega arith, λ e. absurd (omega arith))
    alone (d ∷ ds) is none = absurd (omega arith)

    go : (a b : Bool) → (c == 48) ≡ a → (length cs == 0) ≡ b → ((a && b) || (not (nat_lt c 49 || nat_lt 57 c) && list_all is_digit cs)) ≡ true →
        (list_all is_digit (c ∷ cs) ≡ true) × (0 < length (c ∷ cs)) × (get_or (c ∷ cs) 0 0 ≢ 43)
    go true true zero_first none h = alone cs (eqb-true c 48 zero_first) (eqb-true (length cs) 0 none)
    go true false zero_first none h = let both = both_true _ _ h in many both.0 both.1
    go false b zero_first none h = let both = both_true _ _ h in many both.0 both.1

-- what is read of a numeral is its number, where that has 32 bits
parsed : {E : Type 0} (w : List ℕ) (r : Result ℕ E) → is_numeral w ≡ true → ParsesUnsigned 32 10 w r →
    OkIff r ((list_all is_digit w ≡ true) × (0 < length w) × (numeral_value w < 2 ^ 32)) (numeral_value w)
parsed w r e h = parse_plain own 32 w r h (numeral_is w e).2

pub number_read : {E : Type 0} (w : List ℕ) (r : Result ℕ E) (x : ℕ) → is_numeral w ≡ true → ParsesUnsigned 32 10 w r → r ≡ Ok x →
    ◌≡◌ {A = Option ℕ} (Some x) (number_word w)
number_read w (Err y) x e h is = absurd cc
number_read {E} w (Ok y) x e h is =
    let p : ((list_all is_digit w ≡ true) × (0 < length w) × (numeral_value w < 2 ^ 32)) × (y ≡ numeral_value w) = parsed {E = E} w (Ok y) e h in
    let below : numeral_value w < 2 ^ 32 = p.0.2 in
    let same : y ≡ x = cc in
    rw (e, le-ltb 4294967295 (numeral_value w) (omega arith)) (ap Some (sym same ∙ p.1))

pub number_not_read : {E : Type 0} (w : List ℕ) (r : Result ℕ E) (x : E) → is_numeral w ≡ true → ParsesUnsigned 32 10 w r → r ≡ Err x →
    ◌≡◌ {A = Option ℕ} None (number_word w)
number_not_read w (Ok y) x e h is = absurd cc
number_not_read w (Err y) x e h is = go (nat_lt 4294967295 (numeral_value w)) refl
  where
    go : (b : Bool) → nat_lt 4294967295 (numeral_value w) ≡ b → ◌≡◌ {A = Option ℕ} None (number_word w)
    go true above = rw (e, above) refl
    go false above =
        let is = numeral_is w e in
        let most = ltb-false 4294967295 (numeral_value w) above in
        absurd (parsed w (Err y) e h (is.0, is.1, omega arith))
