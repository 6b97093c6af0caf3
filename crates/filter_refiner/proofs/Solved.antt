-- What solving has found so far, and what it answers.
use Rattle.std.proofs.Common.{◌≡◌, ℕ, zero, suc, ◌+◌, ◌-◌, ◌^◌, ◌<◌, ◌≤◌, ℤ, pos, ◌+ℤ◌, ◌-ℤ◌, ◌*ℤ◌, nat_abs, Bool, true, false, cond, ◌||◌, nat_lt, List}
use Rattle.std.proofs.Common.{length, map, take, get_or, Some, None, inl, inr, length-take, refl, ap, sym, ◌∙◌, arith}
use Rattle.std.proofs.lemmas.Int.{ints}
use Rattle.std.proofs.lemmas.Bool.{cases_lt, false≢true}
use Rattle.std.proofs.lemmas.Bool.Decides.{nat_tests}
use Rattle.std.proofs.lemmas.List.{ext_get_or, get_or-take}
use Rattle.std.proofs.lemmas.List.FromFn.{length-map-range_with_len, get_or-map-range_with_len}
use Rattle.std.specs.List.{range_with_len, list_any}
use Rattle.level_spec.specs.Correlation.{sum_over}
use Rattle.level_spec.specs.Recursion.{State, whole}
use Rattle.level_spec.specs.Rows.{row_value}
use Rattle.level_spec.specs.Solving.{growth, grown, is_unsolved, solved}
use Rattle.filter_refiner.proofs.Numbers.{sum_over-next}

-- the value at place k after the rows before `count`
abbrev pub grown_by : List State → List ℤ → ℕ → ℕ → ℤ
grown_by rows y count k = growth rows y k -ℤ sum_over (λ i. whole (growth rows y i *ℤ row_value rows i k)) (k + 1) (count - (k + 1))

-- one more row
pub grown_by-next : (rows : List State) (y : List ℤ) (count k : ℕ) → k < count →
    grown_by rows y count k -ℤ whole (growth rows y count *ℤ row_value rows count k) ≡ grown_by rows y (count + 1) k
grown_by-next rows y count k h =
    let F : ℕ → ℤ = λ i. whole (growth rows y i *ℤ row_value rows i k) in
    let e : count + 1 - (k + 1) ≡ count - (k + 1) + 1 = omega arith in
    let last : k + 1 + (count - (k + 1)) ≡ count = omega arith in
    let next : sum_over F (k + 1) (count + 1 - (k + 1)) ≡ sum_over F (k + 1) (count - (k + 1)) +ℤ F count =
    ap (sum_over F (k + 1)) e ∙ sum_over-next F (k + 1) (count - (k + 1)) ∙ ap (λ i. sum_over F (k + 1) (count - (k + 1)) +ℤ F i) last in
    rw next (omega (arith, ints))

-- the row's own value
pub grown_by-own : (rows : List State) (y : List ℤ) (count : ℕ) → growth rows y count ≡ grown_by rows y (count + 1) count
unfolding sum_over
grown_by-own rows y count =
    let F : ℕ → ℤ = λ i. whole (growth rows y i *ℤ row_value rows i count) in
    let e : count + 1 - (count + 1) ≡ 0 = omega arith in
    let none : sum_over F (count + 1) (count + 1 - (count + 1)) ≡ pos 0 = ap (sum_over F (count + 1)) e in
    rw none (omega (arith, ints))

not_first : (test : ℕ → Bool) (a k : ℕ) → a ≤ k → test k ≡ true → test a ≡ false → a + 1 ≤ k
not_first test a k least h e = elim (cases_lt a k) [
  | inl less ↦ omega arith
  | inr more ↦ let same : a ≡ k =
      omega arith in absurd (false≢true (sym e ∙ ap test same ∙ h))
]

any-at : (test : ℕ → Bool) (a n k : ℕ) → a ≤ k → k < a + n → test k ≡ true → list_any test (range_with_len a n) ≡ true
any-at test a zero k least most h = absurd (omega arith)
any-at test a (suc n) k least most h = elim (test a) as (λ b. (test a ≡ b) → (b || list_any test (range_with_len (a + 1) n)) ≡ true) [
  | true ↦ λ e. refl
  | false ↦ λ e. any-at test (a + 1) n k (not_first test a k least h e) (omega arith) h
] refl

none-of : (test : ℕ → Bool) (a n : ℕ) → ((k : ℕ) → a ≤ k → k < a + n → test k ≡ false) → list_any test (range_with_len a n) ≡ false
none-of test a zero h = refl
none-of test a (suc n) h = ap (λ b. b || list_any test (range_with_len (a + 1) n)) (h a (omega arith) (omega arith))
    ∙ none-of test (a + 1) n (λ k least most. h k (omega arith) (omega arith))

pub solved-none : (rows : List State) (y : List ℤ) (k : ℕ) → k < length rows → 2 ^ 62 < nat_abs (growth rows y k) → solved rows y ≡ None
unfolding solved is_unsolved
solved-none rows y k h great =
    let test : nat_lt (2 ^ 62) (nat_abs (growth rows y k)) ≡ true = grind (arith, nat_tests) in
    let e = any-at (λ i. nat_lt (2 ^ 62) (nat_abs (growth rows y i))) 0 (length rows) k (omega arith) (omega arith) test in
    ap (λ b. cond b None (Some (map (λ j. whole (grown rows y j)) (range_with_len 0 (length rows))))) e

small-test : (n : ℕ) → n ≤ 2 ^ 62 → nat_lt (2 ^ 62) n ≡ false
small-test n h = grind (arith, nat_tests)

pub solved-some : (rows : List State) (y d : List ℤ) → length d ≡ 128 → length rows ≤ 128 → ((k : ℕ) → k < length rows → nat_abs (growth rows y k) ≤ 2 ^ 62) →
    ((k : ℕ) → k < length rows → get_or d k (pos 0) ≡ whole (grown_by rows y (length rows) k)) → solved rows y ≡ Some (take (length rows) d)
unfolding solved is_unsolved grown
solved-some rows y d long few small known =
    let n = length rows in
    let F : ℕ → ℤ = λ j. whole (grown_by rows y n j) in
    let e = none-of (λ i. nat_lt (2 ^ 62) (nat_abs (growth rows y i))) 0 n (λ k least most. small-test (nat_abs (growth rows y k)) (small k (omega arith))) in
    let front = length-take n d in
    let many = length-map-range_with_len F 0 n in
    ap (λ b. cond b None (Some (map F (range_with_len 0 n)))) e
    ∙ ap Some (sym (ext_get_or (pos 0) (take n d) (map F (range_with_len 0 n)) (omega arith) (λ k h. get_or-take n d k (pos 0) (omega arith)
    ∙ known k (omega arith) ∙ sym (get_or-map-range_with_len F 0 n k k (pos 0) (omega arith) (omega arith)))))
