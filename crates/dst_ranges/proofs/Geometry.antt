-- The parts of some bytes: the first one, and those of the rest; they are the bytes, one part after the other.
use Rattle.std.proofs.Common.{◌≡◌, inl, inr, ℕ, zero, suc, ◌+◌, ◌-◌, ◌*◌, ◌/◌, ◌%◌, ◌<◌, ◌≤◌, List, [], ◌∷◌, ◌++◌, length, take, map}
use Rattle.std.proofs.Common.{refl, sym, ap, ap₂, ◌∙◌, arith, eq-eqb}
use Rattle.std.specs.Prelude.{min, max, if◌then◌else◌}
use Rattle.std.specs.List.{range_with_len}
use Rattle.std.proofs.Math.Nat.{div-add-mod, lt-div-mul-add, div-mul-le_self, le-div_iff_mul-le}
use Rattle.std.proofs.lemmas.Nat.{div-mul-add}
use Rattle.std.proofs.lemmas.Bool.{ne_eqb, cases_lt}
use Rattle.std.proofs.lemmas.List.{length-take-le}
use Rattle.std.proofs.lemmas.List.Sums.{sum_by-cons}
use Rattle.dsdiff_spec.specs.Bytes.{bytes_at, between}
use Rattle.dsdiff_spec.specs.Ranges.{touched}
use Rattle.dsdiff_spec.proofs.Sizes.{between-joined}
use Rattle.dst_ranges.specs.Parts.{Part, part, parts_between, bytes_of, counts_of}

-- ---- no bytes have no part
pub no_parts : (n a : ℕ) → parts_between n a a ≡ []
no_parts n a =
    ap (λ b. map (λ k. part k (max a (k * n)) (min a ((k + 1) * n) - max a (k * n))) (if b then [] else range_with_len (a / n) ((a - 1) / n + 1 - a / n)))
    (eq-eqb a a refl)

-- ---- the first part ends with the bytes or with its frame
abbrev pub first_count : ℕ → ℕ → ℕ → ℕ
first_count n a b = min (b - a) (n - a % n)

-- the parts in some frames that begin behind two places are the same
abbrev part_in : ℕ → ℕ → ℕ → ℕ → Part
part_in n a b k = part k (max a (k * n)) (min b ((k + 1) * n) - max a (k * n))

same_parts : (n a e b j len : ℕ) → a ≤ j * n → e ≤ j * n → map (part_in n a b) (range_with_len j len) ≡ map (part_in n e b) (range_with_len j len)
same_parts n a e b j zero p q = refl
same_parts n a e b j (suc len) p q =
    let here : max a (j * n) ≡ max e (j * n) = omega arith in
    ap₂ {A = Part} (λ x xs. x ∷ xs) (ap (λ m. part j m (min b ((j + 1) * n) - m)) here)
    (same_parts n a e b (j + 1) len (omega arith) (omega arith))

touched_are : (n a b : ℕ) → a < b → touched n a b ≡ range_with_len (a / n) ((b - 1) / n + 1 - a / n)
touched_are n a b h =
    ap (λ t. if t then [] else range_with_len (a / n) ((b - 1) / n + 1 - a / n)) (ne_eqb a b (λ e. omega (arith, e)))

-- ---- where a place lies in its frame
record LiesIn (n a : ℕ) : Type 0 where
  pub begins : a / n * n ≤ a
  pub ends : a < a / n * n + n
  pub rest : a % n ≡ a - a / n * n

lies_in : (n a : ℕ) → 0 < n → LiesIn n a
lies_in n a h =
    let whole = div-add-mod a n in
    let below = div-mul-le_self a n in
    let swap : n * (a / n) ≡ a / n * n = omega arith in
    record { begins = below; ends = lt-div-mul-add {a = a} {b = n} h; rest = omega (arith, whole, swap) }

-- ---- the part in the frame of the first byte
head_is : (n a b : ℕ) → 0 < n → a < b → part_in n a b (a / n) ≡ part (a / n) a (first_count n a b)
head_is n a b some h =
    let k = a / n in
    let here = lies_in n a some in
    let at : max a (k * n) ≡ a = omega (arith, here.begins) in
    let next : (k + 1) * n ≡ k * n + n = omega arith in
    let count : min b ((k + 1) * n) - a ≡ first_count n a b = omega (arith, here.begins, here.ends, here.rest, next) in
    ap (λ f. part k f (min b ((k + 1) * n) - f)) at ∙ ap (part k a) count

-- the bytes end in that frame
one_touched : (n a b : ℕ) → 0 < n → a < b → b ≤ a / n * n + n → touched n a b ≡ a / n ∷ []
one_touched n a b some h fits =
    let k = a / n in
    let here = lies_in n a some in
    let split : b - 1 ≡ k * n + (b - 1 - k * n) = omega (arith, here.begins) in
    let last : (b - 1) / n ≡ k = ap (λ m. m / n) split ∙ div-mul-add k n (b - 1 - k * n) (omega (arith, here.begins)) in
    let one : (b - 1) / n + 1 - k ≡ suc zero = omega (arith, last) in
    touched_are n a b h ∙ ap (range_with_len k) one

only_part : (n a b : ℕ) → 0 < n → a < b → b ≤ a / n * n + n →
    parts_between n a b ≡ part (a / n) a (first_count n a b) ∷ parts_between n (a + first_count n a b) b
only_part n a b some h fits =
    let here = lies_in n a some in
    let all : a + first_count n a b ≡ b = omega (arith, here.begins, here.ends, here.rest) in
    ap (map (part_in n a b)) (one_touched n a b some h fits)
    ∙ ap₂ {A = Part} (λ x xs. x ∷ xs) (head_is n a b some h) (sym (ap (λ m. parts_between n m b) all ∙ no_parts n b))

-- they go on in the next one
more_parts : (n a b : ℕ) → 0 < n → a < b → a / n * n + n < b →
    parts_between n a b ≡ part (a / n) a (first_count n a b) ∷ parts_between n (a + first_count n a b) b
more_parts n a b some h over =
    let k = a / n in
    let q = (b - 1) / n in
    let here = lies_in n a some in
    let e = a + first_count n a b in
    let border : e ≡ (k + 1) * n + 0 = omega (arith, here.begins, here.ends, here.rest) in
    let next : e / n ≡ k + 1 = ap (λ m. m / n) border ∙ div-mul-add (k + 1) n 0 some in
    let least : k + 1 ≤ q = (le-div_iff_mul-le {k = n} {x = k + 1} {y = b - 1} some).1 (omega arith) in
    let count : q + 1 - k ≡ suc (q - k) = omega (arith, least) in
    let rest : q + 1 - e / n ≡ q - k = omega (arith, next, least) in
    let frames : touched n a b ≡ k ∷ range_with_len (k + 1) (q - k) = touched_are n a b h ∙ ap (range_with_len k) count in
    let others : touched n e b ≡ range_with_len (k + 1) (q - k) =
    touched_are n e b (omega (arith, border)) ∙ ap (range_with_len (e / n)) rest ∙ ap (λ j. range_with_len j (q - k)) next in
    ap (map (part_in n a b)) frames
    ∙ ap₂ {A = Part} (λ x xs. x ∷ xs) (head_is n a b some h)
    (same_parts n a e b (k + 1) (q - k) (omega (arith, here.ends)) (omega (arith, border)) ∙ ap (map (part_in n e b)) (sym others))

pub first_part : (n a b : ℕ) → 0 < n → a < b →
    parts_between n a b ≡ part (a / n) a (first_count n a b) ∷ parts_between n (a + first_count n a b) b
first_part n a b some h = elim (cases_lt (a / n * n + n) b) [ inl over ↦ more_parts n a b some h over | inr fits ↦ only_part n a b some h fits ]

-- the first part has bytes, and ends with the bytes or before
pub first_fits : (n a b : ℕ) → 0 < n → a < b → (0 < first_count n a b) × (a + first_count n a b ≤ b)
first_fits n a b some h = let here = lies_in n a some in (omega (arith, here.begins, here.ends, here.rest), omega arith)

-- and lies in a buffer of a whole sound
pub first_taken : (n a b : ℕ) {count : ℕ} (buffer : List ℕ) → 0 < n → a < b → count ≡ first_count n a b → length buffer ≡ n →
    (0 < count) × (a + count ≤ b) × (length (take count buffer) ≡ count)
first_taken n a b {count} buffer some h is long =
    let fits = first_fits n a b some h in
    (omega (arith, fits.0), omega (arith, fits.1), length-take-le count buffer (omega arith))

-- ---- all parts are the bytes, and as many
nothing_between : (sound : List ℕ) (n a b : ℕ) → a ≡ b → bytes_of sound (parts_between n a b) ≡ between sound a b
nothing_between sound n a b same =
    let none : b - a ≡ 0 = omega (arith, same) in
    ap (λ m. bytes_of sound (parts_between n a m)) (sym same) ∙ ap (bytes_of sound) (no_parts n a) ∙ ap (bytes_at sound a) (sym none)

bytes_within : (sound : List ℕ) (n most a b : ℕ) → 0 < n → a ≤ b → b - a ≤ most → bytes_of sound (parts_between n a b) ≡ between sound a b
bytes_within sound n zero a b some order le = nothing_between sound n a b (omega arith)
bytes_within sound n (suc most) a b some order le = elim (cases_lt a b) [
  | inr ge ↦ nothing_between sound n a b (omega arith)
  | inl h ↦
      let m = first_count n a b in
      let fits = first_fits n a b some h in
      let part_is : m ≡ a + m - a = omega arith in
      ap (bytes_of sound) (first_part n a b some h)
      ∙ ap₂ {A = List ℕ} (λ xs ys. xs ++ ys) (ap (bytes_at sound a) part_is)
      (bytes_within sound n most (a + m) b some fits.1 (omega (arith, fits.0)))
      ∙ between-joined sound a (a + m) b (omega arith) fits.1
]

pub bytes_are : (sound : List ℕ) (n a b : ℕ) → 0 < n → a ≤ b → bytes_of sound (parts_between n a b) ≡ between sound a b
bytes_are sound n a b some order = bytes_within sound n (b - a) a b some order (omega arith)

pub counts_first : (p : Part) (ps : List Part) → counts_of (p ∷ ps) ≡ p.count + counts_of ps
counts_first p ps = sum_by-cons (λ (n : ℕ). n) p.count (map (λ (q : Part). q.count) ps)

count_within : (n most a b : ℕ) → 0 < n → a ≤ b → b - a ≤ most → counts_of (parts_between n a b) ≡ b - a
count_within n zero a b some order le =
    let same : a ≡ b = omega arith in
    ap (λ m. counts_of (parts_between n a m)) (sym same) ∙ ap counts_of (no_parts n a) ∙ omega arith
count_within n (suc most) a b some order le = elim (cases_lt a b) [
  | inr ge ↦
      let same : a ≡ b = omega arith in
      ap (λ m. counts_of (parts_between n a m)) (sym same) ∙ ap counts_of (no_parts n a) ∙ omega arith
  | inl h ↦
      let m = first_count n a b in
      let fits = first_fits n a b some h in
      let rest = count_within n most (a + m) b some fits.1 (omega (arith, fits.0)) in
      let both : counts_of (part (a / n) a m ∷ parts_between n (a + m) b) ≡ m + counts_of (parts_between n (a + m) b) = counts_first (part (a / n) a m)
      (parts_between n (a + m) b) in
      ap counts_of (first_part n a b some h) ∙ both ∙ omega (arith, rest, fits.1)
]

pub count_is : (n a b : ℕ) → 0 < n → a ≤ b → counts_of (parts_between n a b) ≡ b - a
count_is n a b some order = count_within n (b - a) a b some order (omega arith)

-- bytes that fit behind a place in its frame end in that frame
ends_in_frame : (n a count : ℕ) → 0 < n → a % n + count ≤ n → a + count ≤ a / n * n + n
ends_in_frame n a count some fits = let here = lies_in n a some in omega (arith, here.begins, here.rest)

-- so that they touch that frame alone
pub part_touched : (n from count : ℕ) → 0 < count → from % n + count ≤ n → touched n from (from + count) ≡ from / n ∷ []
part_touched n from count any fits =
    let some : 0 < n = omega (arith, any, fits) in
    one_touched n from (from + count) some (omega (arith, any)) (ends_in_frame n from count some fits)
