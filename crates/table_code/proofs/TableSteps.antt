-- How reading a table goes on, step by step.
use Rattle.std.proofs.Common.{◌≡◌, ◌≢◌, ℕ, ◌+◌, ◌-◌, ◌==◌, true, false, if◌then◌else◌, List, [], ◌∷◌, ◌++◌, length, reverse, ap, sym, ◌∙◌, ℤ, Ok, Err, ne_eqb}
use Rattle.dst_spec.specs.Table.{Kind, is_alone}
use Rattle.dst_spec.specs.Fields.{Fields, gives, field, ◌>>=◌, number, read}
use Rattle.dst_spec.specs.Offends.{times, plain_fields, method_rule, later_fields, coded_fields, body_fields, table_fields}
use Rattle.dst_spec.specs.declared.faults.FrameFault.{FrameFault}
use Rattle.table_code.specs.Parts.{later_rest}
use Rattle.table_code.proofs.GoingOn.{read-then, read-stops}
use Rattle.dst_spec.proofs.Meaning.{read-gives}

-- what follows the method, the first values, and the Rice number of a coded table
abbrev pub behind_m : Kind → ℕ → ℕ → List ℤ → ℕ → Fields (List ℤ)
behind_m K count method first m = later_fields K (K.weights method) m (count - (method + 1)) (reverse first) >>= (λ later. gives (first ++ later))

abbrev pub behind_first : Kind → ℕ → ℕ → List ℤ → Fields (List ℤ)
behind_first K count method first = number 3 >>= behind_m K count method first

abbrev pub behind_method : Kind → ℕ → ℕ → Fields (List ℤ)
behind_method K count method = times (method + 1) (plain_fields K) >>= behind_first K count method

pub method_stops : (K : Kind) (count : ℕ) (xs : List ℕ) (p : ℕ) (t : FrameFault) → read (field 2 (method_rule count) gives) xs p ≡ Err t →
    read (coded_fields K count) xs p ≡ Err t
method_stops K count xs p t e = read-stops (field 2 (method_rule count) gives) (behind_method K count) xs p t e

pub method_then : (K : Kind) (count method : ℕ) (xs ys : List ℕ) (p q : ℕ) → read (field 2 (method_rule count) gives) xs p ≡ Ok (method, ys, q) →
    read (coded_fields K count) xs p ≡ read (behind_method K count method) ys q
method_then K count method xs ys p q e = read-then (field 2 (method_rule count) gives) (behind_method K count) xs ys p q method e

pub first_stops : (K : Kind) (count method : ℕ) (xs : List ℕ) (p : ℕ) (t : FrameFault) → read (times (method + 1) (plain_fields K)) xs p ≡ Err t →
    read (behind_method K count method) xs p ≡ Err t
first_stops K count method xs p t e = read-stops (times (method + 1) (plain_fields K)) (behind_first K count method) xs p t e

pub first_then : (K : Kind) (count method : ℕ) (first : List ℤ) (xs ys : List ℕ) (p q : ℕ) →
    read (times (method + 1) (plain_fields K)) xs p ≡ Ok (first, ys, q) →
    read (behind_method K count method) xs p ≡ read (behind_first K count method first) ys q
first_then K count method first xs ys p q e = read-then (times (method + 1) (plain_fields K)) (behind_first K count method) xs ys p q first e

pub m_stops : (K : Kind) (count method : ℕ) (first : List ℤ) (xs : List ℕ) (p : ℕ) (t : FrameFault) → read (number 3) xs p ≡ Err t →
    read (behind_first K count method first) xs p ≡ Err t
m_stops K count method first xs p t e = read-stops (number 3) (behind_m K count method first) xs p t e

pub m_then : (K : Kind) (count method m : ℕ) (first : List ℤ) (xs ys : List ℕ) (p q : ℕ) → length first ≡ method + 1 → read (number 3) xs p ≡ Ok (m, ys, q) →
    read (behind_first K count method first) xs p ≡ read (later_rest K (K.weights method) m count first) ys q
m_then K count method m first xs ys p q long e =
    read-then (number 3) (behind_m K count method first) xs ys p q m e
    ∙ ap (λ n. read (later_fields K (K.weights method) m (count - n) (reverse first) >>= (λ later. gives (first ++ later))) ys q) (sym long)

-- a table's length, and the bit behind it
abbrev behind_length : Kind → ℕ → Fields (List ℤ)
behind_length K longer = if is_alone K (longer + 1) then gives (K.greatest ∷ []) else body_fields K (longer + 1)

pub length_stops : (K : Kind) (xs : List ℕ) (p : ℕ) (t : FrameFault) → read (number K.length_bits) xs p ≡ Err t → read (table_fields K) xs p ≡ Err t
unfolding table_fields
length_stops K xs p t e = read-stops (number K.length_bits) (behind_length K) xs p t e

pub length_alone : (K : Kind) (longer : ℕ) (xs ys : List ℕ) (p q : ℕ) → read (number K.length_bits) xs p ≡ Ok (longer, ys, q) → is_alone K (longer + 1) ≡ true →
    read (table_fields K) xs p ≡ Ok (K.greatest ∷ [], ys, q)
unfolding table_fields
length_alone K longer xs ys p q e alone =
    read-then (number K.length_bits) (behind_length K) xs ys p q longer e
    ∙ ap (λ b. read (if b then gives (K.greatest ∷ []) else body_fields K (longer + 1)) ys q) alone
    ∙ read-gives (K.greatest ∷ []) ys q

pub length_then : (K : Kind) (longer : ℕ) (xs ys : List ℕ) (p q : ℕ) → read (number K.length_bits) xs p ≡ Ok (longer, ys, q) → is_alone K (longer + 1) ≡ false →
    read (table_fields K) xs p ≡ read (body_fields K (longer + 1)) ys q
unfolding table_fields
length_then K longer xs ys p q e alone =
    read-then (number K.length_bits) (behind_length K) xs ys p q longer e
    ∙ ap (λ b. read (if b then gives (K.greatest ∷ []) else body_fields K (longer + 1)) ys q) alone

abbrev behind_bit : Kind → ℕ → ℕ → Fields (List ℤ)
behind_bit K count x = if x == 0 then times count (plain_fields K) else coded_fields K count

pub bit_stops : (K : Kind) (count : ℕ) (xs : List ℕ) (p : ℕ) (t : FrameFault) → read (number 1) xs p ≡ Err t → read (body_fields K count) xs p ≡ Err t
bit_stops K count xs p t e = read-stops (number 1) (behind_bit K count) xs p t e

pub bit_0_then : (K : Kind) (count x : ℕ) (xs ys : List ℕ) (p q : ℕ) → read (number 1) xs p ≡ Ok (x, ys, q) → x ≡ 0 →
    read (body_fields K count) xs p ≡ read (times count (plain_fields K)) ys q
bit_0_then K count x xs ys p q e zero_is =
    read-then (number 1) (behind_bit K count) xs ys p q x e ∙ ap (λ y. read (behind_bit K count y) ys q) zero_is

pub bit_1_then : (K : Kind) (count x : ℕ) (xs ys : List ℕ) (p q : ℕ) → read (number 1) xs p ≡ Ok (x, ys, q) → x ≢ 0 →
    read (body_fields K count) xs p ≡ read (coded_fields K count) ys q
bit_1_then K count x xs ys p q e some =
    read-then (number 1) (behind_bit K count) xs ys p q x e
    ∙ ap (λ b. read (if b then times count (plain_fields K) else coded_fields K count) ys q) (ne_eqb x 0 some)
