-- How reading goes on behind a part that was read.
use Rattle.std.proofs.Common.{◌≡◌, ℕ, suc, ◌+◌, ◌-◌, ◌<◌, ◌≤◌, List, [], ◌∷◌, ◌++◌, length, reverse, refl, ap, sym, ◌∙◌, arith, append_assoc}
use Rattle.std.proofs.Common.{append-nil, length-append, drop, ℤ, ◌-ℤ◌, Some, None, Result, Ok, Err}
use Rattle.std.proofs.lemmas.List.{reverse-append}
use Rattle.dst_spec.specs.Table.{Kind, eighth}
use Rattle.dst_spec.specs.Fields.{Fields, gives, ◌>>=◌, read, residual_length, residual_value}
use Rattle.dst_spec.specs.Offends.{times, plain_fields, range_rule, later_fields}
use Rattle.dst_spec.specs.declared.faults.FrameFault.{FrameFault}
use Rattle.dst_spec.specs.declared.faults.Reason.{Reason}
use Rattle.dst_spec.specs.declared.faults.Reason.TheVariants.{Truncated}
use Rattle.dst_spec.proofs.Reading.{onward, read-bind}
use Rattle.table_code.proofs.FieldSteps.{residual_passed, residual_cut, residual_broken}
use Rattle.table_code.specs.Parts.{later_field, plain_rest, later_rest}
use Rattle.dst_spec.proofs.Meaning.{read-gives}

pub read-then : {A B : Type 0} (m : Fields A) (f : A → Fields B) (xs ys : List ℕ) (p q : ℕ) (x : A) → read m xs p ≡ Ok (x, ys, q) →
    read (m >>= f) xs p ≡ read (f x) ys q
read-then m f xs ys p q x e = read-bind m f xs p ∙ ap (onward f) e

pub read-stops : {A B : Type 0} (m : Fields A) (f : A → Fields B) (xs : List ℕ) (p : ℕ) (t : FrameFault) → read m xs p ≡ Err t → read (m >>= f) xs p ≡ Err t
read-stops m f xs p t e = read-bind m f xs p ∙ ap (onward f) e

-- values in front of values
fronted : (r : Result (List ℤ × List ℕ × ℕ) FrameFault) (front : List ℤ) (v : ℤ) →
    onward (λ vs. gives (front ++ vs)) (onward (λ vs. gives (v ∷ vs)) r) ≡ onward (λ vs. gives ((front ++ v ∷ []) ++ vs)) r
unfolding read
fronted (Ok r) front v = ap (λ vs. Ok (vs, r.1, r.2)) (sym (append_assoc front (v ∷ []) r.0))
fronted (Err t) front v = refl

regrouped : (m : Fields (List ℤ)) (front : List ℤ) (v : ℤ) (xs : List ℕ) (p : ℕ) →
    read (m >>= (λ vs. gives (v ∷ vs)) >>= (λ vs. gives (front ++ vs))) xs p ≡ read (m >>= (λ vs. gives ((front ++ v ∷ []) ++ vs))) xs p
regrouped m front v xs p =
    read-bind (m >>= (λ vs. gives (v ∷ vs))) (λ vs. gives (front ++ vs)) xs p
    ∙ ap (onward (λ vs. gives (front ++ vs))) (read-bind m (λ vs. gives (v ∷ vs)) xs p)
    ∙ fronted (read m xs p) front v
    ∙ sym (read-bind m (λ vs. gives ((front ++ v ∷ []) ++ vs)) xs p)

left_over : (count : ℕ) (front : List ℤ) (v : ℤ) → length front < count → count - length front ≡ suc (count - length (front ++ v ∷ []))
left_over count front v h = omega (arith, length-append front (v ∷ []))

-- a value plain
pub plain_next : (K : Kind) (count : ℕ) (front : List ℤ) (v : ℤ) (xs ys : List ℕ) (p q : ℕ) → length front < count →
    read (plain_fields K) xs p ≡ Ok (v, ys, q) →
    read (plain_rest K count front) xs p ≡ read (plain_rest K count (front ++ v ∷ [])) ys q
unfolding times
plain_next K count front v xs ys p q h e =
    let n = count - length (front ++ v ∷ []) in
    let rest : ℤ → Fields (List ℤ) = λ w. times n (plain_fields K) >>= (λ vs. gives (w ∷ vs)) >>= (λ vs. gives (front ++ vs)) in
    ap (λ k. read (times k (plain_fields K) >>= (λ vs. gives (front ++ vs))) xs p) (left_over count front v h)
    ∙ read-then (plain_fields K) rest xs ys p q v e
    ∙ regrouped (times n (plain_fields K)) front v ys q

pub plain_stops : (K : Kind) (count : ℕ) (front : List ℤ) (xs : List ℕ) (p : ℕ) (t : FrameFault) → length front < count → read (plain_fields K) xs p ≡ Err t →
    read (plain_rest K count front) xs p ≡ Err t
unfolding times
plain_stops K count front xs p t h e =
    let n = count - length front - 1 in
    let more : count - length front ≡ suc n = omega arith in
    let rest : ℤ → Fields (List ℤ) = λ w. times n (plain_fields K) >>= (λ vs. gives (w ∷ vs)) >>= (λ vs. gives (front ++ vs)) in
    ap (λ k. read (times k (plain_fields K) >>= (λ vs. gives (front ++ vs))) xs p) more
    ∙ read-stops (plain_fields K) rest xs p t e

pub plain_ends : (K : Kind) (count : ℕ) (front : List ℤ) (xs : List ℕ) (p : ℕ) → length front ≡ count → read (plain_rest K count front) xs p ≡ Ok (front, xs, p)
unfolding times read
plain_ends K count front xs p e =
    let none : count - length front ≡ 0 = omega arith in
    ap (λ k. read (times k (plain_fields K) >>= (λ vs. gives (front ++ vs))) xs p) none ∙ ap (λ vs. Ok (vs, xs, p)) (append-nil front)

same_again : (r : Result (List ℤ × List ℕ × ℕ) FrameFault) → onward (λ vs. gives ([] ++ vs)) r ≡ r
unfolding read
same_again (Ok r) = refl
same_again (Err t) = refl

pub plain_begins : (K : Kind) (count : ℕ) (xs : List ℕ) (p : ℕ) → read (plain_rest K count []) xs p ≡ read (times count (plain_fields K)) xs p
plain_begins K count xs p =
    let none : count - 0 ≡ count = omega arith in
    ap (λ k. read (times k (plain_fields K) >>= (λ vs. gives ([] ++ vs))) xs p) none
    ∙ read-bind (times count (plain_fields K)) (λ vs. gives ([] ++ vs)) xs p ∙ same_again (read (times count (plain_fields K)) xs p)

-- a value by its residual
pub later_next : (K : Kind) (weights : List ℤ) (m count : ℕ) (front : List ℤ) (v : ℤ) (xs ys : List ℕ) (p q : ℕ) → length front < count →
    read (later_field K weights m (reverse front)) xs p ≡ Ok (v, ys, q) →
    read (later_rest K weights m count front) xs p ≡ read (later_rest K weights m count (front ++ v ∷ [])) ys q
unfolding later_fields
later_next K weights m count front v xs ys p q h e =
    let n = count - length (front ++ v ∷ []) in
    let earlier : v ∷ reverse front ≡ reverse (front ++ v ∷ []) = sym (reverse-append front (v ∷ [])) in
    let rest : ℤ → Fields (List ℤ) = λ w. later_fields K weights m n (w ∷ reverse front) >>= (λ vs. gives (w ∷ vs)) >>= (λ vs. gives (front ++ vs)) in
    ap (λ k. read (later_fields K weights m k (reverse front) >>= (λ vs. gives (front ++ vs))) xs p) (left_over count front v h)
    ∙ read-then (later_field K weights m (reverse front)) rest xs ys p q v e
    ∙ regrouped (later_fields K weights m n (v ∷ reverse front)) front v ys q
    ∙ ap (λ es. read (later_fields K weights m n es >>= (λ vs. gives ((front ++ v ∷ []) ++ vs))) ys q) earlier

pub later_stops : (K : Kind) (weights : List ℤ) (m count : ℕ) (front : List ℤ) (xs : List ℕ) (p : ℕ) (t : FrameFault) → length front < count →
    read (later_field K weights m (reverse front)) xs p ≡ Err t →
    read (later_rest K weights m count front) xs p ≡ Err t
unfolding later_fields
later_stops K weights m count front xs p t h e =
    let n = count - length front - 1 in
    let more : count - length front ≡ suc n = omega arith in
    let rest : ℤ → Fields (List ℤ) = λ w. later_fields K weights m n (w ∷ reverse front) >>= (λ vs. gives (w ∷ vs)) >>= (λ vs. gives (front ++ vs)) in
    ap (λ k. read (later_fields K weights m k (reverse front) >>= (λ vs. gives (front ++ vs))) xs p) more
    ∙ read-stops (later_field K weights m (reverse front)) rest xs p t e

pub later_ends : (K : Kind) (weights : List ℤ) (m count : ℕ) (front : List ℤ) (xs : List ℕ) (p : ℕ) → length front ≡ count →
    read (later_rest K weights m count front) xs p ≡ Ok (front, xs, p)
unfolding later_fields read
later_ends K weights m count front xs p e =
    let none : count - length front ≡ 0 = omega arith in
    ap (λ k. read (later_fields K weights m k (reverse front) >>= (λ vs. gives (front ++ vs))) xs p) none ∙ ap (λ vs. Ok (vs, xs, p)) (append-nil front)

-- a value by its residual: given, cut short, or out of range
pub later_given : (K : Kind) (weights : List ℤ) (m : ℕ) (earlier : List ℤ) (xs : List ℕ) (p : ℕ) (r v : ℤ) → residual_length m xs ≤ length xs →
    r ≡ residual_value m xs → v ≡ r -ℤ eighth weights earlier → range_rule K v ≡ None →
    read (later_field K weights m earlier) xs p ≡ Ok (v, drop (residual_length m xs) xs, p + residual_length m xs)
later_given K weights m earlier xs p r v enough value is keeps =
    residual_passed m (λ s. range_rule K (s -ℤ eighth weights earlier)) (λ s. gives (s -ℤ eighth weights earlier)) xs p r enough value
    (ap (range_rule K) (sym is) ∙ keeps)
    ∙ read-gives (r -ℤ eighth weights earlier) (drop (residual_length m xs) xs) (p + residual_length m xs)
    ∙ ap (λ s. Ok (s, drop (residual_length m xs) xs, p + residual_length m xs)) (sym is)

pub later_cut : (K : Kind) (weights : List ℤ) (m : ℕ) (earlier : List ℤ) (xs : List ℕ) (p : ℕ) → length xs < residual_length m xs →
    read (later_field K weights m earlier) xs p ≡ Err (record { reason = Truncated; bit = p })
later_cut K weights m earlier xs p short = residual_cut m (λ s. range_rule K (s -ℤ eighth weights earlier))
    (λ s. gives (s -ℤ eighth weights earlier)) xs p short

pub later_refused : (K : Kind) (weights : List ℤ) (m : ℕ) (earlier : List ℤ) (xs : List ℕ) (p : ℕ) (r v : ℤ) (reason : Reason) →
    residual_length m xs ≤ length xs → r ≡ residual_value m xs → v ≡ r -ℤ eighth weights earlier → range_rule K v ≡ Some reason →
    read (later_field K weights m earlier) xs p ≡ Err (record { reason = reason; bit = p })
later_refused K weights m earlier xs p r v reason enough value is breaks =
    residual_broken m (λ s. range_rule K (s -ℤ eighth weights earlier)) (λ s. gives (s -ℤ eighth weights earlier)) xs p r reason enough value
    (ap (range_rule K) (sym is) ∙ breaks)
