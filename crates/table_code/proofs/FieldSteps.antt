-- A field that is there and keeps its rule, one that is cut short, and one that breaks its rule.
use Rattle.std.proofs.Common.{◌≡◌, ℕ, ◌+◌, ◌<◌, ◌≤◌, nat_lt, Bool, true, false, List, length, drop, refl, ap, sym, ◌∙◌, ℤ, Option, Some, None, Result}
use Rattle.std.proofs.Common.{Ok, Err, le-ltb, lt-ltb, ne_eqb}
use Rattle.dst_spec.specs.Offends.{method_rule}
use Rattle.dst_spec.specs.Bits.{number_from}
use Rattle.dst_spec.specs.Fields.{Fields, gives, field, residual, any, number, read, residual_length, residual_value}
use Rattle.dst_spec.specs.declared.faults.FrameFault.{FrameFault}
use Rattle.dst_spec.specs.declared.faults.Reason.{Reason}
use Rattle.dst_spec.specs.declared.faults.Reason.TheVariants.{Truncated, MethodReserved, TableTooShort}
use Rattle.dst_spec.proofs.Reading.{field_met}
use Rattle.dst_spec.proofs.Taking.{was_met}

was_cut : {A : Type 0} (b : Bool) (o : Option Reason) (t : FrameFault) (place : ℕ) (r : Result (A × List ℕ × ℕ) FrameFault) → b ≡ true →
    ◌≡◌ {A = Result (A × List ℕ × ℕ) FrameFault} (elim b [
      | true ↦ Err t
      | false ↦ elim o [
        | Some reason ↦ Err
            (record { reason = reason; bit = place })
        | None ↦ r
      ]
    ]) (Err t)
was_cut true o t place r e = refl
was_cut false o t place r e = absurd cc

was_broken : {A : Type 0} (b : Bool) (o : Option Reason) (t : FrameFault) (place : ℕ) (r : Result (A × List ℕ × ℕ) FrameFault) (reason : Reason) →
    b ≡ false → o ≡ Some reason →
    ◌≡◌ {A = Result (A × List ℕ × ℕ) FrameFault} (elim b [
      | true ↦ Err t
      | false ↦ elim o [
        | Some reason ↦ Err
            (record { reason = reason; bit = place })
        | None ↦ r
      ]
    ]) (Err (record { reason = reason; bit = place }))
was_broken true o t place r reason e f = absurd cc
was_broken false (Some x) t place r reason e f =
    let same : x ≡ reason = cc in
    ap (λ y. Err (record { reason = y; bit = place })) same
was_broken false None t place r reason e f = absurd cc

pub field_passed : {A : Type 0} (n : ℕ) (rule : ℕ → Option Reason) (next : ℕ → Fields A) (xs : List ℕ) (p x : ℕ) → n ≤ length xs → x ≡ number_from xs 0 n →
    rule x ≡ None →
    read (field n rule next) xs p ≡ read (next x) (drop n xs) (p + n)
unfolding read
field_passed n rule next xs p x enough value keeps =
    let v = number_from xs 0 n in
    field_met (nat_lt (length xs) n) (rule v) (record { reason = Truncated; bit = p }) p (read (next v) (drop n xs) (p + n)) (le-ltb (length xs) n enough)
    (ap rule (sym value) ∙ keeps)
    ∙ ap (λ y. read (next y) (drop n xs) (p + n)) (sym value)

pub field_cut : {A : Type 0} (n : ℕ) (rule : ℕ → Option Reason) (next : ℕ → Fields A) (xs : List ℕ) (p : ℕ) → length xs < n →
    read (field n rule next) xs p ≡ Err (record { reason = Truncated; bit = p })
unfolding read
field_cut n rule next xs p short =
    let v = number_from xs 0 n in
    was_cut (nat_lt (length xs) n) (rule v) (record { reason = Truncated; bit = p }) p (read (next v) (drop n xs) (p + n)) (lt-ltb (length xs) n short)

pub field_broken : {A : Type 0} (n : ℕ) (rule : ℕ → Option Reason) (next : ℕ → Fields A) (xs : List ℕ) (p x : ℕ) (reason : Reason) → n ≤ length xs →
    x ≡ number_from xs 0 n → rule x ≡ Some reason →
    read (field n rule next) xs p ≡ Err (record { reason = reason; bit = p })
unfolding read
field_broken n rule next xs p x reason enough value breaks =
    let v = number_from xs 0 n in
    was_broken (nat_lt (length xs) n) (rule v) (record { reason = Truncated; bit = p }) p (read (next v) (drop n xs) (p + n)) reason
    (le-ltb (length xs) n enough) (ap rule (sym value) ∙ breaks)

pub residual_passed : {A : Type 0} (m : ℕ) (rule : ℤ → Option Reason) (next : ℤ → Fields A) (xs : List ℕ) (p : ℕ) (x : ℤ) →
    residual_length m xs ≤ length xs → x ≡ residual_value m xs → rule x ≡ None →
    read (residual m rule next) xs p ≡ read (next x) (drop (residual_length m xs) xs) (p + residual_length m xs)
unfolding read
residual_passed m rule next xs p x enough value keeps =
    let n = residual_length m xs in
    let v = residual_value m xs in
    field_met (nat_lt (length xs) n) (rule v) (record { reason = Truncated; bit = p }) p (read (next v) (drop n xs) (p + n)) (le-ltb (length xs) n enough)
    (ap rule (sym value) ∙ keeps)
    ∙ ap (λ y. read (next y) (drop n xs) (p + n)) (sym value)

pub residual_cut : {A : Type 0} (m : ℕ) (rule : ℤ → Option Reason) (next : ℤ → Fields A) (xs : List ℕ) (p : ℕ) → length xs < residual_length m xs →
    read (residual m rule next) xs p ≡ Err (record { reason = Truncated; bit = p })
unfolding read
residual_cut m rule next xs p short =
    let n = residual_length m xs in
    let v = residual_value m xs in
    was_cut (nat_lt (length xs) n) (rule v) (record { reason = Truncated; bit = p }) p (read (next v) (drop n xs) (p + n)) (lt-ltb (length xs) n short)

pub residual_broken : {A : Type 0} (m : ℕ) (rule : ℤ → Option Reason) (next : ℤ → Fields A) (xs : List ℕ) (p : ℕ) (x : ℤ) (reason : Reason) →
    residual_length m xs ≤ length xs → x ≡ residual_value m xs → rule x ≡ Some reason →
    read (residual m rule next) xs p ≡ Err (record { reason = reason; bit = p })
unfolding read
residual_broken m rule next xs p x reason enough value breaks =
    let n = residual_length m xs in
    let v = residual_value m xs in
    was_broken (nat_lt (length xs) n) (rule v) (record { reason = Truncated; bit = p }) p (read (next v) (drop n xs) (p + n)) reason
    (le-ltb (length xs) n enough) (ap rule (sym value) ∙ breaks)

-- a number that was read, by a rule of its own
pub number_gives : (n : ℕ) (xs : List ℕ) (p x : ℕ) → n ≤ length xs → x ≡ number_from xs 0 n → read (number n) xs p ≡ Ok (x, drop n xs, p + n)
unfolding read
number_gives n xs p x enough value = field_passed n any gives xs p x enough value refl

pub as_field : {A : Type 0} (n : ℕ) (rule : ℕ → Option Reason) (next : ℕ → Fields A) (xs ys : List ℕ) (p q x : ℕ) → read (number n) xs p ≡ Ok (x, ys, q) →
    rule x ≡ None →
    read (field n rule next) xs p ≡ read (next x) ys q
unfolding read
as_field n rule next xs ys p q x e keeps =
    let v = number_from xs 0 n in
    let k = was_met (nat_lt (length xs) n) None (record { reason = Truncated; bit = p }) p (Ok (v, drop n xs, p + n)) (x, ys, q) e in
    let same : ◌≡◌ {A = ℕ × List ℕ × ℕ} (v, drop n xs, p + n) (x, ys, q) = cc (k.2) in
    field_met (nat_lt (length xs) n) (rule v) (record { reason = Truncated; bit = p }) p (read (next v) (drop n xs) (p + n)) k.0 (ap (λ r. rule r.0) same
    ∙ keeps)
    ∙ ap (λ (r : ℕ × List ℕ × ℕ). read (next r.0) r.1 r.2) same

pub as_broken_field : {A : Type 0} (n : ℕ) (rule : ℕ → Option Reason) (next : ℕ → Fields A) (xs ys : List ℕ) (p q x : ℕ) (reason : Reason) →
    read (number n) xs p ≡ Ok (x, ys, q) → rule x ≡ Some reason →
    read (field n rule next) xs p ≡ Err (record { reason = reason; bit = p })
unfolding read
as_broken_field n rule next xs ys p q x reason e breaks =
    let v = number_from xs 0 n in
    let k = was_met (nat_lt (length xs) n) None (record { reason = Truncated; bit = p }) p (Ok (v, drop n xs, p + n)) (x, ys, q) e in
    let same : ◌≡◌ {A = ℕ × List ℕ × ℕ} (v, drop n xs, p + n) (x, ys, q) = cc (k.2) in
    was_broken (nat_lt (length xs) n) (rule v) (record { reason = Truncated; bit = p }) p (read (next v) (drop n xs) (p + n)) reason k.0
    (ap (λ r. rule r.0) same ∙ breaks)

pub as_cut_field : {A : Type 0} (n : ℕ) (rule : ℕ → Option Reason) (next : ℕ → Fields A) (xs : List ℕ) (p : ℕ) (t : FrameFault) →
    read (number n) xs p ≡ Err t → read (field n rule next) xs p ≡ Err t
unfolding read
as_cut_field {A} n rule next xs p t e = go (nat_lt (length xs) n) e
  where
    go : (b : Bool) → ◌≡◌ {A = Result (ℕ × List ℕ × ℕ) FrameFault}
        (elim b [ true ↦ Err (record { reason = Truncated; bit = p }) | false ↦ Ok (number_from xs 0 n, drop n xs, p + n) ]) (Err t) →
        ◌≡◌ {A = Result (A × List ℕ × ℕ) FrameFault}
        (elim b [
          | true ↦ Err (record { reason = Truncated; bit = p })
          | false ↦ elim
              (rule (number_from xs 0 n)) [
                | Some reason ↦ Err (record { reason = reason; bit = p })
                | None ↦ read (next (number_from xs 0 n)) (drop n xs)
                    (p + n)
              ]
        ]) (Err t)
    go true f =
        let same : ◌≡◌ {A = FrameFault} (record { reason = Truncated; bit = p }) t = cc in
        ap Err same
    go false f = absurd cc

-- the rule on a method
pub method_keeps : (count method : ℕ) → (method ≡ 3 → ⊥) → method + 1 ≤ count → method_rule count method ≡ None
method_keeps count method h k = rw (ne_eqb method 3 h, le-ltb count (method + 1) k) refl

pub method_reserved : (count method : ℕ) → method ≡ 3 → method_rule count method ≡ Some MethodReserved
method_reserved count method e = rw e refl

pub method_short : (count method : ℕ) → (method ≡ 3 → ⊥) → count < method + 1 → method_rule count method ≡ Some TableTooShort
method_short count method h k = rw (ne_eqb method 3 h, lt-ltb count (method + 1) k) refl
