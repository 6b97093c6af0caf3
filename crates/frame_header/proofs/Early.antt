-- In front of the code no reason is one of the code's.
use Rattle.std.proofs.Common.{◌≡◌, ℕ, zero, suc, ◌+◌, ◌-◌, ◌≤◌, ◌==◌, ◌||◌, max, nat_lt, Bool, true, false, cond, if◌then◌else◌, List, [], ◌∷◌, ◌++◌}
use Rattle.std.proofs.Common.{length, drop, replicate, reverse, subst, arith, ℤ, ◌-ℤ◌, Option, Some, None, Result, Err}
use Rattle.std.specs.Prelude.{int_lt}
use Rattle.dst_spec.specs.Bits.{number_from}
use Rattle.dst_spec.specs.Sample.{Shape}
use Rattle.dst_spec.specs.Table.{Kind, filter_kind, prob_kind, is_alone, eighth}
use Rattle.dst_spec.specs.Map.{element_count}
use Rattle.dst_spec.specs.Reasons.{reason_number}
use Rattle.dst_spec.specs.Fields.{Fields, gives, field, residual, code, ◌>>=◌, number, read, residual_length, residual_value}
use Rattle.dst_spec.specs.Offends.{times, end_rule, segment_fields, map_number_fields, map_fields, both_segments, both_maps, plain_fields, range_rule}
use Rattle.dst_spec.specs.Offends.{later_fields, coded_fields, body_fields, table_fields, header_fields, plain_frame_fields}
use Rattle.dst_spec.specs.declared.faults.FrameFault.{FrameFault}
use Rattle.dst_spec.specs.declared.faults.Reason.{Reason}
use Rattle.dst_spec.specs.declared.faults.Reason.TheVariants.{Truncated, PlainStuffing, MultiSegment, MapSkips, MethodReserved, TableTooShort}
use Rattle.dst_spec.specs.declared.faults.Reason.TheVariants.{CoefRange, ProbRange}

abbrev IsEarlyReason : Option Reason → Type 0
IsEarlyReason None = Unit {0}
IsEarlyReason (Some reason) = reason_number reason ≤ 8

-- each rule of the fields refuses for one of the reasons 1 to 8
abbrev pub IsEarly : {A : Type 0} → Fields A → Type 0
IsEarly (gives x) = Unit {0}
IsEarly (field n rule next) = ((v : ℕ) → IsEarlyReason (rule v)) × ((v : ℕ) → IsEarly (next v))
IsEarly (residual m rule next) = ((v : ℤ) → IsEarlyReason (rule v)) × ((v : ℤ) → IsEarly (next v))
IsEarly (code n rule next) = ⊥

IsEarly-bind : {A B : Type 0} (m : Fields A) (f : A → Fields B) → IsEarly m → ((x : A) → IsEarly (f x)) → IsEarly (m >>= f)
IsEarly-bind (gives x) f h k = k x
IsEarly-bind (field n rule next) f h k = (h.0, λ v. IsEarly-bind (next v) f (h.1 v) k)
IsEarly-bind (residual m rule next) f h k = (h.0, λ v. IsEarly-bind (next v) f (h.1 v) k)
IsEarly-bind (code n rule next) f h k = absurd h

tested : {A : Type 0} (b : Bool) (o : Option Reason) (place : ℕ) (r : Result (A × List ℕ × ℕ) FrameFault) (fault : FrameFault) → IsEarlyReason o →
    (r ≡ Err fault → reason_number fault.reason ≤ 8) →
    ◌≡◌ {A = Result (A × List ℕ × ℕ) FrameFault} (elim b [
      | true ↦ Err
          (record { reason = Truncated; bit = place })
      | false ↦ elim o [ Some reason ↦ Err (record { reason = reason; bit = place }) | None ↦ r ]
    ])
    (Err fault) →
    reason_number fault.reason ≤ 8
tested true o place r fault h k e =
    let same : ◌≡◌ {A = FrameFault} (record { reason = Truncated; bit = place }) fault = cc in
    let P : FrameFault → Type 0 = λ f. reason_number f.reason ≤ 8 in
    subst P same (omega arith)
tested false (Some reason) place r fault h k e =
    let same : ◌≡◌ {A = FrameFault} (record { reason = reason; bit = place }) fault = cc in
    let P : FrameFault → Type 0 = λ f. reason_number f.reason ≤ 8 in
    subst P same h
tested false None place r fault h k e = k e

pub early_reason : {A : Type 0} (m : Fields A) (xs : List ℕ) (place : ℕ) (fault : FrameFault) → IsEarly m → read m xs place ≡ Err fault →
    reason_number fault.reason ≤ 8
unfolding read
early_reason (gives x) xs place fault h e = absurd cc
early_reason (field n rule next) xs place fault h e =
    let v = number_from xs 0 n in
    tested (nat_lt (length xs) n) (rule v) place (read (next v) (drop n xs) (place + n)) fault (h.0 v)
    (early_reason (next v) (drop n xs) (place + n) fault (h.1 v)) e
early_reason (residual m rule next) xs place fault h e =
    let n = residual_length m xs in
    let v = residual_value m xs in
    tested (nat_lt (length xs) n) (rule v) place (read (next v) (drop n xs) (place + n)) fault (h.0 v)
    (early_reason (next v) (drop n xs) (place + n) fault (h.1 v)) e
early_reason (code n rule next) xs place fault h e = absurd h

-- ---- part by part
pub early_number : (n : ℕ) → IsEarly (number n)
early_number n = (λ v. tt, λ v. tt)

early_choice : (b : Bool) (o p : Option Reason) → IsEarlyReason o → IsEarlyReason p → IsEarlyReason (cond b o p)
early_choice true o p h k = h
early_choice false o p h k = k

either : {A : Type 0} (b : Bool) (m n : Fields A) → IsEarly m → IsEarly n → IsEarly (cond b m n)
either true m n h k = h
either false m n h k = k

early_times : {A : Type 0} (n : ℕ) (m : Fields A) → IsEarly m → IsEarly (times n m)
unfolding times
early_times zero m h = tt
early_times (suc n) m h = IsEarly-bind m (λ x. times n m >>= (λ xs. gives (x ∷ xs))) h
    (λ x. IsEarly-bind (times n m) (λ xs. gives (x ∷ xs)) (early_times n m h) (λ xs. tt))

early_end : IsEarly (field 1 end_rule gives)
early_end = (λ v. early_choice (v == 0) (Some MultiSegment) None (omega arith) tt, λ v. tt)

early_segments : (channels : ℕ) → IsEarly (segment_fields channels)
unfolding segment_fields
early_segments channels = (λ v. tt, λ same. early_times (if same == 1 then 1 else channels) (field 1 end_rule gives) early_end)

early_both_segments : (channels : ℕ) → IsEarly (both_segments channels)
unfolding both_segments
early_both_segments channels = (
  λ v. tt,
  λ same. IsEarly-bind (segment_fields channels) (λ s. if same == 1 then gives s else segment_fields channels) (early_segments channels)
      (λ s. either (same == 1) (gives s) (segment_fields channels) tt (early_segments channels)),
)

early_numbers : (n count : ℕ) → IsEarly (map_number_fields n count)
unfolding map_number_fields
early_numbers zero count = tt
early_numbers (suc n) count = (
  λ e. early_choice (nat_lt count e) (Some MapSkips) None (omega arith) tt,
  λ e. IsEarly-bind (map_number_fields n (max count (e + 1))) (λ es. gives (e ∷ es)) (early_numbers n (max count (e + 1))) (λ es. tt),
)

early_map : (channels : ℕ) → IsEarly (map_fields channels)
unfolding map_fields
early_map channels = (
  λ v. tt,
  λ same. either (same == 1) (gives (replicate channels 0)) (map_number_fields (channels - 1) 1 >>= (λ es. gives (0 ∷ es))) tt
      (IsEarly-bind (map_number_fields (channels - 1) 1) (λ es. gives (0 ∷ es)) (early_numbers (channels - 1) 1) (λ es. tt)),
)

early_both_maps : (channels : ℕ) → IsEarly (both_maps channels)
unfolding both_maps
early_both_maps channels = (
  λ v. tt,
  λ same. IsEarly-bind (map_fields channels) (λ m. (if same == 1 then gives m else map_fields channels) >>= (λ k. gives (m, k))) (early_map channels)
      (λ m. IsEarly-bind (if same == 1 then gives m else map_fields channels) (λ k. gives (m, k))
      (either (same == 1) (gives m) (map_fields channels) tt (early_map channels)) (λ k. tt)),
)

early_plain : (K : Kind) → IsEarly (plain_fields K)
early_plain K = (λ v. tt, λ v. tt)

early_range : (K : Kind) (v : ℤ) → IsEarlyReason (range_rule K v)
early_range K v = early_choice (int_lt v K.least || int_lt K.greatest v) (Some (if K.lone then ProbRange else CoefRange)) None (which K.lone) tt
  where
    which : (b : Bool) → reason_number (cond b ProbRange CoefRange) ≤ 8
    which true = omega arith
    which false = omega arith

early_later : (K : Kind) (weights : List ℤ) (m n : ℕ) (earlier : List ℤ) → IsEarly (later_fields K weights m n earlier)
unfolding later_fields
early_later K weights m zero earlier = tt
early_later K weights m (suc n) earlier = (
  λ r. early_range K (r -ℤ eighth weights earlier),
  λ r. IsEarly-bind (later_fields K weights m n ((r -ℤ eighth weights earlier) ∷ earlier)) (λ vs. gives ((r -ℤ eighth weights earlier) ∷ vs))
      (early_later K weights m n ((r -ℤ eighth weights earlier) ∷ earlier)) (λ vs. tt),
)

early_coded : (K : Kind) (count : ℕ) → IsEarly (coded_fields K count)
early_coded K count = (
  λ method. early_choice (method == 3) (Some MethodReserved) (if nat_lt count (method + 1) then Some TableTooShort else None) (omega arith)
      (early_choice (nat_lt count (method + 1)) (Some TableTooShort) None (omega arith) tt),
  λ method. IsEarly-bind (times (method + 1) (plain_fields K))
      (λ first. number 3 >>= (λ m. later_fields K (K.weights method) m (count - (method + 1)) (reverse first) >>= (λ later. gives (first ++ later))))
      (early_times (method + 1) (plain_fields K) (early_plain K))
      (λ first. (
        λ v. tt,
        λ m. IsEarly-bind (later_fields K (K.weights method) m (count - (method + 1)) (reverse first)) (λ later. gives (first ++ later))
            (early_later K (K.weights method) m (count - (method + 1)) (reverse first)) (λ later. tt),
      )),
)

early_body : (K : Kind) (count : ℕ) → IsEarly (body_fields K count)
early_body K count = (
  λ v. tt,
  λ is_coded. either (is_coded == 0) (times count (plain_fields K)) (coded_fields K count)
      (early_times count (plain_fields K) (early_plain K)) (early_coded K count),
)

early_table : (K : Kind) → IsEarly (table_fields K)
unfolding table_fields
early_table K = (λ v. tt, λ longer. either (is_alone K (longer + 1)) (gives (K.greatest ∷ [])) (body_fields K (longer + 1)) tt (early_body K (longer + 1)))

pub early_header : (channels : ℕ) → IsEarly (header_fields channels)
unfolding header_fields
early_header channels =
    IsEarly-bind (both_segments channels) _ (early_both_segments channels) (λ s.
    IsEarly-bind (both_maps channels) _ (early_both_maps channels) (λ maps.
    IsEarly-bind (times channels (number 1)) _ (early_times channels (number 1) (early_number 1)) (λ half_prob.
    IsEarly-bind (times (element_count maps.0) (table_fields filter_kind)) _
    (early_times (element_count maps.0) (table_fields filter_kind) (early_table filter_kind)) (λ filters.
    IsEarly-bind (times (element_count maps.1) (table_fields prob_kind)) _
    (early_times (element_count maps.1) (table_fields prob_kind) (early_table prob_kind)) (λ probs. tt)))))

pub early_plain_frame : (f : Shape) → IsEarly (plain_frame_fields f)
unfolding plain_frame_fields
early_plain_frame f = (λ v. tt, λ reserved. (λ v. early_choice (v == 0) None (Some PlainStuffing) tt (omega arith), λ stuffing. (λ v. tt, λ sound. tt)))
