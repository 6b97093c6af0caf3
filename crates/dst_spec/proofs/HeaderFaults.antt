-- A header is never refused for what its code is refused for.
use Rattle.std.proofs.Common.{◌≡◌, ℕ, zero, suc, ◌+◌, ◌-◌, ◌==◌, nat_lt, ℤ, ◌-ℤ◌, ◌||◌, Bool, true, false, if◌then◌else◌, List, [], ◌∷◌, length}
use Rattle.std.proofs.Common.{reverse, replicate, drop, max, subst, Option, Some, None, Result, Err}
use Rattle.std.specs.Prelude.{⊤, int_lt}
use Rattle.dst_spec.specs.Bits.{number_from}
use Rattle.dst_spec.specs.Table.{Kind, filter_kind, prob_kind, is_alone, eighth}
use Rattle.dst_spec.specs.Map.{element_count}
use Rattle.dst_spec.specs.Fields.{Fields, gives, field, residual, code, ◌>>=◌, number, read, residual_length, residual_value}
use Rattle.dst_spec.specs.Offends.{times, end_rule, segment_fields, map_number_fields, map_fields, both_segments, both_maps, plain_fields}
use Rattle.dst_spec.specs.Offends.{later_fields, coded_fields, body_fields, table_fields, header_fields}
use Rattle.dst_spec.specs.declared.faults.FrameFault.{FrameFault}
use Rattle.dst_spec.specs.declared.faults.Reason.{Reason}
use Rattle.dst_spec.specs.declared.faults.Reason.TheVariants.{Truncated, PlainStuffing, MultiSegment, MapSkips, MethodReserved, TableTooShort}
use Rattle.dst_spec.specs.declared.faults.Reason.TheVariants.{CoefRange, ProbRange, FirstCodeBit, CodeRange}

abbrev pub IsHeaderReason : Reason → Type 0
IsHeaderReason Truncated = ⊤
IsHeaderReason PlainStuffing = ⊤
IsHeaderReason MultiSegment = ⊤
IsHeaderReason MapSkips = ⊤
IsHeaderReason MethodReserved = ⊤
IsHeaderReason TableTooShort = ⊤
IsHeaderReason CoefRange = ⊤
IsHeaderReason ProbRange = ⊤
IsHeaderReason FirstCodeBit = ⊥
IsHeaderReason CodeRange = ⊥

abbrev pub IsHeaderRule : Option Reason → Type 0
IsHeaderRule None = ⊤
IsHeaderRule (Some reason) = IsHeaderReason reason

-- fields that are refused for such reasons alone
abbrev pub AreHeaderFields : {A : Type 0} → Fields A → Type 0
AreHeaderFields (gives x) = ⊤
AreHeaderFields (field n rule next) = ((v : ℕ) → IsHeaderRule (rule v)) × ((v : ℕ) → AreHeaderFields (next v))
AreHeaderFields (residual m rule next) = ((v : ℤ) → IsHeaderRule (rule v)) × ((v : ℤ) → AreHeaderFields (next v))
AreHeaderFields (code n rule next) = ⊥

onto : {A B : Type 0} (m : Fields A) (f : A → Fields B) → AreHeaderFields m → ((x : A) → AreHeaderFields (f x)) → AreHeaderFields (m >>= f)
onto (gives x) f h k = k x
onto (field n rule next) f h k = (h.0, λ v. onto (next v) f (h.1 v) k)
onto (residual m rule next) f h k = (h.0, λ v. onto (next v) f (h.1 v) k)
onto (code n rule next) f h k = absurd h

many : {A : Type 0} (n : ℕ) (part : Fields A) → AreHeaderFields part → AreHeaderFields (times n part)
unfolding times
many zero part h = tt
many (suc n) part h = onto part _ h (λ x. onto (times n part) _ (many n part h) (λ xs. tt))

either : {A : Type 0} (b : Bool) (m k : Fields A) → AreHeaderFields m → AreHeaderFields k → AreHeaderFields (if b then m else k)
either true m k h j = h
either false m k h j = j

rule_if : (b : Bool) (o p : Option Reason) → IsHeaderRule o → IsHeaderRule p → IsHeaderRule (if b then o else p)
rule_if true o p h j = h
rule_if false o p h j = j

segments : (channels : ℕ) → AreHeaderFields (segment_fields channels)
unfolding segment_fields
segments channels = (
  (λ v. tt),
  (λ same. many (if same == 1 then 1 else channels) (field 1 end_rule gives)
      ((λ v. rule_if (v == 0) (Some MultiSegment) None tt tt), (λ v. tt))),
)

two_segments : (channels : ℕ) → AreHeaderFields (both_segments channels)
unfolding both_segments
two_segments channels = (
  (λ v. tt),
  (λ same. onto (segment_fields channels) _ (segments channels)
      (λ s. either (same == 1) (gives s) (segment_fields channels) tt (segments channels))),
)

numbers : (n count : ℕ) → AreHeaderFields (map_number_fields n count)
unfolding map_number_fields
numbers zero count = tt
numbers (suc n) count = (
  (λ v. rule_if (nat_lt count v) (Some MapSkips) None tt tt),
  (λ e. onto (map_number_fields n (max count (e + 1))) _ (numbers n (max count (e + 1))) (λ es. tt)),
)

one_map : (channels : ℕ) → AreHeaderFields (map_fields channels)
unfolding map_fields
one_map channels = (
  (λ v. tt),
  (λ same. either (same == 1) (gives (replicate channels 0)) _ tt
      (onto (map_number_fields (channels - 1) 1) _ (numbers (channels - 1) 1) (λ es. tt))),
)

two_maps : (channels : ℕ) → AreHeaderFields (both_maps channels)
unfolding both_maps
two_maps channels = (
  (λ v. tt),
  (λ same. onto (map_fields channels) _ (one_map channels)
      (λ m. onto (if same == 1 then gives m else map_fields channels) _ (either (same == 1) (gives m) (map_fields channels) tt (one_map channels))
      (λ n. tt))),
)

later : (K : Kind) (weights : List ℤ) (m n : ℕ) (earlier : List ℤ) → AreHeaderFields (later_fields K weights m n earlier)
unfolding later_fields
later K weights m zero earlier = tt
later K weights m (suc n) earlier = (
  (λ r. rule_if (int_lt (r -ℤ eighth weights earlier) K.least || int_lt K.greatest (r -ℤ eighth weights earlier))
      (Some (if K.lone then ProbRange else CoefRange)) None (which K.lone) tt),
  (λ r. onto (later_fields K weights m n ((r -ℤ eighth weights earlier) ∷ earlier)) _ (later K weights m n ((r -ℤ eighth weights earlier) ∷ earlier))
      (λ vs. tt)),
)
  where
    which : (b : Bool) → IsHeaderReason (if b then ProbRange else CoefRange)
    which true = tt
    which false = tt

plain_ones : (K : Kind) (n : ℕ) → AreHeaderFields (times n (plain_fields K))
plain_ones K n = many n (plain_fields K) ((λ v. tt), (λ v. tt))

body : (K : Kind) (count : ℕ) → AreHeaderFields (body_fields K count)
body K count = (
  (λ v. tt),
  (λ is_coded. either (is_coded == 0) (times count (plain_fields K)) (coded_fields K count) (plain_ones K count) (
    (λ method. rule_if (method == 3) (Some MethodReserved) _ tt (rule_if (nat_lt count (method + 1)) (Some TableTooShort) None tt tt)),
    (λ method. onto (times (method + 1) (plain_fields K)) _ (plain_ones K (method + 1)) (λ first. (
      (λ v. tt),
      (λ m. onto (later_fields K (K.weights method) m (count - (method + 1)) (reverse first)) _
          (later K (K.weights method) m (count - (method + 1)) (reverse first)) (λ vs. tt)),
    ))),
  )),
)

table : (K : Kind) → AreHeaderFields (table_fields K)
unfolding table_fields
table K = ((λ v. tt), (λ longer. either (is_alone K (longer + 1)) (gives (K.greatest ∷ [])) (body_fields K (longer + 1)) tt (body K (longer + 1))))

pub header : (channels : ℕ) → AreHeaderFields (header_fields channels)
unfolding header_fields
header channels =
    onto (both_segments channels) _ (two_segments channels) (λ s.
    onto (both_maps channels) _ (two_maps channels) (λ maps.
    onto (times channels (number 1)) _ (many channels (number 1) ((λ v. tt), (λ v. tt))) (λ half_prob.
    onto (times (element_count maps.0) (table_fields filter_kind)) _ (many (element_count maps.0) (table_fields filter_kind) (table filter_kind)) (λ filters.
    onto (times (element_count maps.1) (table_fields prob_kind)) _ (many (element_count maps.1) (table_fields prob_kind) (table prob_kind)) (λ probs. tt)))))

-- ---- what is read of them
same_fault : {A : Type 0} (a b : FrameFault) → IsHeaderReason a.reason → ◌≡◌ {A = Result (A × List ℕ × ℕ) FrameFault} (Err a) (Err b) → IsHeaderReason b.reason
same_fault a b h e = let is : a ≡ b = cc in subst (λ (f : FrameFault). IsHeaderReason f.reason) is h

read_step : {A : Type 0} (b : Bool) (o : Option Reason) (place : ℕ) (q : Result (A × List ℕ × ℕ) FrameFault) (fault : FrameFault) → IsHeaderRule o →
    (q ≡ Err fault → IsHeaderReason fault.reason) →
    ◌≡◌ {A = Result (A × List ℕ × ℕ) FrameFault}
    (elim b [
      | true ↦ Err (record { reason = Truncated; bit = place })
      | false ↦ elim o [
        | Some reason ↦ Err
            (record { reason = reason; bit = place })
        | None ↦ q
      ]
    ]) (Err fault) → IsHeaderReason fault.reason
read_step true o place q fault h more e = same_fault (record { reason = Truncated; bit = place }) fault tt e
read_step false (Some reason) place q fault h more e = same_fault (record { reason = reason; bit = place }) fault h e
read_step false None place q fault h more e = more e

pub read_fault : {A : Type 0} (m : Fields A) (xs : List ℕ) (place : ℕ) (fault : FrameFault) → AreHeaderFields m → read m xs place ≡ Err fault →
    IsHeaderReason fault.reason
unfolding read
read_fault (gives x) xs place fault h e = absurd cc
read_fault (field n rule next) xs place fault h e =
    let v = number_from xs 0 n in
    read_step (nat_lt (length xs) n) (rule v) place (read (next v) (drop n xs) (place + n)) fault (h.0 v)
    (λ k. read_fault (next v) (drop n xs) (place + n) fault (h.1 v) k) e
read_fault (residual m rule next) xs place fault h e =
    let n = residual_length m xs in
    let v = residual_value m xs in
    read_step (nat_lt (length xs) n) (rule v) place (read (next v) (drop n xs) (place + n)) fault (h.0 v)
    (λ k. read_fault (next v) (drop n xs) (place + n) fault (h.1 v) k) e
read_fault (code n rule next) xs place fault h e = absurd h
