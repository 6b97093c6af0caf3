-- A symbol in a lane of sixteen bits, and symbols one after the other.
use Rattle.std.proofs.Common.{◌≡◌, ℕ, ◌+◌, ◌-◌, ◌*◌, ◌/◌, ◌%◌, ◌^◌, ◌<◌, ◌≤◌, Bool, true, false, nat_lt, ◌==◌, if◌then◌else◌, List, [], ◌∷◌, length, get_or}
use Rattle.std.proofs.Common.{take, refl, ap, subst, ◌∙◌, arith, lt-ltb, le-ltb, length-take-le}
use Rattle.std.proofs.Common.{bit_and, sym}
use Rattle.std.specs.Int.Bits.{or_add_and}
use Rattle.std.proofs.lemmas.Bool.{eqb-true, eqb-false, ne_eqb}
use mir.Val.{bool_byte}
use Rattle.std.proofs.lemmas.List.{take_more, get_or_default}
use Rattle.std.proofs.lemmas.Nat.{mul-le, and_mask}
use Rattle.dst_spec.specs.Interval.{Interval, scale, narrowed, interval_from}
use Rattle.dst_spec.proofs.Intervals.{scale-below, interval_from-append}
use Rattle.arith_core.specs.Range.{IsRange}
use Rattle.arith_core.proofs.Masks.{high_least}
use Rattle.arith_core.proofs.Shifts.{shift_of, is_shift}
use Rattle.arith_encoder.specs.declared.scaling.Scaling.{Scaling}
use Rattle.arith_encoder.specs.Lanes.{IsStep, AreSteps, Narrows, TakesStep, Leaves}
use Rattle.arith_encoder.proofs.Narrowing.{IsNarrowed, narrow_is}

doubled_is : (m more : ℕ) → m < 4096 → (e : Bool) → more ≡ (if e then m else 0) → (m + more) % 65536 ≡ m + (if e then m else 0)
doubled_is m more lt true is = omega arith
doubled_is m more lt false is = omega arith

narrows-of : (range p : ℕ) (symbol : Bool) (start after d after_is d_is : ℕ) → after_is ≡ after → d_is ≡ d → IsNarrowed range p symbol start after d →
    Narrows range symbol p after_is d_is
narrows-of range p symbol start after d after_is d_is e g n = rw (e, g) (record {
  in_range = n.in_range;
  few = n.few;
  alike = λ i is. (ap (λ j. j.range) (n.narrowed_is i is), ap (λ j. j.doublings) (n.narrowed_is i is));
})

-- The scale is what lies above eight bits, and one more where this is even and the bit below is 1.
scale_sum : (range : ℕ) (e : Bool) → (range / 128 % 4 == 1) ≡ e → scale range ≡ range / 256 + bool_byte e
scale_sum range e is = go (range / 128 % 2 == 1) refl e is
  where
    sum : scale range + bit_and (range / 256) (range / 128 % 2) ≡ range / 256 + range / 128 % 2
    sum = or_add_and (range / 256) (range / 128 % 2)

    go : (odd : Bool) → (range / 128 % 2 == 1) ≡ odd → (e : Bool) → (range / 128 % 4 == 1) ≡ e → scale range ≡ range / 256 + bool_byte e
    go false low e is =
        let other = eqb-false (range / 128 % 2) 1 low in
        let zero : range / 128 % 2 ≡ 0 = omega arith in
        let none : bit_and (range / 256) (range / 128 % 2) ≡ 0 = ap (bit_and (range / 256)) zero ∙ and_mask (range / 256) 0 ∙ omega arith in
        let even : (range / 128 % 4 == 1) ≡ false = ne_eqb (range / 128 % 4) 1 (λ h. omega arith) in
        rw (sym is ∙ even) (omega (arith, sum))
    go true low true is =
        let one = eqb-true (range / 128 % 2) 1 low in
        let first = eqb-true (range / 128 % 4) 1 is in
        let none : bit_and (range / 256) (range / 128 % 2) ≡ 0 = ap (bit_and (range / 256)) one ∙ and_mask (range / 256) 1 ∙ omega arith in
        omega (arith, sum)
    go true low false is =
        let one = eqb-true (range / 128 % 2) 1 low in
        let other = eqb-false (range / 128 % 4) 1 is in
        let both : bit_and (range / 256) (range / 128 % 2) ≡ 1 = ap (bit_and (range / 256)) one ∙ and_mask (range / 256) 1 ∙ omega arith in
        omega (arith, sum)

-- a part by the scale's two summands, of a symbol 0 and of a symbol 1
part_of_0 : (high size product rounded part : ℕ) (e : Bool) → (high + bool_byte e) * size < 65536 → product ≡ high * size % 65536 →
    rounded ≡ (if e then size else 0) → part ≡ (product + (0 + rounded) % 65536) % 65536 → part ≡ (high + bool_byte e) * size
part_of_0 high size product rounded part true most product_is rounded_is part_is = omega arith
part_of_0 high size product rounded part false most product_is rounded_is part_is = omega arith

part_of_1 : (range high p signed product rounded part : ℕ) (e : Bool) → 1 ≤ p → p ≤ 128 → range ≤ 4095 → (high + bool_byte e) * p ≤ range →
    signed ≡ (0 + (65536 - p)) % 65536 → product ≡ high * signed % 65536 → rounded ≡ (if e then signed else 0) →
    part ≡ (product + (range + rounded) % 65536) % 65536 → part ≡ range - (high + bool_byte e) * p
part_of_1 range high p signed product rounded part e least few most within signed_is product_is rounded_is part_is =
    let whole : signed + p ≡ 65536 = omega arith in
    let all : high * (signed + p) ≡ high * 65536 = ap (λ n. high * n) whole in
    go e within rounded_is all
  where
    go : (e : Bool) → (high + bool_byte e) * p ≤ range → rounded ≡ (if e then signed else 0) → high * (signed + p) ≡ high * 65536 →
        part ≡ range - (high + bool_byte e) * p
    go true within rounded_is all = omega arith
    go false within rounded_is all = omega arith

pub lane_is : (symbol : Bool) (p range step signed before rounded part more after d : ℕ) → IsStep symbol p step → IsRange range →
    signed ≡ (if nat_lt step 32768 then step % 256 else (0 + (65536 - step % 256)) % 65536) →
    before ≡ (if nat_lt step 32768 then 0 else range) → rounded ≡ (if range / 128 % 4 == 1 then signed else 0) →
    part ≡ (range / 256 * signed % 65536 + (before + rounded) % 65536) % 65536 → more ≡ (if nat_lt part 2048 then part else 0) →
    after ≡ (part + more) % 65536 →
    d ≡ step / 256 % 8 + bool_byte (nat_lt part 2048) → Narrows range symbol p after d
lane_is true p range step signed before rounded part more after d is r signed_is before_is rounded_is part_is more_is after_is d_is =
    let step_is = is.2 in
    let few = is.1 in
    let low : step % 256 ≡ p = omega arith in
    let high : step / 256 % 8 ≡ 0 = omega arith in
    let above : 32768 ≤ step = omega arith in
    let most = r.most in
    let odd = range / 128 % 4 == 1 in
    let sum = scale_sum range odd refl in
    let small : (range / 256 + bool_byte odd) * p + 1024 ≤ range = rw (sym sum) (high_least range p r.least is.1) in
    let signed_of : signed ≡ (0 + (65536 - p)) % 65536 = signed_is
    ∙ ap (λ b. if b then step % 256 else (0 + (65536 - step % 256)) % 65536) (le-ltb step 32768 above) ∙ ap (λ n. (0 + (65536 - n)) % 65536) low in
    let before_of : before ≡ range = before_is ∙ ap (λ b. if b then 0 else range) (le-ltb step 32768 above) in
    let part_of : part ≡ range - scale range * p =
    part_of_1 range (range / 256) p signed (range / 256 * signed % 65536) rounded part odd is.0 few most (omega arith) signed_of refl rounded_is
    (part_is ∙ ap (λ n. (range / 256 * signed % 65536 + (n + rounded) % 65536) % 65536) before_of) ∙ ap (λ s. range - s * p) (sym sum) in
    let e : Scaling = record { scaled = p * 2 ^ shift_of p; shift = shift_of p } in
    let n = narrow_is range p true e (scale range) part 0 0 r is.0 is.1 (record { scaled = refl; shifted = is_shift p is.0 is.1 }) refl part_of refl refl in
    let within : part < 4096 = omega arith in
    narrows-of range p true 0 (part + (if nat_lt part 2048 then part else 0)) (0 + bool_byte (nat_lt part 2048)) after d
    (after_is ∙ doubled_is part more within (nat_lt part 2048) more_is) (omega arith) n
lane_is false p range step signed before rounded part more after d is r signed_is before_is rounded_is part_is more_is after_is d_is =
    let shift = is.2.0 in
    let shifted = is.2.1 in
    let step_is = is.2.2 in
    let scaled = p * 2 ^ shift in
    let few = shifted.few in
    let whole = shifted.most in
    let low : step % 256 ≡ scaled = omega arith in
    let high : step / 256 % 8 ≡ shift = omega arith in
    let below : step < 32768 = omega arith in
    let odd = range / 128 % 4 == 1 in
    let sum = scale_sum range odd refl in
    let fifteen : scale range < 16 = scale-below range r.most in
    let bounded = mul-le (scale range) scaled 15 255 (omega arith) (omega arith) in
    let signed_of : signed ≡ scaled = signed_is
    ∙ ap (λ b. if b then step % 256 else (0 + (65536 - step % 256)) % 65536) (lt-ltb step 32768 below) ∙ low in
    let before_of : before ≡ 0 = before_is ∙ ap (λ b. if b then 0 else range) (lt-ltb step 32768 below) in
    let small : (range / 256 + bool_byte odd) * scaled < 65536 = rw (sym sum) (omega arith) in
    let part_of : part ≡ scale range * scaled =
    part_of_0 (range / 256) scaled (range / 256 * scaled % 65536) rounded part odd small refl (rounded_is ∙ ap (λ n. if odd then n else 0) signed_of)
    (part_is ∙ ap (λ n. (range / 256 * signed % 65536 + (n + rounded) % 65536) % 65536) before_of
    ∙ ap (λ n. (range / 256 * n % 65536 + (0 + rounded) % 65536) % 65536) signed_of) ∙ ap (λ s. s * scaled) (sym sum) in
    let e : Scaling = record { scaled = scaled; shift = shift } in
    let start = range - scale range * p in
    let n = narrow_is range p false e (scale range) part start shift r is.0 is.1 (record { scaled = refl; shifted = shifted }) refl part_of refl refl in
    let within : part < 4096 = omega arith in
    narrows-of range p false start (part + (if nat_lt part 2048 then part else 0)) (shift + bool_byte (nat_lt part 2048)) after d
    (after_is ∙ doubled_is part more within (nat_lt part 2048) more_is) (omega arith) n

-- ---- one symbol after the other
pub none-taken : (before : ℕ) → IsRange before → Leaves before [] before 0
unfolding interval_from
none-taken before r = record { in_range = r; few = omega arith; alike = λ i is. (is, omega arith) }

pub step-of : (lane : ℕ) (steps : List (List ℕ)) (pairs : List (Bool × ℕ)) (k : ℕ) (d : List ℕ) → AreSteps lane steps pairs → k < length steps →
    IsStep (get_or pairs k (false, 0)).0 (get_or pairs k (false, 0)).1 (get_or (get_or steps k d) lane 0)
step-of lane steps pairs k d h lt = subst (λ s. IsStep (get_or pairs k (false, 0)).0 (get_or pairs k (false, 0)).1 (get_or s lane 0))
    (get_or_default steps k [] d lt) (h.each k lt)

one-more : (j : Interval) (e : Bool) (p : ℕ) → interval_from j ((e, p) ∷ []) ≡ narrowed j (e, p)
unfolding interval_from
one-more j e p = refl

pub leaves-more : (before : ℕ) (lane : ℕ) (steps : List (List ℕ)) (pairs : List (Bool × ℕ)) (k now count after count_after : ℕ) →
    AreSteps lane steps pairs → k < length steps → length steps ≤ 8000 →
    Leaves before (take k pairs) now count →
    (IsRange now → TakesStep now count (get_or pairs k (false, 0)).0 (get_or pairs k (false, 0)).1 after count_after) →
    Leaves before (take (k + 1) pairs) after count_after
leaves-more before lane steps pairs k now count after count_after h lt most old next =
    let t = next old.in_range in
    let e = (get_or pairs k (false, 0)).0 in
    let p = (get_or pairs k (false, 0)).1 in
    let long = h.long in
    let front = length-take-le k pairs (omega arith) in
    let more = length-take-le (k + 1) pairs (omega arith) in
    let few = old.few in
    let eight = t.narrows.few in
    let counted : count_after ≡ count + t.doublings = t.counted ∙ omega arith in
    record {
      in_range = t.narrows.in_range;
      few = omega arith;
      alike = λ i is.
          let a = old.alike i is in
          let j = interval_from i (take k pairs) in
          let n = t.narrows.alike j a.0 in
          let whole = ap (interval_from i) (take_more pairs k (false, 0) (omega arith))
          ∙ interval_from-append i (take k pairs) (get_or pairs k (false, 0) ∷ []) ∙ one-more j e p in
          (ap (λ x. x.range) whole ∙ n.0, ap (λ x. x.doublings) whole ∙ omega (arith, n.1, a.1, counted));
    }
