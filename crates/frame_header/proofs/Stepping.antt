-- Steps through the fields of a frame.
use Rattle.std.proofs.Common.{◌≡◌, ℕ, ◌+◌, ◌<◌, ◌≤◌, nat_lt, Bool, true, false, List, length, drop, refl, ap, sym, subst, ◌∙◌, arith, length-drop}
use Rattle.std.proofs.Common.{Option, Some, None, Result, Ok, Err, IsErrAnd, IfErr, IfNone, IsSome, le-ltb, lt-ltb}
use Rattle.dst_spec.specs.Bits.{bits, number_from, AreBits}
use Rattle.dst_spec.specs.Fields.{Fields, gives, field, residual, code, ◌>>=◌, number, read, residual_length, residual_value}
use Rattle.dst_spec.specs.declared.faults.FrameFault.{FrameFault}
use Rattle.dst_spec.specs.declared.faults.Reason.{Reason}
use Rattle.dst_spec.specs.declared.faults.Reason.TheVariants.{Truncated}
use Rattle.dst_spec.proofs.Reading.{onward, read-bind, field_met}
use Rattle.dst_spec.proofs.Taking.{was_met}
use Rattle.dst_spec.proofs.Numbers.{AreBits-bits}
use Rattle.bit_io.specs.Reading.{Reading, left, HasRead, IsAtFault}
use Rattle.dst_spec.proofs.Lists.{AreBits-drop}

-- a part that gave something is followed by what stands behind it
pub onto : {A B : Type 0} (m : Fields A) (f : A → Fields B) (old new : Reading) (x : A) → HasRead m old x new →
    read (m >>= f) (left old) old.place ≡ read (f x) (left new) new.place
onto m f old new x h = read-bind m f (left old) old.place ∙ ap (onward f) h

-- what a part failed at is what the whole fails at
pub failed_within : {A B : Type 0} (m : Fields A) (f : A → Fields B) (old : Reading) (fault : FrameFault) → IsAtFault m old fault →
    IsAtFault (m >>= f) old fault
failed_within m f old fault h = read-bind m f (left old) old.place ∙ ap (onward f) h

-- a fault that is handed on
pub handed_on : {A : Type 0} (r : Result A FrameFault) (fault : FrameFault) (P : FrameFault → Type 0) → IsErrAnd r (λ e. e ≡ fault) → P fault → IfErr r P
handed_on (Ok x) fault P h p = tt
handed_on (Err e) fault P h p = subst P (sym h) p

-- ---- a field without a rule
pub number_gave : (n : ℕ) (old new : Reading) (v : ℕ) → n ≤ length (left old) → v ≡ number_from (left old) 0 n → left new ≡ drop n (left old) →
    new.place ≡ old.place + n →
    HasRead (number n) old v new
unfolding read
number_gave n old new v enough is rest place =
    let xs = left old in
    let all : Result (ℕ × List ℕ × ℕ) FrameFault = Ok (number_from xs 0 n, drop n xs, old.place + n) in
    let same : all ≡ Ok (v, left new, new.place) = rw (is, rest, place) refl in
    field_met (nat_lt (length xs) n) None (record { reason = Truncated; bit = old.place }) old.place all (le-ltb (length xs) n enough) refl ∙ same

not_there : {A : Type 0} (b : Bool) (t : FrameFault) (r : Result A FrameFault) → b ≡ true →
    ◌≡◌ {A = Result A FrameFault} (elim b [ true ↦ Err t | false ↦ r ]) (Err t)
not_there true t r e = refl
not_there false t r e = absurd cc

pub number_cut : (n : ℕ) (old : Reading) → length (left old) < n → IsAtFault (number n) old (record { reason = Truncated; bit = old.place })
unfolding read
number_cut n old short =
    let xs = left old in
    let all : Result (ℕ × List ℕ × ℕ) FrameFault = Ok (number_from xs 0 n, drop n xs, old.place + n) in
    not_there (nat_lt (length xs) n) (record { reason = Truncated; bit = old.place }) all (lt-ltb (length xs) n short)

-- ---- a field with a rule
given_one : (a b : ℕ × List ℕ × ℕ) → ◌≡◌ {A = Result (ℕ × List ℕ × ℕ) FrameFault} (Ok a) (Ok b) → a ≡ b
given_one a b e = cc

pub rule_met : (n : ℕ) (rule : ℕ → Option Reason) (old new : Reading) (v : ℕ) → HasRead (number n) old v new → rule v ≡ None →
    HasRead (field n rule gives) old v new
unfolding read
rule_met n rule old new v h keeps =
    let xs = left old in
    let t : FrameFault = record { reason = Truncated; bit = old.place } in
    let all : Result (ℕ × List ℕ × ℕ) FrameFault = Ok (number_from xs 0 n, drop n xs, old.place + n) in
    let k = was_met (nat_lt (length xs) n) None t old.place all (v, left new, new.place) h in
    let same : ◌≡◌ {A = ℕ × List ℕ × ℕ} (number_from xs 0 n, drop n xs, old.place + n) (v, left new, new.place) = given_one _ _ k.2 in
    let is : number_from xs 0 n ≡ v = ap (λ q. q.0) same in
    field_met (nat_lt (length xs) n) (rule (number_from xs 0 n)) t old.place all k.0 (ap rule is ∙ keeps) ∙ k.2

is_broken : {A : Type 0} (b : Bool) (o : Option Reason) (reason : Reason) (t : FrameFault) (place : ℕ) (r : Result (A × List ℕ × ℕ) FrameFault) →
    b ≡ false → o ≡ Some reason →
    ◌≡◌ {A = Result (A × List ℕ × ℕ) FrameFault} (elim b [ true ↦ Err t | false ↦ elim o [ Some x ↦ Err (record { reason = x; bit = place }) | None ↦ r ] ])
    (Err (record { reason = reason; bit = place }))
is_broken true o reason t place r e f = absurd cc
is_broken false None reason t place r e f = absurd cc
is_broken false (Some x) reason t place r e f = let same : x ≡ reason = cc in ap (λ y. Err (record { reason = y; bit = place })) same

pub rule_broken : (n : ℕ) (rule : ℕ → Option Reason) (old new : Reading) (v : ℕ) (reason : Reason) → HasRead (number n) old v new → rule v ≡ Some reason →
    IsAtFault (field n rule gives) old (record { reason = reason; bit = old.place })
unfolding read
rule_broken n rule old new v reason h breaks =
    let xs = left old in
    let t : FrameFault = record { reason = Truncated; bit = old.place } in
    let all : Result (ℕ × List ℕ × ℕ) FrameFault = Ok (number_from xs 0 n, drop n xs, old.place + n) in
    let k = was_met (nat_lt (length xs) n) None t old.place all (v, left new, new.place) h in
    let same : ◌≡◌ {A = ℕ × List ℕ × ℕ} (number_from xs 0 n, drop n xs, old.place + n) (v, left new, new.place) = given_one _ _ k.2 in
    let is : number_from xs 0 n ≡ v = ap (λ q. q.0) same in
    is_broken (nat_lt (length xs) n) (rule (number_from xs 0 n)) reason t old.place all k.0 (ap rule is ∙ breaks)

is_cut : {A : Type 0} (b : Bool) (o : Option Reason) (t fault : FrameFault) (place : ℕ) (q : A × List ℕ × ℕ) (r : Result (A × List ℕ × ℕ) FrameFault) →
    ◌≡◌ {A = Result (A × List ℕ × ℕ) FrameFault} (elim b [ true ↦ Err t | false ↦ Ok q ]) (Err fault) →
    ◌≡◌ {A = Result (A × List ℕ × ℕ) FrameFault} (elim b [ true ↦ Err t | false ↦ elim o [ Some x ↦ Err (record { reason = x; bit = place }) | None ↦ r ] ])
    (Err fault)
is_cut true o t fault place q r e = e
is_cut false o t fault place q r e = absurd cc

pub field_cut : (n : ℕ) (rule : ℕ → Option Reason) (old : Reading) (fault : FrameFault) → IsAtFault (number n) old fault →
    IsAtFault (field n rule gives) old fault
unfolding read
field_cut n rule old fault h =
    let xs = left old in
    let all : ℕ × List ℕ × ℕ = (number_from xs 0 n, drop n xs, old.place + n) in
    is_cut (nat_lt (length xs) n) (rule (number_from xs 0 n)) (record { reason = Truncated; bit = old.place }) fault old.place all (Ok all) h

-- ---- no part gives bits back
pub shorter : {A : Type 0} (m : Fields A) (xs : List ℕ) (place : ℕ) (r : A × List ℕ × ℕ) → read m xs place ≡ Ok r → length r.1 ≤ length xs
unfolding read
shorter (gives x) xs place r e = let same : (x, xs, place) ≡ r = cc in subst (λ q. length q.1 ≤ length xs) same (omega arith)
shorter (field n rule next) xs place r e =
    let v = number_from xs 0 n in
    let k = was_met (nat_lt (length xs) n) (rule v) (record { reason = Truncated; bit = place }) place (read (next v) (drop n xs) (place + n)) r e in
    let rest = shorter (next v) (drop n xs) (place + n) r k.2 in
    omega (arith, rest, length-drop n xs)
shorter (residual m rule next) xs place r e =
    let n = residual_length m xs in
    let v = residual_value m xs in
    let k = was_met (nat_lt (length xs) n) (rule v) (record { reason = Truncated; bit = place }) place (read (next v) (drop n xs) (place + n)) r e in
    let rest = shorter (next v) (drop n xs) (place + n) r k.2 in
    omega (arith, rest, length-drop n xs)
shorter (code n rule next) xs place r e =
    let v = number_from xs 0 n in
    let k = was_met false (rule v) (record { reason = Truncated; bit = place }) place (read (next v) (drop n xs) (place + n)) r e in
    let rest = shorter (next v) (drop n xs) (place + n) r k.2 in
    omega (arith, rest, length-drop n xs)

-- ---- the bits that are left
pub are_bits_left : (r : Reading) → AreBits (left r)
are_bits_left r = AreBits-drop r.place (bits r.bytes) (AreBits-bits r.bytes)

-- what isn't None is there
pub there_unless : {A : Type 0} (o : Option A) (P : Type 0) → IfNone o (P → ⊥) → P → IsSome o
there_unless (Some x) P h p = refl
there_unless None P h p = absurd (h p)
