-- Where a frame is refused for its code, its header stands whole in front of it.
use Rattle.std.proofs.Common.{◌≡◌, ℕ, zero, suc, ◌+◌, ◌<◌, ◌≤◌, ◌==◌, nat_lt, if◌then◌else◌, Bool, true, false, List, [], ◌∷◌, ◌++◌, length, take}
use Rattle.std.proofs.Common.{drop, refl, ap, sym, subst, ◌∙◌, arith, length-append, take_at, Option, Some, None, Result, Ok, Err, ltb-false}
use Rattle.dst_spec.specs.Bits.{bits, number_from, AreBits}
use Rattle.dst_spec.specs.Sample.{Shape, IsShape}
use Rattle.dst_spec.specs.Header.{Params, HasHeader}
use Rattle.dst_spec.specs.Fields.{Fields, gives, field, code, ◌>>=◌, any, read}
use Rattle.dst_spec.specs.Offends.{first_bit_rule, range_of_code_rule, header_fields, plain_frame_fields, coded_frame_fields, frame_fields, Offends}
use Rattle.dst_spec.specs.declared.faults.FrameFault.{FrameFault}
use Rattle.dst_spec.specs.declared.faults.Reason.TheVariants.{Truncated, PlainStuffing}
use Rattle.dst_spec.proofs.Numbers.{AreBits-bits, number_from-below}
use Rattle.dst_spec.proofs.Meaning.{first_number}
use Rattle.dst_spec.proofs.Reading.{onward, read-bind}
use Rattle.dst_spec.proofs.Taking.{Took}
use Rattle.dst_spec.proofs.Found.{Takes-header}
use Rattle.dst_spec.proofs.HeaderFaults.{IsHeaderReason, IsHeaderRule, AreHeaderFields, read_fault, header}
use Rattle.dst_spec.proofs.Lists.{same_err}

-- a field without a rule is cut short, or the fault is behind it
behind_any : {A : Type 0} (n : ℕ) (next : ℕ → Fields A) (xs : List ℕ) (place : ℕ) (fault : FrameFault) → (IsHeaderReason fault.reason → ⊥) →
    read (field n any next) xs place ≡ Err fault →
    (n ≤ length xs) × (read (next (number_from xs 0 n)) (drop n xs) (place + n) ≡ Err fault)
unfolding read
behind_any {A} n next xs place fault other e = go (nat_lt (length xs) n) refl e
  where
    go : (b : Bool) → nat_lt (length xs) n ≡ b →
        ◌≡◌ {A = Result (A × List ℕ × ℕ) FrameFault} (elim b [
          | true ↦ Err (record { reason = Truncated; bit = place })
          | false ↦ read
              (next (number_from xs 0 n)) (drop n xs) (place + n)
        ]) (Err fault) →
        (n ≤ length xs) × (read (next (number_from xs 0 n)) (drop n xs) (place + n) ≡ Err fault)
    go true is h = absurd (other (subst (λ (f : FrameFault). IsHeaderReason f.reason) (same_err (record { reason = Truncated; bit = place }) fault h) tt))
    go false is h = (ltb-false (length xs) n is, h)

plain_fields_are : (f : Shape) → AreHeaderFields (plain_frame_fields f)
unfolding plain_frame_fields
plain_fields_are f = ((λ v. tt), (λ reserved. ((λ v. rule (v == 0)), (λ stuffing. ((λ v. tt), (λ sound. tt))))))
  where
    rule : (b : Bool) → IsHeaderRule (if b then None else Some PlainStuffing)
    rule true = tt
    rule false = tt

header_took : (n : ℕ) → 1 ≤ n → (ys : List ℕ) (place : ℕ) (q : Params × List ℕ × ℕ) → AreBits ys → read (header_fields n) ys place ≡ Ok q →
    Took (λ w P. HasHeader n P (1 ∷ w)) ys place q
header_took zero h = absurd (omega arith)
header_took (suc n) h = Takes-header n

abbrev HeaderInFront : Shape → List ℕ → Type 0
HeaderInFront f xs = (P : Params) × (place : ℕ) × (place ≤ length xs) × HasHeader f.channels P (take place xs)

-- the bits behind the first
coded_front : (f : Shape) (xs ys : List ℕ) (fault : FrameFault) → IsShape f → AreBits ys → xs ≡ 1 ∷ ys → (IsHeaderReason fault.reason → ⊥) →
    read (coded_frame_fields f) ys 1 ≡ Err fault → HeaderInFront f xs
unfolding coded_frame_fields
coded_front f xs ys fault shape bits_behind from_one other e =
    let parts : Params → Fields (Option Params) = λ P. code 1 first_bit_rule gives >>=
    (λ first. code 12 range_of_code_rule gives >>= (λ twelve. gives (Some P))) in
    go (read (header_fields f.channels) ys 1) refl (sym (read-bind (header_fields f.channels) parts ys 1) ∙ e)
  where
    go : (q : Result (Params × List ℕ × ℕ) FrameFault) → read (header_fields f.channels) ys 1 ≡ q →
        onward (λ P. code 1 first_bit_rule gives >>= (λ first. code 12 range_of_code_rule gives >>= (λ twelve. gives (Some P)))) q ≡ Err fault →
        HeaderInFront f xs
    go (Err t) is h =
        let same = same_err t fault h in
        absurd (other (read_fault (header_fields f.channels) ys 1 fault (header f.channels) (is ∙ ap Err same)))
    go (Ok q) is h =
        let t = header_took f.channels shape.least ys 1 q bits_behind is in
        let w = t.bits in
        let split : xs ≡ (1 ∷ w) ++ q.1 = from_one ∙ ap (λ l. 1 ∷ l) t.whole in
        let front : take (length (1 ∷ w)) xs ≡ 1 ∷ w = ap (take (length (1 ∷ w))) split ∙ take_at (1 ∷ w) q.1 (length (1 ∷ w)) refl in
        (q.0, length (1 ∷ w), omega (arith, ap length split, length-append (1 ∷ w) q.1), subst (HasHeader f.channels q.0) (sym front) t.related)

cons_is : (xs : List ℕ) → 1 ≤ length xs → number_from xs 0 1 ≡ 1 → xs ≡ 1 ∷ drop 1 xs
cons_is [] h one = absurd (omega arith)
cons_is (x ∷ xs) h one = ap (λ b. b ∷ xs) (sym (first_number (x ∷ xs)) ∙ one)

pub header_in_front : (f : Shape) (frame : List ℕ) (fault : FrameFault) → IsShape f → Offends f frame fault → (IsHeaderReason fault.reason → ⊥) →
    HeaderInFront f (bits frame)
unfolding frame_fields
header_in_front f frame fault shape offends other =
    let xs = bits frame in
    let next : ℕ → Fields (Option Params) = λ coded. if coded == 0 then plain_frame_fields f else coded_frame_fields f in
    let k = behind_any 1 next xs 0 fault other offends in
    go (number_from xs 0 1) refl (number_from-below xs 0 1 (AreBits-bits frame)) k.0 k.1
  where
    go : (v : ℕ) → number_from (bits frame) 0 1 ≡ v → v < 2 → 1 ≤ length (bits frame) →
        read (if v == 0 then plain_frame_fields f else coded_frame_fields f) (drop 1 (bits frame)) (0 + 1) ≡ Err fault → HeaderInFront f (bits frame)
    go zero is h long k = absurd (other (read_fault (plain_frame_fields f) (drop 1 (bits frame)) 1 fault (plain_fields_are f) k))
    go (suc zero) is h long k =
        let from_one = cons_is (bits frame) long is in
        coded_front f (bits frame) (drop 1 (bits frame)) fault shape (subst AreBits from_one (AreBits-bits frame)).1 from_one other k
    go (suc (suc v)) is h long k = absurd (omega arith)
