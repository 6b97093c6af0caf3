-- A frame that means a sound doesn't offend.
use Rattle.std.proofs.Common.{◌≡◌, ◌≢◌, ◌⊎◌, inl, inr, ℕ, ◌+◌, ◌*◌, ◌≤◌, ◌==◌, nat_lt, false, List, ◌∷◌, ◌++◌, length, take, drop, get_or, replicate}
use Rattle.std.proofs.Common.{refl, ap, ap₂, sym, ◌∙◌, arith, take-append-drop, length-take-le, length-drop, Option, Some, None, Ok, le-ltb, ne_eqb}
use Rattle.std.proofs.Common.{get_or-drop, drop-drop, if◌then◌else◌}
use Rattle.dst_spec.specs.Bits.{bits, number_from}
use Rattle.dst_spec.specs.Sample.{Shape, IsShape, sound_bytes}
use Rattle.dst_spec.specs.Header.{Params}
use Rattle.dst_spec.specs.Symbols.{symbols}
use Rattle.dst_spec.specs.Interval.{whole}
use Rattle.dst_spec.specs.Means.{Means, IsPlain, IsCoded}
use Rattle.dst_spec.specs.Fields.{Fields, gives, field, code, ◌>>=◌, any, read}
use Rattle.dst_spec.specs.Offends.{stuffing_rule, first_bit_rule, range_of_code_rule, header_fields, plain_frame_fields, coded_frame_fields}
use Rattle.dst_spec.specs.Offends.{frame_fields, Offends}
use Rattle.dst_spec.specs.declared.faults.FrameFault.{FrameFault}
use Rattle.dst_spec.specs.declared.faults.Reason.{Reason}
use Rattle.dst_spec.specs.declared.faults.Reason.TheVariants.{Truncated}
use Rattle.dst_spec.proofs.Numbers.{AreBits-bits, length-bits, number_from-drop, number_from-append_left}
use Rattle.dst_spec.proofs.Intervals.{IsNormal-whole, within_front}
use Rattle.dst_spec.proofs.Reading.{onward, read-bind, field_met}
use Rattle.dst_spec.proofs.Headers.{Reads-header}
use Rattle.dst_spec.proofs.Probabilities.{AreLawful-symbols}

-- one frame has one fault
pub one_fault : (f : Shape) (frame : List ℕ) (a b : FrameFault) → Offends f frame a → Offends f frame b → a ≡ b
one_fault f frame a b h k =
    let e = sym h ∙ k in
    cc

-- a field that is there and keeps its rule, and one of an arithmetic code that keeps its rule
pub read-field : {A : Type 0} (n : ℕ) (rule : ℕ → Option Reason) (next : ℕ → Fields A) (xs : List ℕ) (place : ℕ) → n ≤ length xs →
    rule (number_from xs 0 n) ≡ None →
    read (field n rule next) xs place ≡ read (next (number_from xs 0 n)) (drop n xs) (place + n)
unfolding read
read-field n rule next xs place h k =
    field_met (nat_lt (length xs) n) (rule (number_from xs 0 n)) (record { reason = Truncated; bit = place }) place
    (read (next (number_from xs 0 n)) (drop n xs) (place + n)) (le-ltb (length xs) n h) k

pub read-code : {A : Type 0} (n : ℕ) (rule : ℕ → Option Reason) (next : ℕ → Fields A) (xs : List ℕ) (place : ℕ) → rule (number_from xs 0 n) ≡ None →
    read (code n rule next) xs place ≡ read (next (number_from xs 0 n)) (drop n xs) (place + n)
unfolding read
read-code n rule next xs place k =
    field_met false (rule (number_from xs 0 n)) (record { reason = Truncated; bit = place }) place
    (read (next (number_from xs 0 n)) (drop n xs) (place + n)) refl k

pub read-gives : {A : Type 0} (x : A) (ys : List ℕ) (i : ℕ) → read (gives x) ys i ≡ Ok (x, ys, i)
unfolding read
read-gives x ys i = refl

pub first_number : (xs : List ℕ) → number_from xs 0 1 ≡ get_or xs 0 0
unfolding number_from
first_number xs = omega arith

-- the two fields of the arithmetic code
code_fields : (xs : List ℕ) (place : ℕ) (P : Params) → get_or xs 0 0 ≡ 0 → number_from xs 1 12 ≢ 4095 →
    read (code 1 first_bit_rule gives >>= (λ first. code 12 range_of_code_rule gives >>= (λ twelve. gives (Some P)))) xs place ≡ Ok (
      Some P,
      drop 12 (drop 1 xs),
      place + 1 + 12,
    )
code_fields xs place P h k =
    let next : ℕ → Fields (Option Params) = λ first. code 12 range_of_code_rule (λ twelve. gives (Some P)) in
    let first : first_bit_rule (number_from xs 0 1) ≡ None = rw (first_number xs, h) refl in
    let twelve : range_of_code_rule (number_from (drop 1 xs) 0 12) ≡ None = rw (number_from-drop xs 1 0 12, ne_eqb (number_from xs 1 12) 4095 k) refl in
    read-code 1 first_bit_rule next xs place first ∙ read-code 12 range_of_code_rule (λ t. gives (Some P)) (drop 1 xs) (place + 1) twelve
    ∙ read-gives (Some P) (drop 12 (drop 1 xs)) (place + 1 + 12)

-- a coded frame's fields are all read
coded_is_read : (f : Shape) (frame sound : List ℕ) → IsShape f → IsCoded f frame sound →
    (r : Option Params × List ℕ × ℕ) × (read (frame_fields f) (bits frame) 0 ≡ Ok r)
unfolding frame_fields coded_frame_fields
coded_is_read f frame sound shape d =
    let xs = bits frame in
    let all_bits = AreBits-bits frame in
    let rest = drop d.place xs in
    let h = Reads-header f.channels d.params (take d.place xs) shape.most d.header in
    let v = h.0 in
    let split : xs ≡ 1 ∷ (v ++ rest) = sym (take-append-drop d.place xs) ∙ ap (λ zs. zs ++ rest) h.1 in
    let inside = within_front xs d.place whole (symbols f d.params sound d.reserved) all_bits IsNormal-whole
    (AreLawful-symbols f d.params sound d.reserved d.header.params) d.code in
    let below = inside.below in
    let twelve : number_from rest 1 12 ≢ 4095 = λ e. absurd (omega (arith, number_from-drop xs d.place 1 12, e, below)) in
    let first : get_or rest 0 0 ≡ 0 = get_or-drop d.place xs 0 0 ∙ ap (λ i. get_or xs i 0) (omega arith) ∙ d.first_bit in
    let parts : Params → Fields (Option Params) = λ P. code 1 first_bit_rule gives >>=
    (λ first. code 12 range_of_code_rule gives >>= (λ twelve. gives (Some P))) in
    let next : ℕ → Fields (Option Params) = λ coded. if coded == 0 then plain_frame_fields f else (header_fields f.channels >>= parts) in
    let one : number_from xs 0 1 ≡ 1 = first_number xs ∙ ap (λ zs. get_or zs 0 0) split in
    let behind : drop 1 xs ≡ v ++ rest = ap (drop 1) split in
    let long : 1 ≤ length xs = omega (arith, ap length split) in
    let read_rest : read (next 1) (v ++ rest) 1 ≡ Ok (Some d.params, drop 12 (drop 1 rest), 1 + length v + 1 + 12) =
    read-bind (header_fields f.channels) parts (v ++ rest) 1 ∙ ap (onward parts) (h.2 rest 1) ∙ code_fields rest (1 + length v) d.params first twelve in (
      (Some d.params, drop 12 (drop 1 rest), 1 + length v + 1 + 12),
      read-field 1 any next xs 0 long refl ∙ ap₂ (λ b zs. read (next b) zs (0 + 1)) one behind ∙ read_rest,
    )

-- so are a plain frame's
zeros_number : (ys : List ℕ) → 6 ≤ length ys → take 6 ys ≡ replicate 6 0 → number_from ys 0 6 ≡ 0
unfolding number_from
zeros_number ys h e =
    let split = take-append-drop 6 ys in
    let front = number_from-append_left (take 6 ys) (drop 6 ys) 0 6 (omega (arith, length-take-le 6 ys h)) in
    ap (λ zs. number_from zs 0 6) (sym split) ∙ front ∙ ap (λ zs. number_from zs 0 6) e

plain_is_read : (f : Shape) (frame sound : List ℕ) → IsPlain f frame sound → (r : Option Params × List ℕ × ℕ) × (read (frame_fields f) (bits frame) 0 ≡ Ok r)
unfolding frame_fields plain_frame_fields
plain_is_read f frame sound d =
    let xs = bits frame in
    let n = sound_bytes f in
    let long : 8 + 8 * n ≤ length xs = omega (arith, length-bits frame, d.long) in
    let next : ℕ → Fields (Option Params) = λ coded. if coded == 0 then plain_frame_fields f else coded_frame_fields f in
    let after_stuffing : ℕ → Fields (Option Params) = λ stuffing. field (8 * n) any (λ sound. gives None) in
    let after_reserved : ℕ → Fields (Option Params) = λ reserved. field 6 stuffing_rule after_stuffing in
    let two = drop 1 (drop 1 xs) in
    let eight = drop 6 two in
    let one : number_from xs 0 1 ≡ 0 = first_number xs ∙ d.coded in
    let two_is : two ≡ drop 2 xs = drop-drop 1 1 xs in
    let six : number_from two 0 6 ≡ 0 = zeros_number two (omega (arith, length-drop 1 (drop 1 xs), length-drop 1 xs)) (ap (take 6) two_is ∙ d.stuffing) in
    let stuffing : stuffing_rule (number_from two 0 6) ≡ None = rw six refl in (
      (None, drop (8 * n) eight, 0 + 1 + 1 + 6 + 8 * n),
      read-field 1 any next xs 0 (omega arith) refl ∙ ap (λ b. read (next b) (drop 1 xs) (0 + 1)) one
          ∙ read-field 1 any after_reserved (drop 1 xs) (0 + 1) (omega (arith, length-drop 1 xs)) refl
          ∙ read-field 6 stuffing_rule after_stuffing two (0 + 1 + 1) (omega (arith, length-drop 1 (drop 1 xs), length-drop 1 xs)) stuffing
          ∙ read-field (8 * n) any (λ sound. gives None) eight (0 + 1 + 1 + 6)
          (omega (arith, length-drop 6 two, length-drop 1 (drop 1 xs), length-drop 1 xs)) refl
          ∙ read-gives None (drop (8 * n) eight) (0 + 1 + 1 + 6 + 8 * n),
    )

-- a frame that means a sound doesn't offend
pub meaning_is_no_fault : (f : Shape) (frame sound : List ℕ) (fault : FrameFault) → IsShape f → Means f frame sound → Offends f frame fault → ⊥
meaning_is_no_fault f frame sound fault shape m o = no (m.1)
  where
    no : IsPlain f frame sound ⊎ IsCoded f frame sound → ⊥
    no (inl d) =
        let r = plain_is_read f frame sound d in
        let e = sym r.1 ∙ o in
        cc
    no (inr d) =
        let r = coded_is_read f frame sound shape d in
        let e = sym r.1 ∙ o in
        cc
