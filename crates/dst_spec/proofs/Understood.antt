-- A frame that doesn't offend means one sound.
use Rattle.std.proofs.Common.{◌≡◌, ◌≢◌, ◌⊎◌, inl, inr, ℕ, zero, suc, ◌+◌, ◌*◌, ◌^◌, ◌<◌, ◌≤◌, ◌==◌, nat_lt, Bool, true, false, cond, if◌then◌else◌}
use Rattle.std.proofs.Common.{List, [], ◌∷◌, ◌++◌, length, take, drop, get_or, replicate, refl, ap, sym, subst, ◌∙◌, arith, length-append}
use Rattle.std.proofs.Common.{length-take-le, length-drop, drop-drop, take_at, drop_at, Option, Some, None, Result, Ok, Err, ltb-false, get_or-drop}
use Rattle.std.proofs.Common.{eqb-true}
use Rattle.std.proofs.lemmas.Bool.{eqb-false}
use Rattle.dst_spec.specs.Bits.{low_bits, bits, number_from, AreBits, AreBytes}
use Rattle.dst_spec.specs.Sample.{Shape, IsShape, IsSound, samples, sound_bytes}
use Rattle.dst_spec.specs.Header.{Params, IsParams, HasHeader}
use Rattle.dst_spec.specs.Symbols.{reserved_probability, symbols}
use Rattle.dst_spec.specs.Interval.{Interval, whole, part, narrowed, interval_from, IsWithin, IsCodeOf}
use Rattle.dst_spec.specs.Means.{Means}
use Rattle.dst_spec.specs.Laws.{IsRefused, IsUnderstood, DecodingLaw}
use Rattle.dst_spec.specs.Fields.{Fields, gives, field, code, ◌>>=◌, any, read}
use Rattle.dst_spec.specs.Offends.{stuffing_rule, first_bit_rule, range_of_code_rule, header_fields, plain_frame_fields, coded_frame_fields, frame_fields}
use Rattle.dst_spec.specs.declared.faults.FrameFault.{FrameFault}
use Rattle.dst_spec.specs.declared.faults.Reason.{Reason}
use Rattle.dst_spec.specs.declared.faults.Reason.TheVariants.{Truncated, PlainStuffing, FirstCodeBit, CodeRange}
use Rattle.dst_spec.proofs.Reading.{read-bind}
use Rattle.dst_spec.proofs.Taking.{was_met, onward_ok, Takes, front-low_bits}
use Rattle.dst_spec.proofs.Found.{Takes-header}
use Rattle.dst_spec.proofs.Meaning.{first_number, one_fault, meaning_is_no_fault}
use Rattle.dst_spec.proofs.Numbers.{AreBits-bits, length-bits, length-low_bits, number_from-drop, number_from-below}
use Rattle.dst_spec.proofs.Intervals.{IsNormal-whole, IsNormal-narrowed, within_doubled, one_part}
use Rattle.dst_spec.proofs.Probabilities.{reserved_probability-least, reserved_probability-most}
use Rattle.dst_spec.proofs.Causal.{sound_of, IsSound-sound_of}
use Rattle.dst_spec.proofs.Decoding.{pairs_from, symbols-by_place, made_sound}
use Rattle.dst_spec.proofs.Unique.{one_meaning}
use Rattle.dst_spec.proofs.Lists.{AreBytes-take, AreBytes-drop, AreBits-drop}

-- ---- a code has a sound
code_from_place : (f : Shape) (P : Params) (xs : List ℕ) (i : ℕ) (sound : List ℕ) (e : Bool) →
    IsWithin xs i (interval_from (narrowed whole (e, reserved_probability P)) (pairs_from f P sound 0 (samples f * f.channels))) →
    IsCodeOf xs i (symbols f P sound e)
unfolding interval_from
code_from_place f P xs i sound e w = subst (λ ps. IsWithin xs i (interval_from whole ps)) (sym (symbols-by_place f P sound e)) w

no_pairs : (xs : List ℕ) (i : ℕ) (j : Interval) → IsWithin xs i j → IsWithin xs i (interval_from j [])
unfolding interval_from
no_pairs xs i j v = v

one_sound_at_least : (f : Shape) (P : Params) (xs : List ℕ) (i : ℕ) → IsParams f.channels P → 0 < f.channels → AreBits xs → IsWithin xs i whole →
    (sound : List ℕ) × (e : Bool) × IsSound f sound × IsCodeOf xs i (symbols f P sound e)
one_sound_at_least f P xs i params h bits w =
    let p = reserved_probability P in
    let law : (1 ≤ p) × (p ≤ 128) = (reserved_probability-least P, reserved_probability-most P) in
    let one = one_part xs i whole p law.0 law.1 IsNormal-whole w in
    let normal = IsNormal-narrowed whole one.0 p law.0 law.1 IsNormal-whole in
    let inside : IsWithin xs i (narrowed whole (one.0, p)) = (within_doubled 11 xs i (part one.0 p whole) bits).0 one.1 in
    let made = made_sound f P xs i (narrowed whole (one.0, p)) params h bits normal (samples f * f.channels) 0 (omega arith) (λ k. false)
    (no_pairs xs i (narrowed whole (one.0, p)) inside) in
    (sound_of f made.0, one.0, IsSound-sound_of f made.0, code_from_place f P xs i (sound_of f made.0) one.0 made.1)

-- ---- what a frame whose fields are all read means
field_read : {A : Type 0} (n : ℕ) (rule : ℕ → Option Reason) (next : ℕ → Fields A) (xs : List ℕ) (place : ℕ) (r : A × List ℕ × ℕ) →
    read (field n rule next) xs place ≡ Ok r →
    (n ≤ length xs) × (rule (number_from xs 0 n) ≡ None) × (read (next (number_from xs 0 n)) (drop n xs) (place + n) ≡ Ok r)
unfolding read
field_read n rule next xs place r e =
    let k = was_met (nat_lt (length xs) n) (rule (number_from xs 0 n)) (record { reason = Truncated; bit = place }) place
    (read (next (number_from xs 0 n)) (drop n xs) (place + n)) r e in
    (ltb-false (length xs) n k.0, k.1, k.2)

code_read : {A : Type 0} (n : ℕ) (rule : ℕ → Option Reason) (next : ℕ → Fields A) (xs : List ℕ) (place : ℕ) (r : A × List ℕ × ℕ) →
    read (code n rule next) xs place ≡ Ok r →
    (rule (number_from xs 0 n) ≡ None) × (read (next (number_from xs 0 n)) (drop n xs) (place + n) ≡ Ok r)
unfolding read
code_read n rule next xs place r e =
    let k = was_met false (rule (number_from xs 0 n)) (record { reason = Truncated; bit = place }) place
    (read (next (number_from xs 0 n)) (drop n xs) (place + n)) r e in
    (k.1, k.2)

met_unless : (v n : ℕ) (reason : Reason) → ◌≡◌ {A = Option Reason} (cond (v == n) (Some reason) None) None → v ≢ n
met_unless v n reason h = go (v == n) refl h
  where
    go : (b : Bool) → (v == n) ≡ b → ◌≡◌ {A = Option Reason} (cond b (Some reason) None) None → v ≢ n
    go true e k = absurd cc
    go false e k = eqb-false v n e

met_if : (v n : ℕ) (reason : Reason) → ◌≡◌ {A = Option Reason} (cond (v == n) None (Some reason)) None → v ≡ n
met_if v n reason h = go (v == n) refl h
  where
    go : (b : Bool) → (v == n) ≡ b → ◌≡◌ {A = Option Reason} (cond b None (Some reason)) None → v ≡ n
    go true e k = eqb-true v n e
    go false e k = absurd cc

cons_of : (xs : List ℕ) → 1 ≤ length xs → xs ≡ get_or xs 0 0 ∷ drop 1 xs
cons_of [] h = absurd (omega arith)
cons_of (x ∷ xs) h = refl

header_found : (channels : ℕ) → 1 ≤ channels → Takes (header_fields channels) (λ w P. HasHeader channels P (1 ∷ w))
header_found zero h = absurd (omega arith)
header_found (suc n) h = Takes-header n

coded_means : (f : Shape) (frame : List ℕ) (r : Option Params × List ℕ × ℕ) → IsShape f → number_from (bits frame) 0 1 ≡ 1 → 1 ≤ length (bits frame) →
    read (coded_frame_fields f) (drop 1 (bits frame)) 1 ≡ Ok r → (sound : List ℕ) × Means f frame sound
unfolding coded_frame_fields
coded_means f frame r shape one long e =
    let xs = bits frame in
    let all_bits = AreBits-bits frame in
    let ys = drop 1 xs in
    let parts : Params → Fields (Option Params) = λ P. code 1 first_bit_rule gives >>=
    (λ first. code 12 range_of_code_rule gives >>= (λ twelve. gives (Some P))) in
    let q = onward_ok parts (read (header_fields f.channels) ys 1) r (sym (read-bind (header_fields f.channels) parts ys 1) ∙ e) in
    let P = q.0.0 in
    let zs = q.0.1 in
    let from_one : xs ≡ 1 ∷ ys = cons_of xs long ∙ ap (λ b. b ∷ ys) (sym (first_number xs) ∙ one) in
    let bits_behind : AreBits ys = (subst AreBits from_one all_bits).1 in
    let t = header_found f.channels shape.least ys 1 q.0 bits_behind q.1 in
    let w = t.bits in
    let place = length (1 ∷ w) in
    let split : xs ≡ (1 ∷ w) ++ zs = from_one ∙ ap (λ l. 1 ∷ l) t.whole in
    let front : take place xs ≡ 1 ∷ w = ap (take place) split ∙ take_at (1 ∷ w) zs place refl in
    let behind : drop place xs ≡ zs = ap (drop place) split ∙ drop_at (1 ∷ w) zs place refl in
    let c = code_read 1 first_bit_rule (λ first. code 12 range_of_code_rule (λ twelve. gives (Some P))) zs q.0.2 r q.2 in
    let d = code_read 12 range_of_code_rule (λ twelve. gives (Some P)) (drop 1 zs) (q.0.2 + 1) r c.1 in
    let not_one : number_from zs 0 1 ≢ 1 = met_unless (number_from zs 0 1) 1 FirstCodeBit c.0 in
    let below_two : number_from zs 0 1 < 2 ^ 1 = number_from-below zs 0 1 t.rest in
    let zero_first : get_or zs 0 0 ≡ 0 = sym (first_number zs) ∙ omega (arith, not_one, below_two) in
    let first : get_or xs place 0 ≡ 0 = ap (λ i. get_or xs i 0) (omega arith) ∙ sym (get_or-drop place xs 0 0) ∙ ap (λ l. get_or l 0 0) behind ∙ zero_first in
    let not_twelve : number_from (drop 1 zs) 0 12 ≢ 4095 = met_unless (number_from (drop 1 zs) 0 12) 4095 CodeRange d.0 in
    let number : number_from xs (place + 1) 12 ≡ number_from (drop 1 zs) 0 12 =
    sym (number_from-drop xs place 1 12) ∙ ap (λ l. number_from l 1 12) behind ∙ sym (number_from-drop zs 1 0 12) in
    let below : number_from xs (place + 1) 12 < 2 ^ 12 = number_from-below xs (place + 1) 12 all_bits in
    let inside : IsWithin xs place whole = record { above = omega arith; below = omega (arith, number, not_twelve, below) } in
    let header : HasHeader f.channels P (1 ∷ w) = t.related in
    let s = one_sound_at_least f P xs place header.params shape.least all_bits inside in (
      s.0,
      (
        s.2,
        inr (record {
          params = P;
          place = place;
          inside = omega (arith, ap length split, length-append (1 ∷ w) zs);
          header = subst (HasHeader f.channels P) (sym front) header;
          first_bit = first;
          reserved = s.1;
          code = s.3;
        }),
      ),
    )

six_zeros : low_bits 6 0 ≡ replicate 6 0
unfolding low_bits
six_zeros = refl

plain_means : (f : Shape) (frame : List ℕ) (r : Option Params × List ℕ × ℕ) → AreBytes frame → number_from (bits frame) 0 1 ≡ 0 →
    read (plain_frame_fields f) (drop 1 (bits frame)) 1 ≡ Ok r → (sound : List ℕ) × Means f frame sound
unfolding plain_frame_fields
plain_means f frame r bytes zero_first e =
    let xs = bits frame in
    let n = sound_bytes f in
    let two = drop 1 (drop 1 xs) in
    let after_stuffing : ℕ → Fields (Option Params) = λ stuffing. field (8 * n) any (λ sound. gives None) in
    let a = field_read 1 any (λ reserved. field 6 stuffing_rule after_stuffing) (drop 1 xs) 1 r e in
    let b = field_read 6 stuffing_rule after_stuffing two (1 + 1) r a.2 in
    let c = field_read (8 * n) any (λ sound. gives None) (drop 6 two) (1 + 1 + 6) r b.2 in
    let none : number_from two 0 6 ≡ 0 = met_if (number_from two 0 6) 0 PlainStuffing b.1 in
    let front = front-low_bits 6 two b.0 (AreBits-drop 1 (drop 1 xs) (AreBits-drop 1 xs (AreBits-bits frame))) in
    let stuffing : take 6 two ≡ replicate 6 0 =
    ap (take 6) front ∙ take_at (low_bits 6 (number_from two 0 6)) (drop 6 two) 6 (length-low_bits 6 (number_from two 0 6)) ∙ ap (low_bits 6) none
    ∙ six_zeros in
    let two_is : two ≡ drop 2 xs = drop-drop 1 1 xs in
    let enough = c.0 in
    let long : 1 + n ≤ length frame =
    omega (arith, length-bits frame, length-drop 6 two, length-drop 1 (drop 1 xs), length-drop 1 xs, a.0, b.0, enough) in
    let sound = take n (drop 1 frame) in (
      sound,
      (
        record {
          long = length-take-le n (drop 1 frame) (omega (arith, length-drop 1 frame));
          bytes = AreBytes-take n (drop 1 frame) (AreBytes-drop 1 frame bytes);
        },
        inl (record { coded = sym (first_number xs) ∙ zero_first; stuffing = ap (take 6) (sym two_is) ∙ stuffing; long = long; is_sound = refl }),
      ),
    )

-- a frame whose fields are all read means a sound
pub read_means : (f : Shape) (frame : List ℕ) (r : Option Params × List ℕ × ℕ) → IsShape f → AreBytes frame → read (frame_fields f) (bits frame) 0 ≡ Ok r →
    (sound : List ℕ) × Means f frame sound
unfolding frame_fields
read_means f frame r shape bytes e =
    let xs = bits frame in
    let next : ℕ → Fields (Option Params) = λ coded. if coded == 0 then plain_frame_fields f else coded_frame_fields f in
    let k = field_read 1 any next xs 0 r e in
    go (number_from xs 0 1) refl (number_from-below xs 0 1 (AreBits-bits frame)) k.0 k.2
  where
    go : (v : ℕ) → number_from (bits frame) 0 1 ≡ v → v < 2 → 1 ≤ length (bits frame) →
        read (if v == 0 then plain_frame_fields f else coded_frame_fields f) (drop 1 (bits frame)) (0 + 1) ≡ Ok r → (sound : List ℕ) × Means f frame sound
    go zero is h long k = plain_means f frame r bytes is k
    go (suc zero) is h long k = coded_means f frame r shape is long k
    go (suc (suc v)) is h long k = absurd (omega arith)

-- ---- each frame is refused for one reason, or means one sound
pub decoding_law : DecodingLaw
decoding_law f frame shape bytes = go (read (frame_fields f) (bits frame) 0) refl
  where
    go : (q : Result (Option Params × List ℕ × ℕ) FrameFault) → read (frame_fields f) (bits frame) 0 ≡ q → IsRefused f frame ⊎ IsUnderstood f frame
    go (Err fault) e = inl (fault, e, λ other o. one_fault f frame other fault o e, λ sound m. meaning_is_no_fault f frame sound fault shape m e)
    go (Ok r) e =
        let s = read_means f frame r shape bytes e in
        inr (s.0, s.1, λ other m. one_meaning f frame other s.0 shape m s.1, λ fault o. absurd (meaning_is_no_fault f frame s.0 fault shape s.1 o))
