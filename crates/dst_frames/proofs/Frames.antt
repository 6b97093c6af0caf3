-- What a frame means, and how its code offends.
use Rattle.std.proofs.Common.{◌≡◌, inl, inr, ℕ, ◌+◌, ◌-◌, ◌*◌, ◌/◌, ◌≤◌, List, length, take, get_or, ap, sym, subst, ◌∙◌, Fits, w8, Result, Ok, Err}
use Rattle.std.proofs.Common.{IfOk, IfErr, arith}
use Rattle.dst_spec.specs.Bits.{bits, number_from}
use Rattle.dst_spec.specs.Sample.{Shape, IsShape, IsSound, sound_bytes}
use Rattle.dst_spec.specs.Header.{Params, HasHeader}
use Rattle.dst_spec.specs.Symbols.{symbols}
use Rattle.dst_spec.specs.Interval.{interval}
use Rattle.dst_spec.specs.Means.{IsPlain, MeansWithTail, Means}
use Rattle.dst_spec.specs.Offends.{Offends}
use Rattle.dst_spec.specs.declared.faults.FrameFault.{FrameFault}
use Rattle.dst_spec.proofs.Meaning.{meaning_is_no_fault}
use Rattle.dst_spec.proofs.Numbers.{length-bits}
use Rattle.arith_decoder.specs.Decoding.{IsCodeFault}
use Rattle.frame_header.specs.View.{first_bit_fault, range_fault}
use Rattle.dst_frames.specs.Coded.{IsCodeOfSound}
use Rattle.dst_spec.proofs.Lists.{are_bytes}
use Rattle.dst_spec.proofs.Unique.{meaning_of_tail}

pub is_sound : (f : Shape) (out : List ℕ) → length out ≡ sound_bytes f → ((i : ℕ) → Fits w8 (get_or out i 0)) → IsSound f out
is_sound f out long fits = record { long = long; bytes = are_bytes out fits }

pub plain_means : (f : Shape) (frame sound out : List ℕ) (tail : ℕ) → IsPlain f frame sound → out ≡ sound → IsSound f out →
    tail ≡ length frame - 1 - length sound → MeansWithTail f frame out tail
plain_means f frame sound out tail plain same s given =
    let long = s.long in
    (s, inl (subst (IsPlain f frame) (sym same) plain, omega (arith, given, ap length same, long)))

pub coded_means : (f : Shape) (P : Params) (frame out : List ℕ) (place used tail : ℕ) → place ≤ 8 * length frame →
    HasHeader f.channels P (take place (bits frame)) → get_or (bits frame) place 0 ≡ 0 →
    IsSound f out → IsCodeOfSound f P (bits frame) place out used → tail ≡ length frame - (place + used + 7) / 8 → MeansWithTail f frame out tail
coded_means f P frame out place used tail inside header first s code given =
    let n = (interval (symbols f P out code.reserved)).doublings in
    let used_are = code.used_are in
    let bits_are : place + used + 7 ≡ place + 13 + n + 7 = omega (arith, used_are) in (
      s,
      inr (
        record {
          params = P;
          place = place;
          inside = omega (arith, length-bits frame);
          header = header;
          first_bit = first;
          reserved = code.reserved;
          code = code.code;
        },
        given ∙ ap (λ n. length frame - n / 8) bits_are,
      ),
    )

pub code_offends : (f : Shape) (frame : List ℕ) (place : ℕ) (fault : FrameFault) → (get_or (bits frame) place 0 ≡ 1 → Offends f frame (first_bit_fault place)) →
    (get_or (bits frame) place 0 ≡ 0 → number_from (bits frame) (place + 1) 12 ≡ 4095 → Offends f frame (range_fault place)) →
    IsCodeFault (bits frame) place fault → Offends f frame fault
code_offends f frame place fault first range (inl h) = subst (Offends f frame) (sym h.1) (first h.0)
code_offends f frame place fault first range (inr h) = subst (Offends f frame) (sym h.2) (range h.0 h.1)

-- one of them excludes the other
pub no_fault_beside : (f : Shape) (frame out : List ℕ) (r : Result ℕ FrameFault) → IsShape f → IfOk r (MeansWithTail f frame out) →
    IfOk r (λ tail. (fault : FrameFault) → Offends f frame fault → ⊥)
no_fault_beside f frame out (Ok tail) shape m = λ fault o. meaning_is_no_fault f frame out fault shape (meaning_of_tail f frame out tail m) o
no_fault_beside f frame out (Err fault) shape m = tt

pub no_sound_beside : (f : Shape) (frame : List ℕ) (r : Result ℕ FrameFault) → IsShape f → IfErr r (Offends f frame) →
    IfErr r (λ fault. (sound : List ℕ) → Means f frame sound → ⊥)
no_sound_beside f frame (Ok tail) shape o = tt
no_sound_beside f frame (Err fault) shape o = λ sound m. meaning_is_no_fault f frame sound fault shape m o
