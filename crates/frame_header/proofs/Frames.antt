-- A frame, from its parts.
use Rattle.std.proofs.Common.{◌≡◌, ◌≢◌, ℕ, ◌+◌, ◌-◌, ◌*◌, ◌<◌, ◌≤◌, ◌==◌, nat_lt, Bool, true, false, cond, if◌then◌else◌, List, length, drop, get_or}
use Rattle.std.proofs.Common.{refl, ap, sym, ◌∙◌, arith, Option, Some, None, Result, Ok, Err, le-ltb, length-drop, get_or-drop}
use Rattle.std.proofs.lemmas.Bool.{ne_eqb}
use Rattle.dst_spec.specs.Bits.{bits, number_from}
use Rattle.dst_spec.specs.Sample.{Shape, sound_bytes}
use Rattle.dst_spec.specs.Header.{Params}
use Rattle.dst_spec.specs.Fields.{Fields, gives, field, code, ◌>>=◌, number, read}
use Rattle.dst_spec.specs.Offends.{stuffing_rule, first_bit_rule, range_of_code_rule, header_fields, plain_frame_fields, coded_frame_fields}
use Rattle.dst_spec.specs.Offends.{frame_fields, Offends}
use Rattle.dst_spec.specs.declared.faults.FrameFault.{FrameFault}
use Rattle.dst_spec.specs.declared.faults.Reason.TheVariants.{Truncated, CodeRange}
use Rattle.dst_spec.proofs.Numbers.{length-bits, number_from-drop}
use Rattle.dst_spec.proofs.Meaning.{first_number}
use Rattle.bit_io.specs.Reading.{Reading, left, HasRead, IsAtFault}
use Rattle.frame_header.specs.Steps.{IsReadable}
use Rattle.frame_header.specs.View.{OffendsNowhere, first_bit_fault, range_fault}
use Rattle.frame_header.proofs.Stepping.{onto, failed_within, number_cut}

-- ---- a plain frame behind its first bit
abbrev sound_part : Shape → ℕ → Fields (Option Params)
sound_part f stuffing = number (8 * sound_bytes f) >>= (λ sound. gives None)

abbrev stuffing_part : Shape → ℕ → Fields (Option Params)
stuffing_part f reserved = field 6 stuffing_rule gives >>= sound_part f

pub reserved_cut : (f : Shape) (a : Reading) (fault : FrameFault) → IsAtFault (number 1) a fault → IsAtFault (plain_frame_fields f) a fault
unfolding plain_frame_fields
reserved_cut f a fault h = failed_within (number 1) (stuffing_part f) a fault h

pub stuffing_fails : (f : Shape) (a b : Reading) (v : ℕ) (fault : FrameFault) → HasRead (number 1) a v b → IsAtFault (field 6 stuffing_rule gives) b fault →
    IsAtFault (plain_frame_fields f) a fault
unfolding plain_frame_fields
stuffing_fails f a b v fault h k = onto (number 1) (stuffing_part f) a b v h ∙ failed_within (field 6 stuffing_rule gives) (sound_part f) b fault k

to_sound : (f : Shape) (a b c : Reading) (v : ℕ) → HasRead (number 1) a v b → HasRead (field 6 stuffing_rule gives) b 0 c →
    read (plain_frame_fields f) (left a) a.place ≡ read (sound_part f 0) (left c) c.place
unfolding plain_frame_fields
to_sound f a b c v h k = onto (number 1) (stuffing_part f) a b v h ∙ onto (field 6 stuffing_rule gives) (sound_part f) b c 0 k

-- behind a plain frame's first eight bits
bits_behind : (frame : List ℕ) (c : Reading) → c.bytes ≡ frame → c.place ≡ 8 → length (left c) ≡ 8 * length frame - 8
bits_behind frame c bytes place = length-drop c.place (bits c.bytes) ∙ rw (bytes, place, length-bits) refl

pub sound_cut : (f : Shape) (frame : List ℕ) (a b c : Reading) (v : ℕ) → HasRead (number 1) a v b → HasRead (field 6 stuffing_rule gives) b 0 c →
    c.bytes ≡ frame → c.place ≡ 8 →
    1 ≤ sound_bytes f → length frame < 1 + sound_bytes f → IsAtFault (plain_frame_fields f) a (record { reason = Truncated; bit = c.place })
sound_cut f frame a b c v h k bytes place some short =
    let cut : length (left c) < 8 * sound_bytes f = omega (arith, bits_behind frame c bytes place) in
    to_sound f a b c v h k ∙ failed_within (number (8 * sound_bytes f)) (λ sound. gives None) c (record { reason = Truncated; bit = c.place })
    (number_cut (8 * sound_bytes f) c cut)

there : {A : Type 0} (b : Bool) (t : FrameFault) (q : A) → b ≡ false → ◌≡◌ {A = Result A FrameFault} (elim b [ true ↦ Err t | false ↦ Ok q ]) (Ok q)
there true t q e = absurd cc
there false t q e = refl

pub sound_there : (f : Shape) (frame : List ℕ) (a b c : Reading) (v : ℕ) → HasRead (number 1) a v b → HasRead (field 6 stuffing_rule gives) b 0 c →
    c.bytes ≡ frame → c.place ≡ 8 →
    1 + sound_bytes f ≤ length frame → IsReadable (plain_frame_fields f) a
unfolding read
sound_there f frame a b c v h k bytes place long =
    let n = 8 * sound_bytes f in
    let enough : n ≤ length (left c) = omega (arith, bits_behind frame c bytes place) in
    let q : Option Params × List ℕ × ℕ = (None, drop n (left c), c.place + n) in
    (q, to_sound f a b c v h k ∙ there (nat_lt (length (left c)) n) (record { reason = Truncated; bit = c.place }) q (le-ltb (length (left c)) n enough))

-- ---- a frame from its first bit
abbrev behind_first : Shape → ℕ → Fields (Option Params)
behind_first f coded = if coded == 0 then plain_frame_fields f else coded_frame_fields f

-- a reader at the first bit of a frame
pub record Starts (frame : List ℕ) (a : Reading) : Type 0 where
  pub bytes : a.bytes ≡ frame
  pub place : a.place ≡ 0

from_start : {A : Type 0} (m : Fields A) (frame : List ℕ) (a : Reading) → Starts frame a → read m (bits frame) 0 ≡ read m (left a) a.place
from_start m frame a s =
    let all : left a ≡ bits frame = ap (λ i. drop i (bits a.bytes)) s.place ∙ ap bits s.bytes in
    rw (all, s.place) refl

pub first_cut : (f : Shape) (frame : List ℕ) (a : Reading) (fault : FrameFault) → Starts frame a → IsAtFault (number 1) a fault → Offends f frame fault
unfolding frame_fields
first_cut f frame a fault s h = from_start (frame_fields f) frame a s ∙ failed_within (number 1) (behind_first f) a fault h

to_behind : (f : Shape) (frame : List ℕ) (a b : Reading) (v : ℕ) → Starts frame a → HasRead (number 1) a v b →
    read (frame_fields f) (bits frame) 0 ≡ read (behind_first f v) (left b) b.place
unfolding frame_fields
to_behind f frame a b v s h = from_start (frame_fields f) frame a s ∙ onto (number 1) (behind_first f) a b v h

to_plain : (f : Shape) (frame : List ℕ) (a b : Reading) (v : ℕ) → Starts frame a → HasRead (number 1) a v b → v ≡ 0 →
    read (frame_fields f) (bits frame) 0 ≡ read (plain_frame_fields f) (left b) b.place
to_plain f frame a b v s h none = to_behind f frame a b v s h ∙ ap (λ x. read (behind_first f x) (left b) b.place) none

pub plain_fails : (f : Shape) (frame : List ℕ) (a b : Reading) (v : ℕ) (fault : FrameFault) → Starts frame a → HasRead (number 1) a v b → v ≡ 0 →
    IsAtFault (plain_frame_fields f) b fault → Offends f frame fault
plain_fails f frame a b v fault s h none k = to_plain f frame a b v s h none ∙ k

no_fault : {A : Type 0} (q r : Result A FrameFault) (x : A) (fault : FrameFault) → q ≡ r → r ≡ Ok x → q ≡ Err fault → ⊥
no_fault {A = A} q r x fault e h k = let same : ◌≡◌ {A = Result A FrameFault} (Ok x) (Err fault) = sym h ∙ sym e ∙ k in cc

pub plain_nowhere : (f : Shape) (frame : List ℕ) (a b : Reading) (v : ℕ) → Starts frame a → HasRead (number 1) a v b → v ≡ 0 →
    IsReadable (plain_frame_fields f) b → OffendsNowhere f frame
plain_nowhere f frame a b v s h none k fault o =
    no_fault (read (frame_fields f) (bits frame) 0) (read (plain_frame_fields f) (left b) b.place) k.0 fault (to_plain f frame a b v s h none) k.1 o

-- ---- a coded frame, up to its code
abbrev range_part : Params → ℕ → Fields (Option Params)
range_part P first = code 12 range_of_code_rule (λ twelve. gives (Some P))

abbrev code_part : Params → Fields (Option Params)
code_part P = code 1 first_bit_rule (range_part P)

to_coded : (f : Shape) (frame : List ℕ) (a b : Reading) (v : ℕ) → Starts frame a → HasRead (number 1) a v b → (v ≡ 0 → ⊥) →
    read (frame_fields f) (bits frame) 0 ≡ read (header_fields f.channels >>= code_part) (left b) b.place
unfolding coded_frame_fields
to_coded f frame a b v s h ne = to_behind f frame a b v s h
    ∙ ap (λ x. read (cond x (plain_frame_fields f) (coded_frame_fields f)) (left b) b.place) (ne_eqb v 0 ne)

pub header_fails : (f : Shape) (frame : List ℕ) (a b : Reading) (v : ℕ) (fault : FrameFault) → Starts frame a → HasRead (number 1) a v b → (v ≡ 0 → ⊥) →
    IsAtFault (header_fields f.channels) b fault → Offends f frame fault
header_fails f frame a b v fault s h ne k = to_coded f frame a b v s h ne ∙ failed_within (header_fields f.channels) code_part b fault k

to_code : (f : Shape) (frame : List ℕ) (a b c : Reading) (v : ℕ) (P : Params) → Starts frame a → HasRead (number 1) a v b → (v ≡ 0 → ⊥) →
    HasRead (header_fields f.channels) b P c →
    read (frame_fields f) (bits frame) 0 ≡ read (code_part P) (left c) c.place
to_code f frame a b c v P s h ne k = to_coded f frame a b v s h ne ∙ onto (header_fields f.channels) code_part b c P k

-- ---- what the code's two fields refuse
first_bit_of : (frame : List ℕ) (c : Reading) → c.bytes ≡ frame → number_from (left c) 0 1 ≡ get_or (bits frame) c.place 0
first_bit_of frame c bytes =
    let at : c.place + 0 ≡ c.place = omega arith in
    first_number (left c) ∙ get_or-drop c.place (bits c.bytes) 0 0 ∙ rw (at, bytes) refl

twelve_of : (frame : List ℕ) (c : Reading) → c.bytes ≡ frame → number_from (drop 1 (left c)) 0 12 ≡ number_from (bits frame) (c.place + 1) 12
twelve_of frame c bytes =
    let at : c.place + (1 + 0) ≡ c.place + 1 = omega arith in
    number_from-drop (left c) 1 0 12 ∙ number_from-drop (bits c.bytes) c.place (1 + 0) 12 ∙ ap (λ i. number_from (bits c.bytes) i 12) at
    ∙ ap (λ x. number_from (bits x) (c.place + 1) 12) bytes

first_refused : (P : Params) (c : Reading) → number_from (left c) 0 1 ≡ 1 → read (code_part P) (left c) c.place ≡ Err (first_bit_fault c.place)
unfolding read
first_refused P c one =
    let xs = left c in
    let next : Result (Option Params × List ℕ × ℕ) FrameFault = read (range_part P (number_from xs 0 1)) (drop 1 xs) (c.place + 1) in
    ap (λ v. elim (first_bit_rule v) [ Some reason ↦ Err (record { reason = reason; bit = c.place }) | None ↦ next ]) one

first_passed : (P : Params) (c : Reading) → number_from (left c) 0 1 ≡ 0 →
    read (code_part P) (left c) c.place ≡ read (range_part P 0) (drop 1 (left c)) (c.place + 1)
unfolding read
first_passed P c none =
    let xs = left c in
    ap (λ v. elim (first_bit_rule v) [
      | Some reason ↦ Err (record { reason = reason; bit = c.place })
      | None ↦ read (range_part P v) (drop 1 xs)
          (c.place + 1)
    ]) none

range_refused : (P : Params) (ys : List ℕ) (place : ℕ) → number_from ys 0 12 ≡ 4095 →
    read (range_part P 0) ys place ≡ Err (record { reason = CodeRange; bit = place })
unfolding read
range_refused P ys place all =
    let done : Result (Option Params × List ℕ × ℕ) FrameFault = Ok (Some P, drop 12 ys, place + 12) in
    ap (λ v. elim (range_of_code_rule v) [ Some reason ↦ Err (record { reason = reason; bit = place }) | None ↦ done ]) all

range_passed : (P : Params) (ys : List ℕ) (place : ℕ) → number_from ys 0 12 ≢ 4095 → read (range_part P 0) ys place ≡ Ok (Some P, drop 12 ys, place + 12)
unfolding read
range_passed P ys place some =
    let done : Result (Option Params × List ℕ × ℕ) FrameFault = Ok (Some P, drop 12 ys, place + 12) in
    ap (λ b. elim (cond b (Some CodeRange) None) [ Some reason ↦ Err (record { reason = reason; bit = place }) | None ↦ done ])
    (ne_eqb (number_from ys 0 12) 4095 some)

-- what a frame whose header was read says of its code
pub record IsCodedFrom (f : Shape) (frame : List ℕ) (c : Reading) : Type 0 where
  pub first_bit : get_or (bits frame) c.place 0 ≡ 1 → Offends f frame (first_bit_fault c.place)
  pub range : get_or (bits frame) c.place 0 ≡ 0 → number_from (bits frame) (c.place + 1) 12 ≡ 4095 → Offends f frame (range_fault c.place)
  pub whole : get_or (bits frame) c.place 0 ≡ 0 → number_from (bits frame) (c.place + 1) 12 ≢ 4095 → OffendsNowhere f frame

pub coded_from : (f : Shape) (frame : List ℕ) (a b c : Reading) (v : ℕ) (P : Params) → Starts frame a → HasRead (number 1) a v b → (v ≡ 0 → ⊥) →
    HasRead (header_fields f.channels) b P c → c.bytes ≡ frame →
    IsCodedFrom f frame c
coded_from f frame a b c v P s h ne k bytes =
    let to = to_code f frame a b c v P s h ne k in
    let first = first_bit_of frame c bytes in
    let twelve = twelve_of frame c bytes in
    let on : get_or (bits frame) c.place 0 ≡ 0 → read (frame_fields f) (bits frame) 0 ≡ read (range_part P 0) (drop 1 (left c)) (c.place + 1) =
    λ none. to ∙ first_passed P c (first ∙ none) in
    record {
      first_bit = λ one. to ∙ first_refused P c (first ∙ one);
      range = λ none all. on none ∙ range_refused P (drop 1 (left c)) (c.place + 1) (twelve ∙ all);
      whole = λ none some fault o.
          no_fault (read (frame_fields f) (bits frame) 0) (read (range_part P 0) (drop 1 (left c)) (c.place + 1)) (
            Some P,
            drop 12 (drop 1 (left c)),
            c.place + 1 + 12,
          ) fault (on none)
          (range_passed P (drop 1 (left c)) (c.place + 1) (λ all. some (sym twelve ∙ all))) o;
    }
