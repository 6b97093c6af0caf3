-- The parts of a frame that are shown, and the faults that they leave.
use Rattle.std.proofs.Common.{◌≡◌, ◌≢◌, ◌⊎◌, inl, inr, ℕ, zero, suc, ◌+◌, ◌*◌, ◌<◌, ◌≤◌, List, [], ◌∷◌, length, take, get_or, Ok, refl}
use Rattle.std.proofs.Common.{ap, sym, subst, ◌∙◌, arith}
use Rattle.std.proofs.lemmas.Bool.{cases_order}
use Rattle.dst_spec.specs.Bits.{bits, number_from}
use Rattle.dst_spec.specs.Sample.{Shape}
use Rattle.dst_spec.specs.Header.{HasHeader}
use Rattle.dst_spec.specs.Means.{IsPlain}
use Rattle.dst_spec.specs.Offends.{Offends}
use Rattle.dst_spec.specs.declared.faults.FrameFault.{FrameFault}
use Rattle.dst_spec.specs.declared.faults.Reason.TheVariants.{FirstCodeBit, CodeRange}
use Rattle.dst_spec.specs.Reasons.{reason_number}
use Rattle.dst_spec.proofs.Numbers.{length-bits, AreBits-bits, bit-below}
use Rattle.dsdiff_spec.specs.Words.{show_frame}
use Rattle.dsdiff_spec.specs.Lines.{report, plain_frame_line, coded_frame_line}
use Rattle.dsdiff_spec.specs.Outcome.{Refuses}
use Rattle.frame_header.specs.View.{IfPlain, IfCoded, OffendsNowhere, first_bit_fault, range_fault}
use Rattle.frame_header.specs.declared.view.FrameView.{FrameView}
use Rattle.frame_header.specs.declared.view.FrameView.TheVariants.{Plain, Coded}
use Rattle.dst_show.specs.Reporting.{view_line, IsShown}
use Rattle.dst_spec.proofs.Lists.{same_err as same_fault}

-- a fault of the code is the only one
only_of_code : (f : Shape) (w : List ℕ) (fault other : FrameFault) → (other.reason ≡ FirstCodeBit) ⊎ (other.reason ≡ CodeRange) → Offends f w other →
    Refuses (show_frame 0) f w fault → ⊥
only_of_code f w fault other of_code o r = go of_code
  where
    same : fault ≡ other
    same = same_fault fault other (sym r.0 ∙ o)

    go : (other.reason ≡ FirstCodeBit) ⊎ (other.reason ≡ CodeRange) → ⊥
    go (inl e) = r.1 (ap (λ (f : FrameFault). f.reason) same ∙ e)
    go (inr e) = r.2 (ap (λ (f : FrameFault). f.reason) same ∙ e)

-- the bit in front of a code is 0 or 1
zero_or_one : (n : ℕ) → n < 2 → (n ≡ 0) ⊎ (n ≡ 1)
zero_or_one zero h = inl refl
zero_or_one (suc n) h = let none : n ≡ 0 = omega arith in inr (ap suc none)

nowhere_but_in_code : (f : Shape) (w : List ℕ) (first : ℕ) → (get_or (bits w) first 0 ≡ 1 → Offends f w (first_bit_fault first)) →
    (get_or (bits w) first 0 ≡ 0 → number_from (bits w) (first + 1) 12 ≡ 4095 → Offends f w (range_fault first)) →
    (get_or (bits w) first 0 ≡ 0 → number_from (bits w) (first + 1) 12 ≢ 4095 → OffendsNowhere f w) →
    (fault : FrameFault) → Refuses (show_frame 0) f w fault → ⊥
nowhere_but_in_code f w first bit range whole fault r = go (zero_or_one (get_or (bits w) first 0) (bit-below (bits w) first (AreBits-bits w)))
  where
    twelve : ℕ
    twelve = number_from (bits w) (first + 1) 12

    at_range : get_or (bits w) first 0 ≡ 0 → (twelve ≡ 4095) ⊎ ((twelve < 4095) ⊎ (4095 < twelve)) → ⊥
    at_range none (inl e) = only_of_code f w fault (range_fault first) (inr refl) (range none e) r
    at_range none (inr (inl l)) = whole none (λ e. omega (arith, l, e)) fault r.0
    at_range none (inr (inr l)) = whole none (λ e. omega (arith, l, e)) fault r.0

    go : (get_or (bits w) first 0 ≡ 0) ⊎ (get_or (bits w) first 0 ≡ 1) → ⊥
    go (inl e) = at_range e (cases_order twelve 4095)
    go (inr e) = only_of_code f w fault (first_bit_fault first) (inl refl) (bit e) r

-- a fault in front of the code refuses a frame that is shown
pub refuses_shown : (k : ℕ) (f : Shape) (read w : List ℕ) (fault : FrameFault) → read ≡ w → Offends f read fault → reason_number fault.reason ≤ 8 →
    Refuses (show_frame k) f w fault
refuses_shown k f read w fault same o early = (
  subst (λ w. Offends f w fault) same o,
  λ e. let number = ap reason_number e in omega (arith, early, number),
  λ e. let number = ap reason_number e in omega (arith, early, number),
)

-- what a view says of a frame that is shown
pub view_is_shown : (f : Shape) (k bytes : ℕ) (w line : List ℕ) (view : FrameView) → length w ≡ bytes → line ≡ report (view_line k bytes view ∷ []) →
    IfPlain (Ok view) (λ sound. IsPlain f w sound) → IfPlain (Ok view) (λ sound. OffendsNowhere f w) →
    IfCoded (Ok view) (λ params code. code.first ≤ 8 * length w) →
    IfCoded (Ok view) (λ params code. HasHeader f.channels params (take code.first (bits w))) →
    IfCoded (Ok view) (λ params code. get_or (bits w) code.first 0 ≡ 1 → Offends f w (first_bit_fault code.first)) →
    IfCoded (Ok view) (λ params code. get_or (bits w) code.first 0 ≡ 0 → number_from (bits w) (code.first + 1) 12 ≡ 4095 →
    Offends f w (range_fault code.first)) →
    IfCoded (Ok view) (λ params code. get_or (bits w) code.first 0 ≡ 0 → number_from (bits w) (code.first + 1) 12 ≢ 4095 → OffendsNowhere f w) →
    IsShown f k w line
view_is_shown f k bytes w line (Plain sound) long is plain nowhere inside header bit range whole = record {
  text = plain_frame_line k bytes;
  shows = inl (sound.now, plain, ap (plain_frame_line k) (sym long));
  not_refused = λ fault r. nowhere fault r.0;
  is = is;
}
view_is_shown f k bytes w line (Coded params code) long is plain nowhere inside header bit range whole =
    let count = length-bits w in
    let within : code.first ≤ length (bits w) = omega (arith, inside, count) in
    record {
      text = coded_frame_line k bytes (length params.filters) (length params.probs) code.first;
      shows = inr (params, code.first, within, header, ap (λ n. coded_frame_line k n (length params.filters) (length params.probs) code.first) (sym long));
      not_refused = nowhere_but_in_code f w code.first bit range whole;
      is = is;
    }
