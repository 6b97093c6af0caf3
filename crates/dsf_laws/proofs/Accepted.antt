-- What an accepted DSF file has: channels and a rate, few frames, numbers of their sizes.
use Rattle.std.proofs.Common.{◌≡◌, ◌⊎◌, inl, inr, ℕ, ◌+◌, ◌*◌, ◌/◌, ◌^◌, ◌<◌, ◌≤◌, Bool, true, false, List, length, refl, sym, ap}
use Rattle.std.proofs.Common.{◌∙◌, None, ltb-false, eqb-true}
use Rattle.std.specs.Prelude.{not, ◌||◌, ◌==◌}
use Rattle.byteorder.specs.Numbers.{little_from-lt}
use Rattle.dst_spec.specs.Bits.{AreBytes}
use Rattle.dsdiff_spec.specs.Bytes.{bytes_at, ◌is◌, ◌below◌, ◌above◌}
use Rattle.dsdiff_spec.specs.Faults.{◌when◌, ◌otherwise◌}
use Rattle.dsdiff_spec.specs.Form.{frames_for}
use Rattle.dsdiff_spec.specs.Origin.{outside}
use Rattle.dsdiff_spec.specs.Rules.{is_rate}
use Rattle.dsdiff_spec.specs.Dsf.{little_at, dsf_of, octets, bytes_of_blocks, dsf_fault}
use Rattle.dsdiff_spec.specs.declared.faults.FileFault.TheVariants.{Channels, Rate, TooManyFrames, Overrun, DsfForm, DsfFormat, DsfCount}
use Rattle.dsdiff_spec.proofs.Lawful.{first_gives_none, later_gives_none, when_not, left_is_false, right_is_false}
use Rattle.dsdiff_laws.proofs.Filed.{not_false}
use Rattle.dsdiff_laws.proofs.NumberBytes.{byte_below}

pub record IsAcceptedDsf (f : List ℕ) : Type 0 where
  pub least : 1 ≤ (dsf_of f).channels
  pub most : (dsf_of f).channels ≤ 6
  pub rate : ((dsf_of f).multiple ≡ 1) ⊎ ((dsf_of f).multiple ≡ 2) ⊎ ((dsf_of f).multiple ≡ 4)
  pub order : ((dsf_of f).bits ≡ 1) ⊎ ((dsf_of f).bits ≡ 8)
  pub few : frames_for (4704 * (dsf_of f).multiple) (octets (dsf_of f)) ≤ 1000000
  pub samples : (dsf_of f).samples < 2 ^ 64
  pub type : (dsf_of f).type < 2 ^ 32

either : (a b : ℕ) (x : ℕ) → (x == a || x == b) ≡ true → (x ≡ a) ⊎ (x ≡ b)
either a b x h = go (x == a) refl
  where
    second : (q : Bool) → (x == b) ≡ q → (false || q) ≡ true → (x ≡ a) ⊎ (x ≡ b)
    second true e k = inr (eqb-true x b e)
    second false e k = absurd cc

    go : (p : Bool) → (x == a) ≡ p → (x ≡ a) ⊎ (x ≡ b)
    go true e = inl (eqb-true x a e)
    go false e = second (x == b) refl (ap (λ p. p || x == b) (sym e) ∙ h)

multiple_of_rate : (r : ℕ) → is_rate r ≡ true → (r / 2822400 ≡ 1) ⊎ (r / 2822400 ≡ 2) ⊎ (r / 2822400 ≡ 4)
multiple_of_rate r h = go (r == 11289600) refl
  where
    go : (p : Bool) → (r == 11289600) ≡ p → (r / 2822400 ≡ 1) ⊎ (r / 2822400 ≡ 2) ⊎ (r / 2822400 ≡ 4)
    go true e = inr (inr (let same = eqb-true r 11289600 e in ap (λ n. n / 2822400) same))
    go false e = elim (either 2822400 5644800 r (no_more (r == 2822400 || r == 5644800) (ap (λ p. (r == 2822400 || r == 5644800) || p) (sym e) ∙ h))) [
      | inl a ↦ inl (ap (λ n. n / 2822400) a)
      | inr b ↦ inr (inl (ap (λ n. n / 2822400) b))
    ]
      where
        no_more : (a : Bool) → (a || false) ≡ true → a ≡ true
        no_more true k = refl
        no_more false k = absurd cc

pub accepted_dsf : (f : List ℕ) → AreBytes f → dsf_fault f ≡ None → IsAcceptedDsf f
unfolding dsf_fault
accepted_dsf f bytes none =
    let o = little_at f 60 4 == 1 || little_at f 60 4 == 8 in
    let layout = length f below 92 || not (bytes_at f 0 4 is "DSD ") || not (little_at f 4 8 == 28) || not (bytes_at f 28 4 is "fmt ")
    || not (little_at f 32 8 == 52) || not (bytes_at f 80 4 is "data") in
    let format = not (little_at f 40 4 == 1) || not (little_at f 44 4 == 0) || not o || not (little_at f 72 4 == 4096) in
    let r6 = Overrun 80 when 92 + bytes_of_blocks (dsf_of f) above length f in
    let r5 = DsfCount (little_at f 64 8) (little_at f 84 8) when little_at f 84 8 below 12 + bytes_of_blocks (dsf_of f) otherwise r6 in
    let r4 = TooManyFrames when frames_for (4704 * (dsf_of f).multiple) (octets (dsf_of f)) above 1000000 otherwise r5 in
    let r3 = Rate when not (is_rate (little_at f 56 4)) otherwise r4 in
    let r2 = Channels when outside 1 6 (little_at f 52 4) otherwise r3 in
    let r1 = DsfFormat when format otherwise r2 in
    let n1 = later_gives_none (DsfForm when layout) r1 none in
    let n2 = later_gives_none (DsfFormat when format) r2 n1 in
    let n3 = later_gives_none (Channels when outside 1 6 (little_at f 52 4)) r3 n2 in
    let n4 = later_gives_none (Rate when not (is_rate (little_at f 56 4))) r4 n3 in
    let is_format = when_not DsfFormat format (first_gives_none (DsfFormat when format) r2 n1) in
    let within = when_not Channels (outside 1 6 (little_at f 52 4)) (first_gives_none (Channels when outside 1 6 (little_at f 52 4)) r3 n2) in
    let rated = not_false _ (when_not Rate (not (is_rate (little_at f 56 4))) (first_gives_none (Rate when not (is_rate (little_at f 56 4))) r4 n3)) in
    let count = little_at f 52 4 in
    let ordered = right_is_false (not (little_at f 40 4 == 1) || not (little_at f 44 4 == 0)) (not o)
    (left_is_false (not (little_at f 40 4 == 1) || not (little_at f 44 4 == 0) || not o) (not (little_at f 72 4 == 4096)) is_format) in
    record {
      least = ltb-false count 1 (left_is_false (count below 1) (count above 6) within);
      most = ltb-false 6 count (right_is_false (count below 1) (count above 6) within);
      rate = multiple_of_rate (little_at f 56 4) rated;
      order = either 1 8 (little_at f 60 4) (not_false o ordered);
      few = ltb-false 1000000 (frames_for (4704 * (dsf_of f).multiple) (octets (dsf_of f)))
          (when_not TooManyFrames _ (first_gives_none (TooManyFrames when frames_for (4704 * (dsf_of f).multiple) (octets (dsf_of f)) above 1000000) r5 n4));
      samples = little_from-lt 64 8 f (byte_below f bytes);
      type = little_from-lt 48 4 f (byte_below f bytes);
    }
