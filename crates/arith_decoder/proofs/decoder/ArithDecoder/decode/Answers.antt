-- Doubled, and refilled where bits are missing, the registers make one step, by the part and factor from the table.
use Rattle.std.proofs.Common.{◌≡◌, ◌+◌, ◌-◌, ◌*◌, ◌/◌, ◌^◌, ◌≤◌, ◌<◌, ℕ, Bool, List, [], ◌∷◌, ◌++◌, ◌%◌, get_or, refl, ap, subst, sym, ◌∙◌, arith}
use Rattle.std.specs.Int.{trailing_zeros, w64}
use Rattle.dst_spec.specs.Bits.{bits}
use Rattle.dst_spec.proofs.Numbers.{AreBits-bits}
use Rattle.arith_decoder.specs.Decoding.{Decoding, StandsFor}
use Rattle.arith_decoder.specs.Registers.{IsValue, IsStep, IsCut, AreRegisters, IsRow, due, value_below}
use Rattle.arith_decoder.specs.declared.decoder.ArithDecoder.TheInside.{Inside}
use Rattle.arith_decoder.proofs.Steps.{step_fits}
use Rattle.arith_decoder.proofs.Tables.{bounds_of, scale_of_range}
use Rattle.arith_decoder.proofs.Gaps.{value_below-due, within-due, some_low, low_gap}
use Rattle.arith_decoder.proofs.Ready.{IsReady, ready_as_it_is, ready_refilled, behind}
use Rattle.arith_decoder.proofs.decoder.ArithDecoder.decode.Goals as goal
use Rattle.arith_decoder.proofs.decoder.ArithDecoder.decode.Goals.{then-gap-eq0, else-gap-eq0}
use Rattle.arith_core.specs.Range.{IsRange}

abbrev range_of : Inside → ℕ
range_of i = due i.range i.range

abbrev value_of : Inside → ℕ
value_of i = due i.range (value_below i.range i.gap)

abbrev used_of : Inside → ℕ
used_of i = i.place + trailing_zeros w64 (value_of i) - 51 - i.first

-- what a decoder keeps
record AreHeld (i : Inside) : Type 0 where
  registers : AreRegisters i.bytes.now i.first (used_of i) i.place (value_of i) (range_of i)
  within : i.gap ≤ i.range * 2 ^ 52

-- The fields are those before, doubled, maybe with more bits of the code in the value.
record IsFilled (i j : Inside) (gap : ℕ) : Type 0 where
  bytes : j.bytes ≡ i.bytes
  first : j.first ≡ i.first
  within : gap ≤ range_of i * 2 ^ 52
  some : 0 < gap % 2 ^ 52
  offset : value_below (range_of i) gap / 2 ^ 52 ≡ value_of i / 2 ^ 52
  ready : IsReady i.bytes.now i.first (used_of i) j.place (value_below (range_of i) gap) (range_of i)

-- the value of the doubled registers
holds_doubled : (i : Inside) → AreHeld i →
    IsValue (bits i.bytes.now) (i.first + used_of i) i.place (value_below (range_of i) (due i.range i.gap) / 2 ^ 52)
    (value_below (range_of i) (due i.range i.gap))
holds_doubled i k = rw (value_below-due i.range i.gap) k.registers.holds

abbrev Refills : Inside → ℕ → ℕ → Type 0
Refills i gap more = (range start : ℕ) → range ≤ 4095 → gap ≤ range * 2 ^ 52 →
    IsValue (bits i.bytes.now) start i.place (value_below range gap / 2 ^ 52) (value_below range gap)
    → (more ≤ range * 2 ^ 52) × IsValue (bits i.bytes.now) start (i.place + 32) (value_below range gap / 2 ^ 52) (value_below range more)

filled_up : (i j : Inside) (gap doubled more : ℕ) → AreHeld i → doubled ≡ due i.range i.gap → Refills i doubled more → gap ≡ more →
    j ≡ record i { place = i.place + 32 } → IsFilled i j gap
filled_up i j gap doubled more k same refills gap_is is =
    let here : Refills i (due i.range i.gap) more = subst (λ x. Refills i x more) same refills in
    let all = here (range_of i) (i.first + used_of i) k.registers.in_range.most (within-due i.range i.gap k.within) (holds_doubled i k) in
    let v : IsValue (bits i.bytes.now) (i.first + used_of i) (i.place + 32) (value_of i / 2 ^ 52) (value_below (range_of i) more) =
    rw (value_below-due i.range i.gap) at all.1 in
    let ready = ready_refilled i.bytes.now i.first (used_of i) i.place (value_of i) (range_of i) (value_below (range_of i) more) k.registers v in
    rw (is, gap_is) (record {
      bytes = refl;
      first = refl;
      within = all.0;
      some = some_low (bits i.bytes.now) (i.first + used_of i) (i.place + 32) (range_of i) (value_of i / 2 ^ 52) more (AreBits-bits i.bytes.now) all.0 v;
      offset = ready.0;
      ready = ready.1;
    })

filled_before : (i j : Inside) (gap : ℕ) → AreHeld i → (gap % 4294967296 ≡ 0 → ⊥) → gap ≡ due i.range i.gap → j ≡ i → IsFilled i j gap
filled_before i j gap k some same is =
    let within = within-due i.range i.gap k.within in
    let v = holds_doubled i k in
    let value = value_below-due i.range i.gap in
    let not_low : value_of i % 4294967296 ≡ 0 → ⊥ = λ e. some (ap (λ x. x % 4294967296) same
    ∙ low_gap (range_of i) (due i.range i.gap) within (ap (λ x. x % 4294967296) value ∙ e)) in
    let ready = ready_as_it_is i.bytes.now i.first (used_of i) i.place (value_of i) (range_of i) k.registers not_low in
    rw (is, same) (record {
      bytes = refl;
      first = refl;
      within = within;
      some = some_low (bits i.bytes.now) (i.first + used_of i) i.place (range_of i) (value_below (range_of i) (due i.range i.gap) / 2 ^ 52)
          (due i.range i.gap) (AreBits-bits i.bytes.now) within v;
      offset = ap (λ x. x / 2 ^ 52) value;
      ready = rw value ready;
    })

abbrev view_of : Inside → Decoding
view_of i = record { bytes = i.bytes.now; first = i.first; range = range_of i; offset = value_of i / 2 ^ 52; used = used_of i }

abbrev after : Inside → ℕ → ℕ → Inside
after j gap range = record j { gap = gap; range = range }

-- what a step makes of the fields
record Made (i j : Inside) (p : ℕ) (symbol : Bool) (gap range : ℕ) : Type 0 where
  registers : AreRegisters j.bytes.now j.first (used_of (after j gap range)) j.place (value_of (after j gap range)) (range_of (after j gap range))
  stands : (pairs : List (Bool × ℕ)) → StandsFor (view_of i) pairs → StandsFor (view_of (after j gap range)) (pairs ++ (symbol, p) ∷ [])
  used : used_of (after j gap range) ≤ used_of i + 8

made : (i j : Inside) (filled p : ℕ) (symbol : Bool) (gap range : ℕ) → AreHeld i → IsFilled i j filled → used_of i ≤ 2 ^ 40 →
    IsStep p (value_below (range_of i) filled) (range_of i) symbol (due range (value_below range gap)) (due range range) → Made i j p symbol gap range
made i j filled p symbol gap range k f small s =
    let r = k.registers in
    let value = value_below (range_of i) filled in
    let b = behind i.bytes.now i.first (used_of i) j.place value (range_of i) p symbol (due range (value_below range gap))
    (due range range) r.short r.early r.some small
    (step_fits p value (range_of i) symbol (due range (value_below range gap)) (due range range) s) r.in_range f.ready s in
    let few = b.few in
    let is = b.used_is in
    rw (f.bytes, f.first) (record {
      registers = b.registers;
      stands = λ pairs st. b.stands pairs (rw f.offset st);
      used = omega arith;
    })

cut_at : (range p q : ℕ) (row : List ℕ) → IsRow q row → q ≡ p → IsRange (due range range) → (part factor : ℕ) →
    part ≡ get_or row (range / 64 * 128) 0 → factor ≡ get_or row 0 0 → IsCut p (due range range) part factor
cut_at range p q row are same r part factor part_is factor_is =
    let bounds = bounds_of range r in
    rw (part_is, factor_is, ← same) (record {
      part_is = are.part (range / 64) (omega (arith, bounds.0)) (omega (arith, bounds.1)) ∙ ap (λ s. s * q) (sym (scale_of_range range));
      factor_is = are.factor;
    })

-- ---- at the points of the body
held : (c : goal.Joined-gap-eq0) → AreHeld c.self.inside
held c = record { registers = c.self.invariant.registers; within = c.self.invariant.within }

filled : (c : goal.Joined-gap-eq0) → IsFilled c.self.inside c.if-gap-eq0.self-inside c.if-gap-eq0.gap
filled c =
    let i = c.self.inside in
    let j = c.if-gap-eq0.self-inside in
    elim c.if-gap-eq0.branch [
      | then-gap-eq0 w ↦ filled_up i j _ c.doubled-gap.result.0 w.refilled-gap.result (held c) c.doubled-gap.ensures.gap w.refilled-gap.ensures
          w.gap-is w.self-inside-is
      | else-gap-eq0 w ↦ filled_before i j _ (held c) (rw w.gap-is w.if-gap-eq0.false) (w.gap-is ∙ c.doubled-gap.ensures.gap) w.self-inside-is
    ]

cut : (c : goal.Joined-gap-eq0) → IsCut c.args.p (range_of c.self.inside) c.from-part.result c.from-factor.result
cut c =
    cut_at c.self.inside.range c.args.p c.value.result c.row-row.result.now c.row-row.ensures c.value.ensures.value c.self.invariant.registers.in_range
    c.from-part.result c.from-factor.result c.from-part.ensures c.from-factor.ensures

-- where the ways join again, in front of the step
abbrev joined : goal.After-self-3-1 → goal.Joined-gap-eq0
joined c = c.before.before.before

behind_step : (c : goal.After-self-3-1) →
    Made c.self.inside c.if-gap-eq0.self-inside c.args.p c.step-gap.result.2 c.step-gap.result.0 c.step-gap.result.1
behind_step c =
    let small = rw (← c.self.view_is) at c.requires.early in
    let s = c.step-gap.ensures.step c.args.p c.value.ensures.least c.value.ensures.most (rw c.doubled-gap.ensures.range (cut (joined c))) in
    made c.self.inside c.if-gap-eq0.self-inside c.if-gap-eq0.gap c.args.p c.step-gap.result.2 c.step-gap.result.0 c.step-gap.result.1
    (held (joined c)) (filled (joined c)) small (rw c.doubled-gap.ensures.range at s)

pub refilled-gap-requires-clause-held : goal.refilled-gap-requires-clause-held
refilled-gap-requires-clause-held c =
    let i = c.self.inside in
    let r = c.self.invariant.registers in
    let k : AreHeld i = record { registers = r; within = c.self.invariant.within } in
    rw c.doubled-gap.ensures.gap (range_of i, i.first + used_of i, r.in_range.most, within-due i.range i.gap k.within, holds_doubled i k)

pub step-gap-requires-clause-within : goal.step-gap-requires-clause-within
step-gap-requires-clause-within c = rw c.doubled-gap.ensures.range (filled c).within

pub step-gap-requires-clause-some : goal.step-gap-requires-clause-some
step-gap-requires-clause-some c = (filled c).some

pub step-gap-requires-clause-cut : goal.step-gap-requires-clause-cut
step-gap-requires-clause-cut c = (c.args.p, c.value.ensures.least, c.value.ensures.most, rw c.doubled-gap.ensures.range (cut c))

pub invariant_of-self : goal.invariant_of-self
invariant_of-self c = record { registers = (behind_step c).registers; within = c.step-gap.ensures.within }

pub returns-clause-stands : goal.returns-clause-stands
returns-clause-stands c = rw (← c.self.view_is) (behind_step c).stands

pub returns-clause-used : goal.returns-clause-used
returns-clause-used c = rw (← c.self.view_is) (behind_step c).used
