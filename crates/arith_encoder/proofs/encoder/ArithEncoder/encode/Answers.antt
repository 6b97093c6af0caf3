-- A block leaves where there are bits for it, and the part of the symbol is taken.
use Rattle.std.proofs.Common.{◌≡◌, ℕ, ◌+◌, ◌-◌, ◌*◌, ◌/◌, ◌%◌, ◌^◌, ◌≤◌, ◌<◌, Bool, List, refl, ap, sym, ◌∙◌, arith}
use Rattle.std.proofs.lemmas.Nat.{one_shl}
use Rattle.dst_spec.specs.Interval.{Interval}
use Rattle.dst_spec.proofs.Intervals.{interval-push}
use Rattle.arith_encoder.specs.Encoding.{Encoding}
use Rattle.arith_encoder.specs.Leaving.{Leaving}
use Rattle.arith_encoder.specs.Registers.{AreRegisters}
use Rattle.arith_encoder.specs.declared.encoder.ArithEncoder.TheInside.{Inside}
use Rattle.arith_encoder.proofs.Moving.{IsTaken, reached_of, leaves_below, left_by, taken}
use Rattle.arith_encoder.proofs.Narrowing.{IsNarrowed}
use Rattle.arith_encoder.proofs.encoder.ArithEncoder.encode.Goals as goal
use Rattle.arith_encoder.proofs.encoder.ArithEncoder.encode.Goals.{After-narrow-part, then-self-ge32, else-self-ge32}

abbrev RegistersOf : Inside → Type 0
RegistersOf i = AreRegisters i.held i.low i.count i.range i.left

abbrev ReachedOf : Inside → Interval
ReachedOf i = reached_of i.held i.low i.count i.range

-- the fields are those before, maybe with 32 bits left
record IsSame (i j : Inside) : Type 0 where
  before : j.held.before ≡ i.held.before
  room : j.held.room ≡ i.held.room
  reached : ReachedOf j ≡ ReachedOf i
  range : j.range ≡ i.range
  registers : RegistersOf j
  few : j.count < 32

-- where a block has left
some_left : (i j : Inside) (g : Leaving) → RegistersOf i → 32 ≤ i.count → g.number ≡ i.held.number * 2 ^ 32 + i.low / 2 ^ (i.count - 20) →
    g.count ≡ i.held.count + 32 →
    g.before ≡ i.held.before → g.room ≡ i.held.room →
    j ≡ record i { held = g; low = i.low % (1 * 2 ^ (i.count - 20) % 18446744073709551616); count = i.count - 32; left = i.left - 32 } → IsSame i j
some_left i j g r many number count before room is =
    let few = r.few in
    let one = one_shl (i.count - 20) 64 (omega arith) in
    let l = left_by i.held g i.low i.count i.range i.left r many number count room in
    rw (is, one) (record { before = before; room = room; reached = l.reached; range = refl; registers = l.registers; few = omega arith })

-- where none has
none_left : (i j : Inside) → RegistersOf i → i.count < 32 → j ≡ i → IsSame i j
none_left i j r few is = rw is (record { before = refl; room = refl; reached = refl; range = refl; registers = r; few = few })

-- the part of a symbol, of a probability that was read
with_prob : (range p q : ℕ) (symbol : Bool) (start after d : ℕ) → q ≡ p → IsNarrowed range q symbol start after d → IsNarrowed range p symbol start after d
with_prob range p q symbol start after d is n = rw (← is) n

abbrev made : List ℕ → ℕ → Interval → Encoding
made before room reached = record { before = before; room = room; reached = reached }

-- equal parts make equal encodings
same_encoding : (a b : List ℕ) (r s : ℕ) (i j : Interval) → a ≡ b → r ≡ s → i ≡ j → made a r i ≡ made b s j
same_encoding a b r s i j e f g = ap (λ x. made x r i) e ∙ ap (λ x. made b x i) f ∙ ap (λ x. made b s x) g

pub push-requires-clause-carry : goal.push-requires-clause-carry
push-requires-clause-carry c =
    let i = c.self.inside in
    leaves_below i.held i.low i.count i.range i.left c.self.invariant (omega arith)

-- ---- at the points of the body
-- with or without a block that leaves
moved : (c : After-narrow-part) → IsSame c.self.inside c.if-self-ge32.self-inside
moved c =
    let i = c.self.inside in
    let j = c.if-self-ge32.self-inside in
    elim c.if-self-ge32.branch [
      | then-self-ge32 w ↦ some_left i j w.push.new.self c.self.invariant w.if-self-ge32.true w.push.ensures.number w.push.ensures.count
          w.push.ensures.before w.push.ensures.room w.self-inside-is
      | else-self-ge32 w ↦ none_left i j c.self.invariant w.if-self-ge32.false w.self-inside-is
    ]

-- the point behind the part, seen from the end
abbrev joined : goal.After-self-4-1 → After-narrow-part
joined c = c.before.before.before.before.before.before.before

-- the symbol's part in the registers
abbrev TakenAt : After-narrow-part → Type 0
TakenAt c =
    let j = c.if-self-ge32.self-inside in
    let part = c.narrow-part.result in
    IsTaken j.held j.low j.count j.range j.left c.args.p c.args.symbol part.start part.range part.doublings

-- the narrowed interval has that part
took : (c : After-narrow-part) → TakenAt c
took c =
    let j = c.if-self-ge32.self-inside in
    let m = moved c in
    let part = c.narrow-part.result in
    let n = with_prob j.range c.args.p c.from.result c.args.symbol part.start part.range part.doublings (c.from.ensures ∙ c.value-2.ensures.value)
    (record {
      narrowed_is = c.narrow-part.ensures.narrowed;
      in_range = c.narrow-part.ensures.range;
      few = c.narrow-part.ensures.few;
      within = c.narrow-part.ensures.within;
    }) in
    taken j.held j.low j.count j.range j.left c.args.p c.args.symbol part.start part.range part.doublings
    c.value-2.ensures.least c.value-2.ensures.most m.registers m.few n

pub invariant_of-self : goal.invariant_of-self
invariant_of-self c = (moved c.before.before).registers

pub returns-then-count-self-clause-unchanged : goal.returns-then-count-self-clause-unchanged
returns-then-count-self-clause-unchanged c unchanged =
    let i = c.self.inside in
    let j = c.if-self-ge32.self-inside in
    let m = moved c.before.before in
    same_encoding j.held.before i.held.before j.held.room i.held.room (ReachedOf j) (ReachedOf i) m.before m.room m.reached ∙ c.self.view_is

pub overflow_add-self : goal.overflow_add-self
overflow_add-self c = omega (arith, (took c.before.before.before).sum_fits)

pub invariant_of-self-2 : goal.invariant_of-self-2
invariant_of-self-2 c = let t = took (joined c) in rw t.low_is (t.registers (omega (arith, c.if-count-self.false)))

pub returns-clause-reached : goal.returns-clause-reached
returns-clause-reached c done =
    let t = took (joined c) in
    rw (← c.self.view_is, t.low_is, ← (moved (joined c)).reached) (sym t.reached)

pub returns-clause-stands : goal.returns-clause-stands
returns-clause-stands c done pairs stands =
    let t = took (joined c) in
    let now = rw (← c.self.view_is) at stands in
    rw (t.low_is, ← t.reached, (moved (joined c)).reached, now) (sym (interval-push pairs c.args.symbol c.args.p))
