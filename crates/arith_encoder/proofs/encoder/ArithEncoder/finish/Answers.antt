-- What is left is let go in one or two parts, with zeros behind it.
use Rattle.std.proofs.Common.{◌≡◌, ℕ, suc, ◌+◌, ◌-◌, ◌*◌, ◌/◌, ◌%◌, ◌^◌, ◌≤◌, ◌<◌, ◌++◌, Bool, List, replicate, length, refl, ap, ap₂, ◌∙◌, rules, arith}
use Rattle.std.proofs.lemmas.Nat.{one_shl, pow-add}
use Rattle.dst_spec.specs.Bits.{low_bits}
use Rattle.dst_spec.specs.Interval.{Interval, interval}
use Rattle.dst_spec.specs.Spell.{code_spelling}
use Rattle.bit_io.specs.Writing.{to_byte_end}
use Rattle.arith_encoder.specs.Leaving.{Leaving}
use Rattle.arith_encoder.specs.Registers.{AreRegisters}
use Rattle.arith_encoder.specs.declared.encoder.ArithEncoder.TheInside.{Inside}
use Rattle.arith_encoder.proofs.Moving.{reached_of, leaves_below, left_by}
use Rattle.arith_encoder.proofs.Spelling.{spelled}
use Rattle.arith_encoder.proofs.encoder.ArithEncoder.finish.Goals as goal
use Rattle.arith_encoder.proofs.encoder.ArithEncoder.finish.Goals.{then-count-ge32, else-count-ge32}

abbrev RegistersOf : Inside → Type 0
RegistersOf i = AreRegisters i.held i.low i.count i.range i.left

-- what is left to let go, maybe with 32 bits left before
record IsLast (i : Inside) (h : Leaving) (low count : ℕ) : Type 0 where
  before : h.before ≡ i.held.before
  reached : reached_of h low count i.range ≡ reached_of i.held i.low i.count i.range
  rest : ℕ
  registers : AreRegisters h low count i.range rest

-- where 32 bits were let go
some_left : (i : Inside) (h g : Leaving) (low count : ℕ) → RegistersOf i → 32 ≤ i.count → g.number ≡ i.held.number * 2 ^ 32 + i.low / 2 ^ (i.count - 20) →
    g.count ≡ i.held.count + 32 →
    g.before ≡ i.held.before → g.room ≡ i.held.room → h ≡ g → low ≡ i.low % (1 * 2 ^ (i.count - 20) % 18446744073709551616) → count ≡ i.count - 32 →
    IsLast i h low count
some_left i h g low count r many number more before room h_is low_is count_is =
    let few = r.few in
    let one = one_shl (i.count - 20) 64 (omega arith) in
    let l = left_by i.held g i.low i.count i.range i.left r many number more room in
    rw (h_is, low_is, count_is, one) (record { before = before; reached = l.reached; rest = i.left - 32; registers = l.registers })

-- where none were
none_left : (i : Inside) (h : Leaving) (low count : ℕ) → RegistersOf i → h ≡ i.held → low ≡ i.low → count ≡ i.count → IsLast i h low count
none_left i h low count r h_is low_is count_is =
    rw (h_is, low_is, count_is) (record { before = refl; reached = refl; rest = i.left; registers = r })

-- the low end is below a carry and all bits behind it
carry_fits : (h : Leaving) (low count range left : ℕ) → AreRegisters h low count range left → low < 2 * 2 ^ (12 + count)
carry_fits h low count range left r =
    let power = pow-add 2 12 count in
    let below = r.below in
    let least = r.in_range.least in
    omega arith

-- all bits of the code
whole : (before : List ℕ) (h : Leaving) (low count range left : ℕ) (pairs : List (Bool × ℕ)) → AreRegisters h low count range left →
    reached_of h low count range ≡ interval pairs →
    h.before ≡ before → h.before ++ low_bits (h.count + (12 + count)) (h.number * 2 ^ (12 + count) + low) ≡ before ++ code_spelling pairs
whole before h low count range left pairs r is front =
    let low_is : h.number * 2 ^ (12 + count) + low ≡ (interval pairs).low = ap low_of is in
    let count_is : h.count + count - 1 ≡ (interval pairs).doublings = ap doublings_of is in
    let some = r.some in
    let end = r.end in
    let least = r.in_range.least in
    let power = pow-add 2 12 (h.count + count - 1) in
    let long : h.count + (12 + count) ≡ suc (12 + (interval pairs).doublings) = omega arith in
    let below : h.number * 2 ^ (12 + count) + low < 2 ^ (12 + (h.count + count - 1)) = omega arith in
    ap₂ (λ a b. a ++ low_bits (h.count + (12 + count)) b) front low_is
    ∙ ap (λ b. before ++ b) (spelled pairs (h.count + (12 + count)) (rw (← low_is, ← count_is) below) long)
  where
    low_of : Interval → ℕ
    low_of i = i.low

    doublings_of : Interval → ℕ
    doublings_of i = i.doublings

pub push-requires-clause-carry : goal.push-requires-clause-carry
push-requires-clause-carry c =
    let i = c.self.inside in
    leaves_below i.held i.low i.count i.range i.left c.self.invariant (omega arith)

-- with or without 32 bits let go before
last : (c : goal.After-row_known-1) → IsLast c.self.inside c.if-count-ge32.held c.if-count-ge32.low c.if-count-ge32.count
last c =
    let i = c.self.inside in
    let r = c.self.invariant in
    let j = c.if-count-ge32 in
    elim j.branch [
      | then-count-ge32 w ↦ some_left i j.held w.push.new.self j.low j.count r w.if-count-ge32.true
          w.push.ensures.number w.push.ensures.count w.push.ensures.before w.push.ensures.room w.held-is w.low-is w.count-is
      | else-count-ge32 w ↦ none_left i j.held j.low j.count r w.held-is w.low-is w.count-is
    ]

pub finish-writer-requires-clause-carry : goal.finish-writer-requires-clause-carry
finish-writer-requires-clause-carry c =
    let j = c.if-count-ge32 in
    carry_fits j.held j.low j.count c.self.inside.range (last c).rest (last c).registers

pub returns-clause-bits : goal.returns-clause-bits
returns-clause-bits c pairs stands =
    let i = c.self.inside in
    let j = c.if-count-ge32 in
    let l = last (record { before = c.before.before.before; type_inv = record { count = search rules } }) in
    let now = rw (← c.self.view_is) at stands in
    let all = c.finish-writer.ensures.bits ∙ whole i.held.before j.held j.low j.count i.range l.rest pairs l.registers (l.reached ∙ now) l.before in
    rw (← c.self.view_is) (c.finish.ensures.zeros ∙ ap (λ xs. xs ++ replicate (to_byte_end (length xs)) 0) all)
