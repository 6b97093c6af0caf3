-- Where enough are left, the bits in front are those of the number, and behind them is the rest.
use Rattle.std.proofs.Common.{◌≤◌, ◌++◌, ℕ, List, length, drop, ap₂, sym, ◌∙◌, arith}
use Rattle.std.proofs.lemmas.List.{drop-drop}
use Rattle.dst_spec.specs.Bits.{bits, low_bits}
use Rattle.dst_spec.proofs.Numbers.{AreBits-bits}
use Rattle.dst_spec.proofs.Taking.{front-low_bits}
use Rattle.dst_spec.proofs.Lists.{AreBits-drop}
use Rattle.bit_io.proofs.Windows.{number_left}
use Rattle.bit_io.proofs.reader.BitReader.read.Goals as goal

pub returns-clause-first : goal.returns-clause-first
returns-clause-first c =
    let r = c.self.inside in
    rw (← c.self.view_is) (c.number_at-value.ensures.number ∙ sym (number_left (bits r.bytes.now) r.place c.args.n))

pub returns-clause-bits : goal.returns-clause-bits
returns-clause-bits c =
    let r = c.self.inside in
    let n = c.args.n in
    let all = bits r.bytes.now in
    let many = rw (← c.self.view_is) at c.left.ensures.left in
    let enough : n ≤ length (drop r.place all) = omega (arith, many, c.from.ensures, c.if-left-from.false) in
    let front = front-low_bits n (drop r.place all) enough (AreBits-drop r.place all (AreBits-bits r.bytes.now)) in
    let number = number_left all r.place n ∙ sym c.number_at-value.ensures.number in
    let join : ℕ → List ℕ → List ℕ = λ x ys. low_bits n x ++ ys in
    rw (← c.self.view_is, c.from-2.ensures) (front ∙ ap₂ join number (drop-drop n r.place all))
