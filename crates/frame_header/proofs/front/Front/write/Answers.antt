-- The number is cut into its high and its low bits, at most 32 of each, and both parts are written.
use Rattle.std.proofs.Common.{◌≡◌, ◌+◌, ◌-◌, ◌*◌, ◌/◌, ◌%◌, ◌^◌, ◌<◌, ◌++◌, length, ap, ap₂, sym, subst, ◌∙◌, arith, append_assoc}
use Rattle.std.proofs.lemmas.Nat.{one_shl}
use Rattle.dst_spec.specs.Bits.{low_bits}
use Rattle.dst_spec.proofs.Numbers.{length-low_bits}
use Rattle.frame_header.proofs.LowBits.{below-above}
use Rattle.frame_header.proofs.front.Front.write.Goals as goal
use Rattle.dst_spec.proofs.LowBits.{low_bits-split, low_bits-mod}

pub put-requires-clause-fits : goal.put-requires-clause-fits
put-requires-clause-fits c =
    let f = c.self.inside in
    let high = c.saturating_sub-high.result in
    let low = f.count - high in
    let sum : f.count ≡ high + low = omega (arith, c.saturating_sub-high.ensures) in
    below-above high low f.number (subst (λ n. f.number < 2 ^ n) sum c.self.invariant.1)

pub returns : goal.returns
returns c =
    let f = c.self.inside in
    let w = c.args.writer.now in
    let a = c.put.ensures in
    let b = c.put-2.ensures in
    let high = c.saturating_sub-high.result in
    let low = f.count - high in
    let sum : high + low ≡ f.count = omega (arith, c.saturating_sub-high.ensures) in
    let small : low < 64 = omega (arith, c.saturating_sub-high.ensures, c.self.invariant.0) in
    let long : length c.args.self.now ≡ high + low = sym (ap length c.self.view_is) ∙ length-low_bits f.count f.number ∙ sym sum in
    let first = a.written.1 (omega (arith, long, c.requires)) in
    let left = a.room first in
    let second = b.written.1 (omega (arith, long, left, c.requires)) in
    let one : 1 * 2 ^ low % 2 ^ 64 ≡ 2 ^ low = one_shl low 64 small in
    let rest : low_bits low (f.number % (1 * 2 ^ low % 2 ^ 64)) ≡ low_bits low f.number = ap (λ k. low_bits low (f.number % k)) one
    ∙ low_bits-mod low f.number in
    let whole : low_bits high (f.number / 2 ^ low) ++ low_bits low f.number ≡ c.args.self.now =
    sym (low_bits-split high low f.number) ∙ ap (λ n. low_bits n f.number) sum ∙ c.self.view_is in
    record {
      bits = b.bits second ∙ ap₂ (λ xs ys. xs ++ ys) (a.bits first) rest ∙ append_assoc w.bits (low_bits high (f.number / 2 ^ low)) (low_bits low f.number)
          ∙ ap (λ xs. w.bits ++ xs) whole;
      room = omega (arith, long, left, b.room second);
    }
