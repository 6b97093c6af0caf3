-- The number is moved up past the new bits, so both don't overlap, and together they are the longer row of bits.
use Rattle.std.proofs.Common.{◌≡◌, ◌+◌, ◌*◌, ◌%◌, ◌^◌, ◌≤◌, length, bit_or, arith, ap, sym, ◌∙◌, ◌++◌}
use Rattle.std.proofs.lemmas.Nat.{shl_whole, or_shifted}
use Rattle.dst_spec.specs.Bits.{low_bits}
use Rattle.dst_spec.proofs.Numbers.{length-low_bits}
use Rattle.frame_header.proofs.LowBits.{below-behind}
use Rattle.frame_header.proofs.front.Front.put.Goals as goal
use Rattle.dst_spec.proofs.LowBits.{low_bits-join}

room : (c : goal.After-self-2-1) → c.self.inside.count + c.args.n ≤ 60
room c =
    let f = c.self.inside in
    let long : f.count ≡ length c.args.self.now = sym (length-low_bits f.count f.number) ∙ ap length c.self.view_is in
    omega (arith, long, c.requires.room)

joined : (c : goal.After-self-2-1) → bit_or (c.self.inside.number * 2 ^ c.args.n % 18446744073709551616) c.from.result
    ≡ c.self.inside.number * 2 ^ c.args.n + c.args.value
joined c =
    let f = c.self.inside in
    let most : f.count + c.args.n ≤ 64 = omega (arith, room c) in
    rw (shl_whole f.number f.count c.args.n 64 c.self.invariant.1 most, c.from.ensures) (or_shifted f.number c.args.n c.args.value c.requires.fits)

pub invariant_of-self : goal.invariant_of-self
invariant_of-self c =
    let f = c.self.inside in
    (room c, rw (joined c) (below-behind f.count c.args.n f.number c.args.value c.self.invariant.1 c.requires.fits))

pub returns-clause-bits : goal.returns-clause-bits
returns-clause-bits c =
    let f = c.self.inside in
    ap (low_bits (f.count + c.args.n)) (joined c) ∙ low_bits-join f.count c.args.n f.number c.args.value c.requires.fits
    ∙ ap (λ xs. xs ++ low_bits c.args.n c.args.value) c.self.view_is

pub returns-clause-length : goal.returns-clause-length
returns-clause-length c =
    let f = c.self.inside in
    length-low_bits (f.count + c.args.n) (bit_or (f.number * 2 ^ c.args.n % 18446744073709551616) c.from.result)
    ∙ ap (λ k. k + c.args.n) (sym (length-low_bits f.count f.number) ∙ ap length c.self.view_is)
