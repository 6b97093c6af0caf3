-- At most seven bits of a window of 64 are skipped, so the 32 at most that are wanted lie in it.
use Rattle.std.proofs.Common.{◌≡◌, ◌+◌, ◌-◌, ◌*◌, ◌/◌, ◌%◌, ◌^◌, refl, ap, ◌∙◌, arith}
use Rattle.std.proofs.Math.Pow.{pow_mono}
use Rattle.std.proofs.lemmas.Nat.{one_shl, pow_pos, mod_below}
use Rattle.dst_spec.specs.Bits.{bits, number_from}
use Rattle.bit_io.proofs.Windows.{number_within}
use Rattle.bit_io.proofs.window.number_at.Goals as goal

pub returns-then-n-eq0-clause-number : goal.returns-then-n-eq0-clause-number
unfolding number_from
returns-then-n-eq0-clause-number c = rw c.if-n-eq0.true refl

pub overflow_cast-result-3 : goal.overflow_cast-result-3
overflow_cast-result-3 c =
    let one = one_shl c.args.n 64 (omega (arith, c.requires.most)) in
    let below = mod_below (c.window_at-window.result / 2 ^ (64 - c.args.place % 8 - c.args.n)) (2 ^ c.args.n) (pow_pos c.args.n) in
    let most = pow_mono {i = c.args.n} {j = 32} c.requires.most in
    rw one (omega (arith, below, most))

pub returns-clause-number : goal.returns-clause-number
returns-clause-number c =
    let n = c.args.n in
    let skipped = c.args.place % 8 in
    let behind = 64 - skipped - n in
    let all = bits c.args.bytes.now in
    let start = 8 * (c.args.place / 8) in
    let one = one_shl n 64 (omega (arith, c.requires.most)) in
    let whole : 64 ≡ skipped + n + behind = omega (arith, c.requires.most) in
    let place : start + skipped ≡ c.args.place = omega arith in
    rw one (ap (λ w. w / 2 ^ behind % 2 ^ n) (c.window_at-window.ensures.number ∙ ap (number_from all start) whole)
    ∙ number_within c.args.bytes.now start skipped n behind
    ∙ ap (λ p. number_from all p n) place)
