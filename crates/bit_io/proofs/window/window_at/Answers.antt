-- Eight bytes at once, or byte by byte near the end, where each one comes behind the number so far, within 64 bits.
use Rattle.std.proofs.Common.{◌≡◌, ◌+◌, ◌*◌, refl, ap, sym, ◌∙◌, arith}
use Rattle.std.proofs.Math.Pow.{pow_mono}
use Rattle.dst_spec.specs.Bits.{bits, number_from}
use Rattle.dst_spec.proofs.Numbers.{AreBits-bits, number_from-below}
use Rattle.bit_io.proofs.Windows.{number_of_eight, number_of_bytes-more}
use Rattle.bit_io.proofs.window.window_at.Goals as goal

pub returns-then-first-bytes : goal.returns-then-first-bytes
returns-then-first-bytes c =
    let whole = number_of_eight c.args.bytes.now c.args.first (λ j. omega (arith, c.type_inv.bytes j)) in
    record { number = c.from_be_bytes.ensures ∙ sym whole }

pub loop-k-init : goal.loop-k-init
unfolding number_from
loop-k-init c = refl

pub overflow_mul-window : goal.overflow_mul-window
overflow_mul-window c =
    let below = number_from-below (bits c.args.bytes.now) (8 * c.args.first) (8 * c.loop-k.k) (AreBits-bits c.args.bytes.now) in
    let p = pow_mono {i = 8 * c.loop-k.k} {j = 56} (omega arith) in
    omega (arith, c.loop-k.invariant)

pub overflow_add-window : goal.overflow_add-window
overflow_add-window c =
    let below = number_from-below (bits c.args.bytes.now) (8 * c.args.first) (8 * c.loop-k.k) (AreBits-bits c.args.bytes.now) in
    let p = pow_mono {i = 8 * c.loop-k.k} {j = 56} (omega arith) in
    omega (arith, c.loop-k.invariant)

pub loop-k-preserved : goal.loop-k-preserved
loop-k-preserved c =
    let all = bits c.args.bytes.now in
    let more = number_of_bytes-more c.args.bytes.now c.args.first c.loop-k.k in
    let count : 8 * (c.loop-k.k + 1) ≡ 8 * c.loop-k.k + 8 = omega arith in
    let next : c.loop-k.window * 256 + c.from.result ≡ number_from all (8 * c.args.first) (8 * c.loop-k.k + 8) =
    omega (arith, more, c.loop-k.invariant, c.from.ensures, c.byte_or_zero.ensures, c.byte_or_zero.type_inv) in
    next ∙ ap (number_from all (8 * c.args.first)) (sym count)
