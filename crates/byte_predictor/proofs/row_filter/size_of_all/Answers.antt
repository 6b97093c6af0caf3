-- One coefficient's size more is at most 32,768, so the sum of them fits.
use Rattle.std.proofs.Common.{◌≡◌, ◌+◌, ◌≤◌, pos, nat_abs, get_or, take, arith}
use Rattle.std.proofs.lemmas.Int.{ints}
use Rattle.byte_predictor.specs.Upward.{size_sum}
use Rattle.byte_predictor.proofs.Upward.{size_sum-more, size_sum-none}
use Rattle.byte_predictor.proofs.row_filter.size_of_all.Goals as goal

pub loop-coef-init : goal.loop-coef-init
loop-coef-init c = (size_sum-none, omega arith)

pub loop-coef-preserved : goal.loop-coef-preserved
loop-coef-preserved c =
    let more : size_sum (take (c.loop-coef.coef-index + 1) c.args.coefs.now) ≡ size_sum (take c.loop-coef.coef-index c.args.coefs.now) + nat_abs
    (get_or c.args.coefs.now c.loop-coef.coef-index (pos 0)) = size_sum-more c.args.coefs.now c.loop-coef.coef-index (omega arith) in
    let value : c.unsigned_abs.result ≡ nat_abs (get_or c.args.coefs.now c.loop-coef.coef-index (pos 0)) = grind (arith, ints) in
    let bound : c.unsigned_abs.result ≤ 32768 = omega (arith, c.unsigned_abs.ensures.bound) in
    (omega arith, omega arith)
