-- The filter of one channel more is looked at, and gives less than the greatest of all sums.
use Rattle.std.proofs.Common.{◌<◌, ap, arith, below_more}
use Rattle.dst_spec.specs.Guess.{filter_of}
use Rattle.byte_predictor.specs.Upward.{size_sum}
use Rattle.dst_frames.proofs.batch.are_narrow.Goals as goal

pub loop-c-preserved : goal.loop-c-preserved
loop-c-preserved c = λ k h.
    let P = c.args.params.now in
    let i = c.loop-c.c in
    let is = ap size_sum c.channel_filter.ensures in
    let here : size_sum (filter_of P i) < 32768 = omega (arith, c.filter_size.ensures, is) in
    below_more (λ m. size_sum (filter_of P m) < 32768) i c.loop-c.invariant here k h
