-- The sum is twice what is added upward less the size, and these are small enough for 32 bits.
use Rattle.std.proofs.Common.{◌≤◌, ◌≡◌, ◌*◌, ◌-ℤ◌, pos, arith}
use Rattle.std.proofs.lemmas.Int.{ints}
use Rattle.byte_predictor.specs.Samples.{signed_sum}
use Rattle.byte_predictor.specs.Upward.{upward_sum, size_sum, twice_ones}
use Rattle.byte_predictor.proofs.row_filter.RowFilter.prediction.Goals as goal

pub returns-clause-plain : goal.returns-clause-plain
returns-clause-plain c = λ samples h e.
    let is : c.size-size.result ≡ size_sum c.args.self.now = c.size-size.ensures.size in
    let most : c.size-size.result ≤ 32768 = c.size-size.ensures.most in
    let signed : signed_sum c.args.self.now samples ≡ pos (2 * upward_sum c.args.self.now samples) -ℤ pos (size_sum c.args.self.now) =
    c.size-size.ensures.signed samples h in
    omega (arith, ints)

pub returns-clause-ones : goal.returns-clause-ones
returns-clause-ones c = λ samples h e.
    let is : c.size-size.result ≡ size_sum c.args.self.now = c.size-size.ensures.size in
    let most : c.size-size.result ≤ 32768 = c.size-size.ensures.most in
    let ones : pos (2 * upward_sum c.args.self.now samples) -ℤ pos (size_sum c.args.self.now) ≡ twice_ones c.args.self.now samples =
    c.size-size.ensures.ones samples h in
    omega (arith, ints)
