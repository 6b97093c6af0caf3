-- The zeros of the value tell how many bits are ahead, and so where the used ones end.
use Rattle.std.proofs.Common.{◌≡◌, ap, ◌∙◌, arith}
use Rattle.std.specs.Int.{trailing_zeros, w64}
use Rattle.arith_lanes.specs.Lanes.{registers_at, value_of}
use Rattle.arith_lanes.proofs.Beginning.{reaches}
use Rattle.arith_lanes.proofs.lanes.ArithLanes.end.Goals as goal

pub overflow_sub-result : goal.overflow_sub-result
overflow_sub-result c =
    let r = reaches c.args.self.now c.args.n c.requires.code.0 c.requires.code.1 in
    let b : c.from-behind.result ≡ trailing_zeros w64 (value_of (registers_at c.args.self.now c.args.n)) =
    c.from-behind.ensures ∙ ap (trailing_zeros w64) c.value.ensures.value in
    omega arith

pub returns : goal.returns
returns c =
    let r = reaches c.args.self.now c.args.n c.requires.code.0 c.requires.code.1 in
    let b : c.from-behind.result ≡ trailing_zeros w64 (value_of (registers_at c.args.self.now c.args.n)) =
    c.from-behind.ensures ∙ ap (trailing_zeros w64) c.value.ensures.value in
    omega arith
