-- A probability is 1 to 128, so less 1 it fits the seven bits from which its chance is made.
use Rattle.std.proofs.Common.{◌≡◌, ◌+◌, ◌-◌, ◌%◌, ◌∙◌, subst, arith}
use Rattle.arith_lanes.specs.Chances.{IsChance}
use Rattle.dst_frames.proofs.batch.reserved_chance.Goals as goal

pub returns : goal.returns
returns c =
    let e = c.value.ensures in
    let is : (c.value.result - 1) % 128 + 1 ≡ c.value.result = omega (arith, e.value, e.least, e.most) in
    subst (λ p. IsChance p c.chance.result) (is ∙ e.value ∙ c.reserved_probability.ensures) c.chance.ensures.prob
