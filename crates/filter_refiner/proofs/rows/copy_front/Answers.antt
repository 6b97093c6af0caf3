-- What is copied place by place is the front, as long as the values.
use Rattle.std.proofs.Common.{pos, length, take, length-take, ◌∙◌, arith}
use Rattle.std.proofs.lemmas.List.{ext_get_or, get_or-take}
use Rattle.filter_refiner.proofs.rows.copy_front.Goals as goal

pub returns : goal.returns
returns c =
    let n = length c.args.values.now in
    let front = length-take n c.loop-place.to in
    ext_get_or (pos 0) (take n c.loop-place.to) c.args.values.now (omega (arith, c.loop-place.invariant.long))
    (λ k h. get_or-take n c.loop-place.to k (pos 0) (omega (arith, c.loop-place.invariant.long, front))
    ∙ c.loop-place.invariant.copied k (omega (arith, c.loop-place.invariant.long, front)))
