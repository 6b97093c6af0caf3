-- Fewer than 1,000,000 frames are decoded, so one more can be counted.
use Rattle.std.proofs.Common.{◌≡◌, ◌<◌, Some, sym, ◌∙◌, subst, arith}
use Rattle.dst_pipes.specs.declared.work.Work.{Work}
use Rattle.dst_pipes.proofs.steps.write_sound.Goals as goal

pub overflow_add-work : goal.overflow_add-work
overflow_add-work g c =
    let r = c.requires.some in
    let both : Some c.in-Some.work ≡ Some r.0 = sym c.in-Some.is ∙ r.1 in
    let same : c.in-Some.work ≡ r.0 = cc in
    let lt : c.in-Some.work.decoded < 1000000 = subst (λ (m : Work). m.decoded < 1000000) (sym same) r.2 in
    omega (arith, lt)
