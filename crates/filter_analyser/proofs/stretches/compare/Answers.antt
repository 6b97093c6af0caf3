-- One stretch more is counted and moved; each count is at most 64 for each stretch, so that it fits.
use Rattle.std.proofs.Common.{◌≡◌, ◌+◌, ◌*◌, ◌%◌, length, ap, ◌∙◌, arith}
use Rattle.std.proofs.lemmas.List.{get_or-replicate}
use Rattle.filter_analyser.specs.Stretches.{bit_of, late, tally, differing}
use Rattle.filter_analyser.proofs.Compared.{compared-none, compared-few, compared-more}
use Rattle.filter_analyser.proofs.stretches.compare.Goals as goal

pub loop-place-init : goal.loop-place-init
loop-place-init c = compared-none _ _ _ (λ j h. get_or-replicate 8 j 0 0 h)

pub count_stretch-requires : goal.count_stretch-requires
count_stretch-requires c = λ j h. omega (arith, compared-few _ _ _ _ _ _ j c.loop-place.invariant h)

pub loop-place-preserved : goal.loop-place-preserved
loop-place-preserved c = compared-more _ _ _ _ _ _ _ _ c.loop-place.invariant (omega arith) c.count_stretch.ensures c.moved.ensures

pub returns-clause-counts : goal.returns-clause-counts
unfolding differing
returns-clause-counts c = λ j h. c.loop-place.invariant.counted j h
    ∙ (let e : 64 * c.loop-place.place ≡ 64 * length c.args.stretches.now =
    omega arith in ap (λ n. tally (λ t. (bit_of c.args.stretches.now t + late c.args.behind.now (j + 1) t) % 2) 0 n) e)
