-- The walk finds what the definitions find.
use Rattle.std.proofs.Common.{ap, sym, ◌∙◌, arith}
use Rattle.chunk_view.proofs.Walking.{all_from, all_goes, all_cuts, all_stops}
use Rattle.chunk_view.proofs.Tiling.{each_is_byte, whole_is_tiled, overrun_is_cut, overrun_is_untiled}
use Rattle.chunk_view.proofs.Moving.{whole_is_found, overruns_there}
use Rattle.chunk_view.proofs.split.split_chunks.Goals as goal

pub loop-place-preserved : goal.loop-place-preserved
loop-place-preserved c =
    let next = c.in-Some.ensures.next in
    record {
      within = c.in-Some.ensures.inside;
      same_fault =
          c.loop-place.invariant.same_fault
          ∙ ap (λ f. f.fault) (all_goes c.args.bytes.now c.loop-place.place (omega (arith, next, c.in-Some.ensures.inside)))
          ∙ ap (λ n. (all_from c.args.bytes.now n).fault) (sym next);
    }

pub returns-in_default-clause-untiled : goal.returns-in_default-clause-untiled
returns-in_default-clause-untiled c =
    let fault = c.loop-place.invariant.same_fault
    ∙ ap (λ f. f.fault) (all_cuts c.args.bytes.now c.loop-place.place c.loop-place-test.true c.in_default.ensures.passes) in
    λ chunks t. overrun_is_untiled c.args.bytes.now c.loop-place.place chunks fault t

pub returns-in_default-clause-cut : goal.returns-in_default-clause-cut
returns-in_default-clause-cut c =
    overrun_is_cut c.args.bytes.now c.loop-place.place (each_is_byte c.args.bytes.now c.type_inv.bytes)
    (c.loop-place.invariant.same_fault ∙ ap (λ f. f.fault) (all_cuts c.args.bytes.now c.loop-place.place c.loop-place-test.true c.in_default.ensures.passes))

pub returns-in_default-clause-overrun : goal.returns-in_default-clause-overrun
returns-in_default-clause-overrun c =
    overruns_there c.args.bytes.now c.loop-place.place
    (c.loop-place.invariant.same_fault ∙ ap (λ f. f.fault) (all_cuts c.args.bytes.now c.loop-place.place c.loop-place-test.true c.in_default.ensures.passes))

pub invariant_of-result : goal.invariant_of-result
invariant_of-result c =
    record {
      within = omega arith;
      whole = c.loop-place.invariant.same_fault
          ∙ ap (λ f. f.fault) (all_stops c.args.bytes.now c.loop-place.place c.loop-place-test.false);
    }

pub returns-clause-chunks : goal.returns-clause-chunks
returns-clause-chunks c =
    whole_is_tiled c.args.bytes.now (each_is_byte c.args.bytes.now c.type_inv.bytes)
    (c.loop-place.invariant.same_fault ∙ ap (λ f. f.fault) (all_stops c.args.bytes.now c.loop-place.place c.loop-place-test.false))

pub returns-clause-found : goal.returns-clause-found
returns-clause-found c =
    whole_is_found c.args.bytes.now
    (c.loop-place.invariant.same_fault ∙ ap (λ f. f.fault) (all_stops c.args.bytes.now c.loop-place.place c.loop-place-test.false))
