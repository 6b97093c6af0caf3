-- One channel more has its refined filter, and there are at most six.
use Rattle.std.proofs.Common.{ℕ, ℤ, List, [], ◌∷◌, ◌++◌, length, map, ap, sym, ◌∙◌, arith}
use Rattle.std.specs.List.{range_with_len}
use Rattle.std.proofs.lemmas.List.FromFn.{length-map-range_with_len, map-range_with_len_more}
use Rattle.level_spec.specs.Refining.{refined_from}
use Rattle.filter_analyser.proofs.refined.refine_each.Goals as goal

pub refine_alone-requires-clause-begun : goal.refine_alone-requires-clause-begun
refine_alone-requires-clause-begun c = c.loop-c.invariant.sound ∙ c.requires.begun

pub refine_alone-requires-clause-channels : goal.refine_alone-requires-clause-channels
refine_alone-requires-clause-channels c = c.loop-c.invariant.channels ∙ c.requires.channels

pub loop-c-preserved : goal.loop-c-preserved
loop-c-preserved c =
    let n = c.loop-c.c in
    let F : ℕ → List ℤ = λ k. (refined_from c.args.channels c.args.sound.now (k ∷ []) 6 c.args.first.now).best in
    record {
      sound = c.refine_alone.ensures.sound ∙ c.loop-c.invariant.sound;
      channels = c.refine_alone.ensures.channels ∙ c.loop-c.invariant.channels;
      own = c.push.ensures.items ∙ ap (λ xs. xs ++ c.refine_alone.result ∷ []) c.loop-c.invariant.own
          ∙ ap (λ x. map F (range_with_len 0 n) ++ x ∷ []) c.refine_alone.ensures.filter ∙ sym (map-range_with_len_more F 0 n n (omega arith));
    }

pub push-requires : goal.push-requires
push-requires c =
    let n = c.loop-c.c in
    let F : ℕ → List ℤ = λ k. (refined_from c.args.channels c.args.sound.now (k ∷ []) 6 c.args.first.now).best in
    let long = ap length c.loop-c.invariant.own ∙ length-map-range_with_len F 0 n in
    let few = c.count-c-end.ensures.shape.most in
    omega (arith, c.count-c-end.ensures.count)
