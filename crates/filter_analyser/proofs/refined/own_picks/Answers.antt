-- Each channel's own table goes into the table list, and the parameters that are made of them are those wanted.
use Rattle.std.proofs.Common.{◌≡◌, ℕ, ◌+◌, ◌<◌, ◌==◌, List, ℤ, [], ◌∷◌, ◌++◌, true, length, map, replicate, ap, sym, ◌∙◌, subst, arith}
use Rattle.std.proofs.lemmas.List.FromFn.{length-map-range_with_len, map-range_with_len_more}
use Rattle.std.specs.List.{range_with_len}
use Rattle.dst_num.specs.Map.{params_of}
use Rattle.dst_spec.specs.Header.{IsParams}
use Rattle.level_spec.specs.Counts.{count_from}
use Rattle.level_spec.specs.Refining.{short_table}
use Rattle.level_spec.specs.Picks.{refined_alone, refined_own}
use Rattle.level_spec.proofs.RefinedPicks.{IsParams-refined_own}
use Rattle.frame_predictions.specs.Codes.{code_at}
use Rattle.filter_analyser.proofs.Picking.{numbers_of}
use Rattle.filter_analyser.proofs.Joining.{short-is, refined_own-is, each-long, each-at}
use Rattle.filter_analyser.proofs.refined.own_picks.Goals as goal

pub bounds-own-c : goal.bounds-own-c
bounds-own-c c =
    let long = each-long c.args.channels c.args.predictions.now.sound c.args.own.now c.requires.own in
    omega (arith, c.count-c-end.ensures.count)

pub push-requires : goal.push-requires
push-requires c =
    let f = c.args.channels in
    let G : ℕ → List ℕ = λ k. short_table f c.args.predictions.now.sound (k ∷ []) (refined_alone f c.args.predictions.now.sound k) in
    let long = ap length c.loop-c.invariant.probs ∙ length-map-range_with_len G 0 c.loop-c.c in
    let few = c.count-c-end.ensures.shape.most in
    omega (arith, c.count-c-end.ensures.count)

pub loop-c-preserved : goal.loop-c-preserved
loop-c-preserved c =
    let f = c.args.channels in
    let sound = c.args.predictions.now.sound in
    let n = c.loop-c.c in
    let G : ℕ → List ℕ = λ k. short_table f sound (k ∷ []) (refined_alone f sound k) in
    let z : 0 + n ≡ n = omega arith in
    let inside : n < f.channels = omega (arith, c.count-c-end.ensures.count) in
    let filter : List ℤ = c.index-own-c.result in
    let table : c.short_table.result ≡ G n =
    c.short_table.ensures ∙ short-is f sound (n ∷ []) filter c.count_members.result (λ q h. c.count_members.ensures.counts q h
    ∙ ap (λ s. count_from (length filter) f (λ c t. code_at f s c filter t == q) (n ∷ [])) c.loop-c.invariant.sound)
    ∙ ap (short_table f sound (n ∷ [])) (c.index-own-c.is ∙ each-at f sound c.args.own.now n filter c.requires.own inside) in
    record {
      sound = c.count_members.ensures.sound ∙ c.loop-c.invariant.sound;
      channels = c.count_members.ensures.channels ∙ c.loop-c.invariant.channels;
      probs =
          c.push.ensures.items ∙ ap (λ xs. xs ++ c.short_table.result ∷ []) c.loop-c.invariant.probs ∙ ap (λ x. map G (range_with_len 0 n) ++ x ∷ []) table
          ∙ sym (map-range_with_len_more G 0 n n z);
    }

pub copies-requires : goal.copies-requires
copies-requires c =
    let long = each-long c.args.channels c.args.predictions.now.sound c.args.own.now c.requires.own in
    let few = c.count-c-end.ensures.shape.most in
    omega arith

-- the parameters, with each channel's own filter and table
own-is : (c : goal.After-copies) →
    params_of (numbers_of c.args.channels) (numbers_of c.args.channels) (replicate c.args.channels.channels true) c.copies.result.items c.loop-c.probs.items
    ≡ refined_own c.args.channels c.args.predictions.now.sound
own-is c =
    refined_own-is c.args.channels c.args.predictions.now.sound c.loop-c.c c.copies.result.items c.loop-c.probs.items c.count-c-end.ensures.shape.most
    (omega (arith, c.count-c-end.ensures.count)) (c.copies.ensures ∙ c.requires.own) c.loop-c.invariant.probs

pub parameters-requires : goal.parameters-requires
parameters-requires c = record {
  lawful = subst (IsParams c.args.channels.channels) (sym (own-is c)) (IsParams-refined_own c.args.channels c.args.predictions.now.sound);
}

pub returns-clause-params : goal.returns-clause-params
returns-clause-params c =
    c.parameters.ensures ∙ own-is c.before
