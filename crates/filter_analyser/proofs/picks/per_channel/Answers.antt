-- A filter and a table of its own for each channel, and the parameters that are made of them.
use Rattle.std.proofs.Common.{◌≡◌, ℕ, ◌+◌, ◌^◌, ◌<◌, ◌≤◌, List, ℤ, pos, nat_abs, [], ◌∷◌, ◌++◌, true, replicate, map, get_or, ap, sym, ◌∙◌, subst, arith}
use Rattle.std.specs.List.{range_with_len}
use Rattle.std.proofs.lemmas.List.FromFn.{map-range_with_len_more}
use Rattle.dst_num.specs.Map.{params_of}
use Rattle.dst_spec.specs.Header.{IsParams}
use Rattle.level_spec.specs.Correlation.{correlations}
use Rattle.level_spec.specs.Counts.{counted}
use Rattle.level_spec.specs.Picks.{filter_for, per_channel}
use Rattle.level_spec.proofs.Sizes.{are_correlations}
use Rattle.level_spec.proofs.Lawful.{IsParams-per_channel}
use Rattle.filter_analyser.proofs.Picking.{numbers_of, solution-small, filter-is, per_channel-is}
use Rattle.filter_analyser.proofs.picks.per_channel.Goals as goal

pub quantise-filter-requires-clause-values : goal.quantise-filter-requires-clause-values
quantise-filter-requires-clause-values c = λ k.
    let f = c.args.channels in
    let sound = c.args.predictions.now.sound in
    let inside : c.loop-c.c < f.channels = omega (arith, c.count-count.ensures.count) in
    let solved = c.requires.solved c.loop-c.c inside in
    let corr = are_correlations f sound (c.loop-c.c ∷ []) c.count-count.ensures.shape (omega arith) (omega arith) in
    let P : List ℤ → Type 0 = λ xs. nat_abs (get_or xs k (pos 0)) ≤ 2 ^ 40 in
    subst P (sym solved) (solution-small (correlations f sound (c.loop-c.c ∷ [])) c.args.order k corr)

pub loop-c-preserved : goal.loop-c-preserved
loop-c-preserved c =
    let f = c.args.channels in
    let sound = c.args.predictions.now.sound in
    let order = c.args.order in
    let n = c.loop-c.c in
    let inside : n < f.channels = omega (arith, c.count-count.ensures.count) in
    let F : ℕ → List ℤ = λ c. filter_for f sound order (c ∷ []) in
    let G : ℕ → List ℕ = λ c. counted f sound (c ∷ []) (F c) in
    let z : 0 + n ≡ n = omega arith in
    let filter : c.quantise-filter.result ≡ F n = c.quantise-filter.ensures
    ∙ filter-is f sound (n ∷ []) order (get_or c.args.solved.now n []) (c.requires.solved n inside) in
    let table : c.channel_table.result ≡ G n =
    c.channel_table.ensures.table ∙ ap (λ g. counted g c.loop-c.predictions.sound (n ∷ []) c.quantise-filter.result) c.loop-c.invariant.channels
    ∙ ap (λ s. counted f s (n ∷ []) c.quantise-filter.result) c.loop-c.invariant.sound ∙ ap (counted f sound (n ∷ [])) filter in
    record {
      sound = c.channel_table.ensures.sound ∙ c.loop-c.invariant.sound;
      channels = c.channel_table.ensures.channels ∙ c.loop-c.invariant.channels;
      filters =
          c.push-in-loop-c.ensures.items ∙ ap (λ xs. xs ++ c.quantise-filter.result ∷ []) c.loop-c.invariant.filters
          ∙ ap (λ x. map F (range_with_len 0 n) ++ x ∷ []) filter
          ∙ sym (map-range_with_len_more F 0 n n z);
      probs =
          c.push.ensures.items ∙ ap (λ xs. xs ++ c.channel_table.result ∷ []) c.loop-c.invariant.probs ∙ ap (λ x. map G (range_with_len 0 n) ++ x ∷ []) table
          ∙ sym (map-range_with_len_more G 0 n n z);
    }

-- the parameters, with each channel's own filter and table
channels-made : (c : goal.After-parameters-arg-2-1) →
    params_of (numbers_of c.args.channels) (numbers_of c.args.channels) (replicate c.args.channels.channels true) c.loop-c.filters.items c.loop-c.probs.items
    ≡ per_channel c.args.channels c.args.predictions.now.sound c.args.order
channels-made c =
    per_channel-is c.args.channels c.args.predictions.now.sound c.args.order c.loop-c.c c.loop-c.filters.items c.loop-c.probs.items
    c.count-count.ensures.shape.most (omega (arith, c.count-count.ensures.count)) c.loop-c.invariant.filters c.loop-c.invariant.probs

pub parameters-requires : goal.parameters-requires
parameters-requires c = record {
  lawful = subst (IsParams c.args.channels.channels) (sym (channels-made c))
      (IsParams-per_channel c.args.channels c.args.predictions.now.sound c.args.order c.requires.least c.requires.most);
}

pub returns-clause-params : goal.returns-clause-params
returns-clause-params c =
    c.parameters.ensures ∙ channels-made c.before
