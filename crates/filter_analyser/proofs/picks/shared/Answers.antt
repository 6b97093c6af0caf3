-- One filter and one table for all channels, and the parameters that are made of them.
use Rattle.std.proofs.Common.{◌≡◌, ◌^◌, ◌≤◌, List, ℤ, pos, nat_abs, true, replicate, get_or, sym, ◌∙◌, subst, arith}
use Rattle.std.proofs.lemmas.List.FromFn.{length-range_with_len}
use Rattle.dst_num.specs.Map.{params_of}
use Rattle.dst_spec.specs.Header.{IsParams}
use Rattle.level_spec.specs.Correlation.{correlations}
use Rattle.level_spec.specs.Picks.{channels_of, shared}
use Rattle.level_spec.proofs.Sizes.{are_correlations}
use Rattle.level_spec.proofs.Lawful.{IsParams-shared}
use Rattle.filter_analyser.proofs.Joining.{alone}
use Rattle.filter_analyser.proofs.Picking.{zeros_of, solution-small, filter-is, shared-is}
use Rattle.filter_analyser.proofs.picks.shared.Goals as goal

pub quantise-filter-requires-clause-values : goal.quantise-filter-requires-clause-values
quantise-filter-requires-clause-values c = λ k.
    let f = c.args.channels in
    let sound = c.args.predictions.now.sound in
    let long = length-range_with_len 0 f.channels in
    let least = c.requires.shape.least in
    let most = c.requires.shape.most in
    let corr = are_correlations f sound (channels_of f) c.requires.shape (omega arith) (omega arith) in
    let P : List ℤ → Type 0 = λ xs. nat_abs (get_or xs k (pos 0)) ≤ 2 ^ 40 in
    subst P (sym c.requires.solved) (solution-small (correlations f sound (channels_of f)) c.args.order k corr)

-- the parameters, with the one filter and the one table
shared-made : (c : goal.After-parameters-arg-2-1) →
    params_of (zeros_of c.args.channels) (zeros_of c.args.channels) (replicate c.args.channels.channels true) c.push-2.new.self.items c.push.new.self.items
    ≡ shared c.args.channels c.args.predictions.now.sound c.args.order
shared-made c =
    let f = c.args.channels in
    let sound = c.args.predictions.now.sound in
    shared-is f sound c.args.order c.quantise-filter.result c.joint_table.result c.push-2.new.self.items c.push.new.self.items c.requires.shape.most
    (alone _ _ _ c.push-2.ensures.items c.new-filters.ensures) (alone _ _ _ c.push.ensures.items c.new-probs.ensures)
    (c.quantise-filter.ensures ∙ filter-is f sound (channels_of f) c.args.order c.args.solved.now c.requires.solved) c.joint_table.ensures.table

pub parameters-requires : goal.parameters-requires
parameters-requires c = record {
  lawful = subst (IsParams c.args.channels.channels) (sym (shared-made c))
      (IsParams-shared c.args.channels c.args.predictions.now.sound c.args.order c.requires.shape.least c.requires.least c.requires.most);
}

pub returns-clause-params : goal.returns-clause-params
returns-clause-params c =
    c.parameters.ensures ∙ shared-made c.before
