-- The parameters have one filter and its short table over all channels, and are as lawful as the definition's.
use Rattle.std.proofs.Common.{[], ◌∷◌, ap, sym, ◌∙◌, subst}
use Rattle.dst_spec.specs.Header.{IsParams}
use Rattle.level_spec.proofs.RefinedPicks.{IsParams-refined_shared}
use Rattle.filter_analyser.proofs.Joining.{short-of_all, refined_shared-is, alone}
use Rattle.filter_analyser.proofs.refined.shared_picks.Goals as goal

pub parameters-requires : goal.parameters-requires
parameters-requires c =
    let f = c.args.channels in
    let sound = c.args.predictions.now.sound in
    let filter = c.args.filter.now in
    let is = refined_shared-is f sound filter c.short_table.result c.push-2.new.self.items c.push.new.self.items c.count.ensures.shape.most
    (alone _ _ _ c.push-2.ensures.items c.new-filters.ensures ∙ ap (λ x. x ∷ []) c.copy.ensures) (alone _ _ _ c.push.ensures.items c.new-probs.ensures)
    c.requires.filter (c.short_table.ensures ∙ short-of_all f sound _ filter c.count_members.result c.count.ensures.count c.count_members.ensures.counts) in
    record { lawful = subst (IsParams f.channels) (sym is) (IsParams-refined_shared f sound c.count.ensures.shape.least) }

pub returns-clause-params : goal.returns-clause-params
returns-clause-params c =
    let f = c.args.channels in
    let sound = c.args.predictions.now.sound in
    let filter = c.args.filter.now in
    c.parameters.ensures
    ∙ refined_shared-is f sound filter c.short_table.result c.push-2.new.self.items c.push.new.self.items c.count.ensures.shape.most
    (alone _ _ _ c.push-2.ensures.items c.new-filters.ensures ∙ ap (λ x. x ∷ []) c.copy.ensures) (alone _ _ _ c.push.ensures.items c.new-probs.ensures)
    c.requires.filter (c.short_table.ensures ∙ short-of_all f sound _ filter c.count_members.result c.count.ensures.count c.count_members.ensures.counts)
