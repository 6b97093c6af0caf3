-- The parameters have a filter for each channel and one table, and are as lawful as the definition's.
use Rattle.std.proofs.Common.{sym, ◌∙◌, subst, arith}
use Rattle.dst_spec.specs.Header.{IsParams}
use Rattle.level_spec.proofs.RefinedPicks.{IsParams-refined_own_with_one_table}
use Rattle.filter_analyser.proofs.Joining.{refined_joint-is, each-long, alone}
use Rattle.filter_analyser.proofs.refined.joint_picks.Goals as goal

pub copies-requires : goal.copies-requires
copies-requires c =
    let long = each-long c.args.channels c.args.predictions.now.sound c.args.own.now c.requires.own in
    let few = c.one_table.ensures.shape.most in
    omega arith

pub parameters-requires : goal.parameters-requires
parameters-requires c =
    let f = c.args.channels in
    let sound = c.args.predictions.now.sound in
    let is = refined_joint-is f sound c.copies.result.items c.one_table.result c.push.new.self.items c.one_table.ensures.shape.most
    (c.copies.ensures ∙ c.requires.own) (alone _ _ _ c.push.ensures.items c.new-probs.ensures) c.one_table.ensures.table in
    record { lawful = subst (IsParams f.channels) (sym is) (IsParams-refined_own_with_one_table f sound c.one_table.ensures.shape.least) }

pub returns-clause-params : goal.returns-clause-params
returns-clause-params c =
    let f = c.args.channels in
    let sound = c.args.predictions.now.sound in
    c.parameters.ensures
    ∙ refined_joint-is f sound c.copies.result.items c.one_table.result c.push.new.self.items c.one_table.ensures.shape.most
    (c.copies.ensures ∙ c.requires.own) (alone _ _ _ c.push.ensures.items c.new-probs.ensures) c.one_table.ensures.table
