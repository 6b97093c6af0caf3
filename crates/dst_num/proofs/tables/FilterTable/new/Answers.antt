-- One coefficient more is in range; where all are, and there are 1 to 128, the rule of filters holds.
use Rattle.std.proofs.Common.{rules, pos}
use Rattle.std.proofs.lemmas.List.Elements.{All-more}
use Rattle.dst_spec.specs.Table.{filter_kind, InRange, IsTable}
use Rattle.dst_num.proofs.TableRules.{all_of_front, is_filter}
use Rattle.dst_num.proofs.tables.FilterTable.new.Goals as goal

pub loop-coef-preserved : goal.loop-coef-preserved
loop-coef-preserved c =
    All-more (InRange filter_kind) c.args.coefs.now c.loop-coef.coef-index (pos 0) (search rules) c.loop-coef.invariant (search rules)

pub invariant_of-result : goal.invariant_of-result
invariant_of-result c =
    let all = all_of_front (InRange filter_kind) c.args.coefs.now c.loop-coef.coef-index (search rules) c.loop-coef.invariant in
    let table : IsTable filter_kind c.args.coefs.now = is_filter c.args.coefs.now (search rules) (search rules) all in
    rw c.in-Ok.ensures.0 table

pub returns-in-Ok-clause-table : goal.returns-in-Ok-clause-table
returns-in-Ok-clause-table c =
    let all = all_of_front (InRange filter_kind) c.args.coefs.now c.loop-coef.coef-index (search rules) c.loop-coef.invariant in
    let table : IsTable filter_kind c.args.coefs.now = is_filter c.args.coefs.now (search rules) (search rules) all in
    rw c.in-Ok.ensures.0 table
