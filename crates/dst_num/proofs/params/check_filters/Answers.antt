-- One filter more keeps its rule, as its coefficients tell.
use Rattle.std.proofs.Common.{subst, rules}
use Rattle.std.proofs.lemmas.List.Elements.{All-more}
use Rattle.dst_spec.specs.Table.{filter_kind, IsTable}
use Rattle.dst_num.proofs.TableRules.{all_of_front}
use Rattle.dst_num.proofs.params.check_filters.Goals as goal

pub loop-filter-preserved : goal.loop-filter-preserved
loop-filter-preserved c =
    All-more (IsTable filter_kind) c.args.filters.now c.loop-filter.filter-index c.filter-item.result (search rules) c.loop-filter.invariant
    (subst (IsTable filter_kind) c.filter-item.is c.coefs.ensures.table)

pub returns : goal.returns
returns c = all_of_front (IsTable filter_kind) c.args.filters.now c.loop-filter.filter-index (search rules) c.loop-filter.invariant
