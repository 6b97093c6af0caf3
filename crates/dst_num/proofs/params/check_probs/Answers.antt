-- One probability table more keeps its rule, as its entries tell.
use Rattle.std.proofs.Common.{ℕ, List, pos, map, subst, rules}
use Rattle.std.proofs.lemmas.List.Elements.{All-more}
use Rattle.dst_spec.specs.Table.{prob_kind, IsTable}
use Rattle.dst_num.proofs.TableRules.{all_of_front}
use Rattle.dst_num.proofs.params.check_probs.Goals as goal

abbrev IsProbs : List ℕ → Type 0
IsProbs entries = IsTable prob_kind (map pos entries)

pub loop-table-preserved : goal.loop-table-preserved
loop-table-preserved c =
    All-more IsProbs c.args.probs.now c.loop-table.table-index c.table-item.result (search rules) c.loop-table.invariant
    (subst IsProbs c.table-item.is c.entries.ensures.table)

pub returns : goal.returns
returns c = all_of_front IsProbs c.args.probs.now c.loop-table.table-index (search rules) c.loop-table.invariant
