-- The table is made of a channel's counts, which begin at 0.
use Rattle.std.proofs.Common.{◌∙◌, arith}
use Rattle.dst_spec.proofs.Lists.{get_or-zeros}
use Rattle.filter_analyser.proofs.Picking.{table-is}
use Rattle.filter_analyser.proofs.picks.channel_table.Goals as goal

pub count_row-requires-clause-room : goal.count_row-requires-clause-room
count_row-requires-clause-room c = λ q h. omega (arith, get_or-zeros 128 q)

pub table_from-requires : goal.table_from-requires
table_from-requires c = λ q. omega (arith, c.count_row.ensures.most q, get_or-zeros 128 q)

pub returns-clause-table : goal.returns-clause-table
returns-clause-table c =
    let f = c.args.predictions.now.channels in
    let sound = c.args.predictions.now.sound in
    c.table_from.ensures ∙ table-is f sound c.args.channel c.args.filter.now c.count_row.new.counts (λ q h. c.count_row.ensures.counts q h
    ∙ omega (arith, get_or-zeros 128 q))
