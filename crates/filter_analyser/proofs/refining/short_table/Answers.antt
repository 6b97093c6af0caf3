-- A table of counts has at least two entries, so that it can be shortened.
use Rattle.std.proofs.Common.{◌+◌, length, get_or, ap, arith}
use Rattle.level_spec.proofs.Refined.{length-table_of}
use Rattle.filter_analyser.proofs.refining.short_table.Goals as goal

pub shorten-requires : goal.shorten-requires
shorten-requires c =
    let two = length-table_of (λ p. get_or c.args.counts.now p 0 + get_or c.args.counts.now (p + 64) 0) (λ p. get_or c.args.counts.now (p + 64) 0) in
    omega (arith, ap length c.table_from.ensures)
