-- The number lies within the pool, where no filter gives the greatest of all sums.
use Rattle.std.proofs.Common.{◌<◌, get_or, ◌∙◌, sym, subst}
use Rattle.byte_predictor.specs.Upward.{size_sum}
use Rattle.dst_frames.specs.declared.tables.ChannelTables.{ChannelTables}
use Rattle.dst_frames.proofs.OneOfEight.{table-in}
use Rattle.dst_frames.proofs.eight.table_of.Goals as goal

pub returns : goal.returns
returns c =
    let at = get_or c.args.from.now c.args.n 0 in
    let table = c.index-tables-from.result in
    record {
      is = c.index-tables-from.is ∙ sym (table-in c.args.tables.now c.args.from.now c.args.n table c.requires.from);
      narrow = subst (λ (t : ChannelTables). size_sum t.filter < 32768) (sym c.index-tables-from.is) (c.requires.narrow at table c.requires.from);
    }
