-- The chunks that are passed on, `DST `, `DSTI`, and `KEPT` where there is one.
use Rattle.std.proofs.Common.{arith}
use Rattle.dsdiff_chunks.specs.Forms.{coded_seen}
use Rattle.dst_cut.proofs.CutWhole.{count_is}
use Rattle.dst_cut.proofs.cut_form.CutForm.chunks.Goals as goal

pub returns : goal.returns
returns c file =
    let self = c.args.self.now in
    omega (
      arith,
      count_is file (coded_seen self.form) self.first self.last,
      c.chunks_count-before.ensures.count,
      c.chunks_count-behind.ensures.count,
      c.origin_count.ensures.count,
    )
