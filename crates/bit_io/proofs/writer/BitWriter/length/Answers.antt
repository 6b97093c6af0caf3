-- Each whole byte has eight bits, and the pending ones are behind them.
use Rattle.std.proofs.Common.{arith}
use Rattle.bit_io.proofs.Buffers.{length-buffer}
use Rattle.bit_io.proofs.writer.BitWriter.length.Goals as goal

pub returns-clause-length : goal.returns-clause-length
returns-clause-length c =
    let f = c.self.inside in
    rw (← c.self.view_is) (omega (arith, c.len.ensures, c.from.ensures, length-buffer f.bytes.items f.count f.pending, f.bytes.ok.0))
