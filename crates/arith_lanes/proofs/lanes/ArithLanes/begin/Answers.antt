-- Twelve bits and the 32 behind them are the registers of a code that begins; no other lane changes.
use Rattle.std.proofs.Common.{◌≡◌, ◌+◌, ◌/◌, ◌%◌, ap, sym, ◌∙◌, arith}
use Rattle.dst_spec.specs.Bits.{bits, number_from}
use Rattle.arith_lanes.proofs.Beginning.{begins, written, written_has, written_others}
use Rattle.arith_lanes.proofs.lanes.ArithLanes.begin.Goals as goal

pub returns-clause-begun : goal.returns-clause-begun
returns-clause-begun c =
    let n = c.args.n in
    let s = c.args.self.now in
    let bytes = c.args.code.bytes.now in
    let first = c.args.code.first in
    let offset = c.read_or_zero-offset.result in
    let next = c.read_or_zero-next.result in
    let offset_is : offset ≡ number_from (bits bytes) (first + 1) 12 =
    rw (c.over-reader.ensures.bytes, c.over-reader.ensures.place) at c.read_or_zero-offset.ensures.number in
    let place : first + 1 + 12 ≡ first + 13 = omega arith in
    let next_is : next ≡ number_from (bits bytes) (first + 13) 32 = rw (
      c.read_or_zero-offset.ensures.bytes,
      c.read_or_zero-offset.ensures.place,
      c.over-reader.ensures.bytes,
      c.over-reader.ensures.place,
    ) at c.read_or_zero-next.ensures.number ∙ ap (λ k. number_from (bits bytes) k 32) place in
    let h = written_has s n first (first + 45) 4095 offset (next / 65536) (next % 65536) 32768 (omega arith) (omega arith) (omega arith) (omega arith)
    (omega arith) (omega arith) (omega arith) in
    begins (written s n first (first + 45) 4095 offset (next / 65536) (next % 65536) 32768) n bytes first offset next c.requires.short c.requires.early
    offset_is (λ e. c.in-Ok.ensures.in_range (sym offset_is ∙ e)) next_is h

pub returns-clause-others : goal.returns-clause-others
returns-clause-others c m h =
    written_others c.args.self.now c.args.n c.args.code.first (c.args.code.first + 45) 4095 c.read_or_zero-offset.result (c.read_or_zero-next.result / 65536)
    (c.read_or_zero-next.result % 65536) 32768 m h
