-- The sound ends with a row, or in one.
use Rattle.std.proofs.Common.{◌%◌, ◌/◌, refl, ap, sym, ◌∙◌, arith}
use Rattle.dst_dsf.proofs.Gathering.{ends_with_row, ends_in_row, row_by}
use Rattle.dst_dsf.proofs.rows.RowWriter.finish.Goals as goal

pub returns-then-self-size-eq0-clause-written : goal.returns-then-self-size-eq0-clause-written
returns-then-self-size-eq0-clause-written g c sound old room h =
    let s = c.args.self.now in
    ends_with_row g.K.Sink.written g.K.Sink.room s sound old room (record { some = s.row.least; whole = s.row.whole; all = c.requires.all })
    (ap (λ n. s.row.taken % n) (sym c.block_bytes-size.ensures) ∙ c.if-self-size-eq0.true) h

pub returns-clause-written : goal.returns-clause-written
returns-clause-written g c sound old room h =
    let s = c.args.self.now in
    let number = ap (λ n. s.row.taken / n) c.block_bytes-size.ensures in
    ends_in_row g.K.Sink.written g.K.Sink.room c.write_row.result s sound (s.row.taken / c.block_bytes-size.result) old _ room _
    (record { some = s.row.least; whole = s.row.whole; all = c.requires.all })
    (λ none. c.if-self-size-eq0.false (ap (λ n. s.row.taken % n) c.block_bytes-size.ensures ∙ none)) number
    (c.write_row.ensures.written sound (omega (arith, h.count, c.requires.all)) (row_by s.row.form s.row.form _ _ sound s.row.bytes refl number h.row)) h
