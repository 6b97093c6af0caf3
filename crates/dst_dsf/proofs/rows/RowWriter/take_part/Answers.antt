-- The part is in the row; a row that is full is written.
use Rattle.std.proofs.Common.{◌≡◌, ◌/◌, ◌*◌, ◌≤◌, ◌++◌, length, refl, ap, sym, subst, ◌∙◌, arith, length-append}
use Rattle.dst_dsf.proofs.Gathering.{goes_on, row_is_drained, row_by}
use Rattle.dst_dsf.proofs.rows.RowWriter.take_part.Goals as goal

pub returns-then-self-size-clause-written : goal.returns-then-self-size-clause-written
returns-then-self-size-clause-written g c sound old room h =
    let s = c.args.self.now in
    goes_on g.K.Sink.written g.K.Sink.room s (record { sink = s.sink; row = c.put.new.self }) c.args.part.now sound old room
    (record { some = s.row.least; form_is = c.put.ensures.form; taken = c.put.ensures.taken; inside = c.requires.inside })
    (subst (λ n. c.put.new.self.taken / n ≡ s.row.taken / n) c.block_bytes-size.ensures c.if-self-size.true)
    (c.put.ensures.put sound (s.row.taken / (4096 * s.row.form.channels.channels)) h.count refl h.row) refl refl h

pub returns-clause-written : goal.returns-clause-written
returns-clause-written g c sound old room h =
    let s = c.args.self.now in
    let number = ap (λ n. s.row.taken / n) c.block_bytes-size.ensures in
    let has = c.put.ensures.put sound (s.row.taken / (4096 * s.row.form.channels.channels)) h.count refl h.row in
    let few : length (sound ++ c.args.part.now) ≤ c.put.new.self.size =
    omega (arith, length-append sound c.args.part.now, h.count, c.requires.there, c.put.ensures.size) in
    row_is_drained g.K.Sink.written g.K.Sink.room c.write_row.result s c.write_row.new.self c.put.new.self.form (s.row.taken / c.block_bytes-size.result)
    c.args.part.now sound old room
    (record {
      some = s.row.least;
      form_is = c.write_row.ensures.form ∙ c.put.ensures.form;
      taken = c.write_row.ensures.taken ∙ c.put.ensures.taken;
      inside = c.requires.inside;
    })
    (λ e. c.if-self-size.false (subst (λ n. c.put.new.self.taken / n ≡ s.row.taken / n) (sym c.block_bytes-size.ensures)
    (ap (λ k. k / (4096 * s.row.form.channels.channels)) (sym c.write_row.ensures.taken) ∙ e)))
    c.put.ensures.form number c.write_row.ensures.empty
    (c.write_row.ensures.written (sound ++ c.args.part.now) few
    (row_by c.put.new.self.form s.row.form _ _ (sound ++ c.args.part.now) c.put.new.self.bytes c.put.ensures.form number has)) h
