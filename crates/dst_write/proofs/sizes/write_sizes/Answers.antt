-- The fields are written over, and the sink is finished.
use Rattle.std.proofs.Common.{ℕ, ◌+◌, List, ap, ◌∙◌, arith}
use Rattle.dst_streams.specs.Told.{written_over}
use Rattle.dst_write.proofs.Sized.{sizes_end}
use Rattle.dst_write.proofs.sizes.write_sizes.Goals as goal

pub returns-clause-written : goal.returns-clause-written
returns-clause-written g c =
    let old = g.K.Sink.written c.args.sink.now in
    let mid = g.K.Sink.written c.overwrite.new.self in
    sizes_end c.finish.result (20 + c.args.before) c.args.sound c.args.form old mid (g.K.Sink.written c.overwrite-2.new.self) _
    (c.in-Ok.ensures.written ∙ ap (λ (w : List ℕ). written_over old (20 + c.args.before) w) c.to_be_bytes.ensures)
    (c.in-Ok-overwrite.ensures.written ∙ ap (λ (w : List ℕ). written_over mid 4 w) c.to_be_bytes-2.ensures)
    c.finish.ensures.written
    (λ xs e. omega (arith, g.met.K.Sink.appended_within c.overwrite.new.self xs e, c.in-Ok.ensures.appended, c.requires.appended))
