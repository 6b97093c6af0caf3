-- The loop takes a front of the piece.
use Rattle.std.proofs.Common.{◌≡◌, ◌+◌, ◌-◌, ◌++◌, take, drop, subst, ◌∙◌, arith}
use Rattle.std.proofs.lemmas.List.{take_all}
use Rattle.dsf_files.specs.Forms.{dsf_seen}
use Rattle.dsf_files.specs.declared.form.DsfForm.{DsfForm}
use Rattle.dst_dsf.specs.Gathering.{HasTaken, FailsAtRow}
use Rattle.dst_dsf.proofs.Gathering.{front_then, front_and_rest, fails_within}
use Rattle.dst_dsf.proofs.rows.RowWriter.take_sound.Goals as goal

pub returns-in-Err-clause-written : goal.returns-in-Err-clause-written
returns-in-Err-clause-written g c sound old room h =
    let piece = c.args.piece.now in
    let place = c.loop-place.place in
    let count = c.min-count.result in
    let new = g.K.Sink.written c.take_part.new.self.sink.now in
    let fails = c.in-Err.ensures.written (sound ++ take place piece) old room (c.loop-place.invariant.written sound old room h) in
    let here = subst (λ (f : DsfForm). FailsAtRow (dsf_seen f) ((sound ++ take place piece) ++ take (place + count - place) (drop place piece)) old new room)
    c.loop-place.invariant.form fails in
    let there = subst (λ ys. FailsAtRow (dsf_seen c.args.self.now.row.form) ys old new room) (front_then sound piece place count) here in
    subst (λ ys. FailsAtRow (dsf_seen c.args.self.now.row.form) ys old new room) (front_and_rest sound piece (place + count))
    (fails_within (dsf_seen c.args.self.now.row.form) (sound ++ take (place + count) piece) (drop (place + count) piece) old new room there)

pub loop-place-preserved : goal.loop-place-preserved
loop-place-preserved g c =
    let piece = c.args.piece.now in
    let place = c.loop-place.place in
    let count = c.min-count.result in
    let v = c.loop-place.invariant in
    record {
      within = omega (arith, c.min-count.ensures, c.loop-place-test.true);
      lent = c.in-Ok.ensures.lent ∙ v.lent;
      form = c.in-Ok.ensures.form ∙ v.form;
      size = c.in-Ok.ensures.size ∙ v.size;
      taken = omega (arith, c.in-Ok.ensures.taken, v.taken, c.min-count.ensures, c.loop-place-test.true);
      later = omega (arith, c.take_part.ensures.cause.later, v.later);
      written = λ sound old room h.
          subst (λ ys. HasTaken g.K.Sink.written g.K.Sink.room ys old room c.take_part.new.self) (front_then sound piece place count)
          (c.in-Ok.ensures.written (sound ++ take place piece) old room (v.written sound old room h));
    }

pub returns-clause-written : goal.returns-clause-written
returns-clause-written g c sound old room h =
    let piece = c.args.piece.now in
    let all : take c.loop-place.place piece ≡ piece = take_all c.loop-place.place piece c.loop-place-test.false in
    subst (λ w. HasTaken g.K.Sink.written g.K.Sink.room (sound ++ w) old room c.loop-place.self) all (c.loop-place.invariant.written sound old room h)
