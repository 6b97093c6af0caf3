-- The frames, and the last row.
use Rattle.dsdiff_chunks.specs.Forms.{coded_seen}
use Rattle.dst_dsf.proofs.Finishing.{stopped, finished, unfinished}
use Rattle.dst_dsf.proofs.frames.run_rows.Goals as goal

pub returns-in-Err : goal.returns-in-Err
returns-in-Err g c =
    stopped g.S.Source.bytes g.S.Source.known g.S.Source.faults g.S.Source.given g.K.Sink.written g.K.Sink.room g.K.Sink.faults
    (coded_seen c.args.feed.now.walked.now.form) c.args.feed.now c.run_frames.new.feed c.args.drain.now c.run_frames.new.drain
    c.in-Err.fault c.in-Err.ensures

pub returns-in-Ok : goal.returns-in-Ok
returns-in-Ok g c =
    finished g.S.Source.bytes g.S.Source.known g.S.Source.faults g.S.Source.given g.K.Sink.written g.K.Sink.room g.K.Sink.faults
    (coded_seen c.args.feed.now.walked.now.form) c.args.feed.now c.run_frames.new.feed c.args.drain.now c.run_frames.new.drain
    c.finish.new.self c.in_default.ensures c.in-Ok.ensures.lent c.finish.ensures.cause.later c.in-Ok.ensures.written

pub returns-in-Err-finish : goal.returns-in-Err-finish
returns-in-Err-finish g c =
    unfinished g.S.Source.bytes g.S.Source.known g.S.Source.faults g.S.Source.given g.K.Sink.written g.K.Sink.room g.K.Sink.faults
    (coded_seen c.args.feed.now.walked.now.form) c.args.feed.now c.run_frames.new.feed c.args.drain.now c.run_frames.new.drain
    c.finish.new.self c.in_default.ensures c.in-Err-finish.ensures.lent c.finish.ensures.cause.later c.in-Err-finish.ensures.cause.failed
    c.in-Err-finish.ensures.written
