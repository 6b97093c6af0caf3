-- The run is that of one frame after another.
use Rattle.frame_crew.specs.Laws.{fault_of_feed, fault_of_drain}
use Rattle.dst_dsf.proofs.Running.{begun, run_ended, run_at_read, run_at_job}
use Rattle.dst_dsf.proofs.frames.run_frames.Goals as goal

pub returns-in-Ok : goal.returns-in-Ok
returns-in-Ok g c =
    run_ended g.S.Source.bytes g.S.Source.known g.S.Source.faults g.S.Source.given g.K.Sink.written g.K.Sink.room g.K.Sink.faults _ _ c.args.feed.now
    c.args.drain.now (begun g.S.Source.bytes g.K.Sink.written g.K.Sink.room _ _ c.requires.jobs.lawful c.requires.first c.requires.drain_size c.requires.begins
    c.requires.opened)
    c.decode_frames.new.feed c.decode_frames.new.drain c.in-Ok.field-0 c.in-Ok.ensures.ran c.in-Ok.ensures.ended

pub returns-in-Err-Feed : goal.returns-in-Err-Feed
returns-in-Err-Feed g c =
    run_at_read g.S.Source.bytes g.S.Source.known g.S.Source.faults g.S.Source.given g.K.Sink.written g.K.Sink.room g.K.Sink.faults _ _ c.args.feed.now
    c.args.drain.now (begun g.S.Source.bytes g.K.Sink.written g.K.Sink.room _ _ c.requires.jobs.lawful c.requires.first c.requires.drain_size c.requires.begins
    c.requires.opened)
    c.decode_frames.new.feed c.decode_frames.new.drain c.in-Err-Feed.field-0-0
    (fault_of_feed c.decode_frames.result _ _ _ c.in-Err-Feed.is c.in-Err-Feed.field-0-is c.decode_frames.ensures.feed_fault)

pub returns-in-Err-Drain : goal.returns-in-Err-Drain
returns-in-Err-Drain g c =
    run_at_job g.S.Source.bytes g.S.Source.known g.S.Source.faults g.S.Source.given g.K.Sink.written g.K.Sink.room g.K.Sink.faults _ _ c.args.feed.now
    c.args.drain.now (begun g.S.Source.bytes g.K.Sink.written g.K.Sink.room _ _ c.requires.jobs.lawful c.requires.first c.requires.drain_size c.requires.begins
    c.requires.opened)
    c.decode_frames.new.feed c.decode_frames.new.drain _ c.in-Err-Drain.fault
    (fault_of_drain c.decode_frames.result _ _ _ c.in-Err-Drain.is c.in-Err-Drain.field-0-is c.decode_frames.ensures.drain_fault)
