-- The run is that of one piece after another.
use Rattle.frame_crew.specs.Laws.{fault_of_feed, fault_of_drain}
use Rattle.dst_write.proofs.Running.{begun, run_ended, run_at_read, run_at_job}
use Rattle.dst_write.proofs.frames.run_frames.Goals as goal

pub returns-in-Ok : goal.returns-in-Ok
returns-in-Ok g c =
    run_ended g.S.Source.bytes g.S.Source.known g.S.Source.loan g.S.Source.faults g.S.Source.given g.K.Sink.written g.K.Sink.appended g.K.Sink.room
    g.K.Sink.faults (g.P.Picker.picks c.args.picker.now) c.args.feed.now c.args.drain.now
    (begun g.S.Source.bytes _ _ c.requires.size.0 c.requires.first c.requires.sizes c.requires.size.2
    (λ file told. g.met.S.Source.size_is_length c.args.feed.now.source.now file c.requires.size.0 told c.requires.size.1))
    c.run_ordered.new.feed c.run_ordered.new.drain c.in-Ok.field-0 c.in-Ok.ensures.ran c.in-Ok.ensures.ended

pub returns-in-Err-Feed : goal.returns-in-Err-Feed
returns-in-Err-Feed g c =
    run_at_read g.S.Source.bytes g.S.Source.known g.S.Source.loan g.S.Source.faults g.S.Source.given g.K.Sink.written g.K.Sink.appended g.K.Sink.room
    g.K.Sink.faults (g.P.Picker.picks c.args.picker.now) c.args.feed.now c.args.drain.now
    (begun g.S.Source.bytes _ _ c.requires.size.0 c.requires.first c.requires.sizes c.requires.size.2
    (λ file told. g.met.S.Source.size_is_length c.args.feed.now.source.now file c.requires.size.0 told c.requires.size.1))
    c.run_ordered.new.feed c.run_ordered.new.drain c.in-Err-Feed.field-0-0
    (fault_of_feed c.run_ordered.result _ _ _ c.in-Err-Feed.is c.in-Err-Feed.field-0-is c.run_ordered.ensures.feed_fault)

pub returns-in-Err-Drain : goal.returns-in-Err-Drain
returns-in-Err-Drain g c =
    run_at_job g.S.Source.bytes g.S.Source.known g.S.Source.loan g.S.Source.faults g.S.Source.given g.K.Sink.written g.K.Sink.appended g.K.Sink.room
    g.K.Sink.faults (g.P.Picker.picks c.args.picker.now) c.args.feed.now c.args.drain.now
    (begun g.S.Source.bytes _ _ c.requires.size.0 c.requires.first c.requires.sizes c.requires.size.2
    (λ file told. g.met.S.Source.size_is_length c.args.feed.now.source.now file c.requires.size.0 told c.requires.size.1))
    c.run_ordered.new.feed c.run_ordered.new.drain _ c.in-Err-Drain.fault
    (fault_of_drain c.run_ordered.result _ _ _ c.in-Err-Drain.is c.in-Err-Drain.field-0-is c.run_ordered.ensures.drain_fault)
