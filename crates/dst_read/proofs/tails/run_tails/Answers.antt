-- The run is that of one frame after another.
use Rattle.dsdiff_chunks.specs.Forms.{coded_seen}
use Rattle.dst_read.proofs.Feeding.{ready_shape}
use Rattle.frame_crew.specs.Laws.{fault_of_feed, fault_of_drain}
use Rattle.dst_read.proofs.Summing.{sum_ended, sum_at_read, sum_at_job}
use Rattle.dst_read.proofs.tails.run_tails.Goals as goal

pub run_ordered-requires-clause-feed_shape : goal.run_ordered-requires-clause-feed_shape
run_ordered-requires-clause-feed_shape g c κs within = ready_shape _ c.args.feed.now.walked.now c.requires.size c.requires.jobs.lawful

pub returns-in-Ok : goal.returns-in-Ok
returns-in-Ok g c =
    let walked = c.args.feed.now.walked.now in
    sum_ended g.S.Source.bytes g.S.Source.known g.S.Source.faults g.S.Source.given (coded_seen walked.form) walked.form.channels c.args.feed.now
    (record { same = walked.form.shape; first = c.requires.first; count = walked.fits.count; most = walked.form.lawful.frames; walked = c.requires.entries })
    c.run_ordered.new.feed c.args.drain.now c.run_ordered.new.drain c.in-Ok.field-0 c.requires.none c.in-Ok.ensures.ran c.in-Ok.ensures.ended

pub returns-in-Err-Feed : goal.returns-in-Err-Feed
returns-in-Err-Feed g c =
    let walked = c.args.feed.now.walked.now in
    sum_at_read g.S.Source.bytes g.S.Source.known g.S.Source.faults g.S.Source.given (coded_seen walked.form) walked.form.channels c.args.feed.now
    (record { same = walked.form.shape; first = c.requires.first; count = walked.fits.count; most = walked.form.lawful.frames; walked = c.requires.entries })
    c.run_ordered.new.feed c.args.drain.now c.run_ordered.new.drain c.in-Err-Feed.field-0-0 c.requires.none
    (fault_of_feed c.run_ordered.result _ _ _ c.in-Err-Feed.is c.in-Err-Feed.field-0-is c.run_ordered.ensures.feed_fault)

pub returns-in-Err-Drain : goal.returns-in-Err-Drain
returns-in-Err-Drain g c =
    let walked = c.args.feed.now.walked.now in
    sum_at_job g.S.Source.bytes g.S.Source.known g.S.Source.faults g.S.Source.given (coded_seen walked.form) walked.form.channels c.args.feed.now
    (record { same = walked.form.shape; first = c.requires.first; count = walked.fits.count; most = walked.form.lawful.frames; walked = c.requires.entries })
    c.run_ordered.new.feed c.args.drain.now c.run_ordered.new.drain _ c.in-Err-Drain.fault c.requires.none
    (fault_of_drain c.run_ordered.result _ _ _ c.in-Err-Drain.is c.in-Err-Drain.field-0-is c.run_ordered.ensures.drain_fault)
