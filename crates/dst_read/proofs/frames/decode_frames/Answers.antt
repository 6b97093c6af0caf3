-- The source has the frames that the feed reads.
use Rattle.std.proofs.Common.{length, arith}
use Rattle.dst_read.specs.Jobs.{IsWorked}
use Rattle.dst_read.proofs.Feeding.{ready_shape, run_goes_on}
use Rattle.dst_read.proofs.frames.decode_frames.Goals as goal

pub run_ordered-requires-clause-feed_shape : goal.run_ordered-requires-clause-feed_shape
run_ordered-requires-clause-feed_shape g c κs within = ready_shape _ c.args.feed.now.walked.now c.requires.size c.requires.jobs.lawful

pub returns-clause-once : goal.returns-clause-once
returns-clause-once g c =
    let later = run_goes_on g.S.Source.bytes g.S.Source.known g.S.Source.faults g.S.Source.given g.D.Drain.takes
    (IsWorked c.args.feed.now.walked.now.form.channels) g.D.Drain.failed (length c.args.jobs.now) c.args.feed.now c.run_ordered.new.feed c.args.drain.now
    c.run_ordered.new.drain c.run_ordered.result c.run_ordered.ensures.ran c.run_ordered.ensures.feed_fault c.run_ordered.ensures.drain_fault in
    omega (arith, later.once)
