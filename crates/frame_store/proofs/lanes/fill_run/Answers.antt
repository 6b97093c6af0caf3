-- The place of a sample and channel is no other sample's or channel's, so only one step of the lane changes.
use Rattle.std.proofs.Common.{◌≢◌, ◌+◌, ◌*◌, ◌<◌, [], length, get_or, set, ◌∙◌, arith, below_more, length-set}
use Rattle.dst_spec.proofs.Lists.{place-below}
use Rattle.frame_store.proofs.Laid.{lane-same, lane-row, lane-other, lane-eights}
use Rattle.frame_store.proofs.Placed.{place-other_sample, place-other_channel}
use Rattle.frame_store.proofs.lanes.fill_run.Goals as goal

pub loop-t-preserved : goal.loop-t-preserved
loop-t-preserved c =
    let t = c.loop-t.t in
    let steps = c.loop-t.steps in
    let lane = c.args.lane in
    let channel = c.args.c in
    let channels = c.args.channels in
    let k = t * channels + channel in
    let x = get_or c.args.table.now (get_or c.args.codes.now t 0) 0 in
    let v = c.loop-t.invariant in
    let long = v.long in
    let first = c.loop-t.auto.t in
    let inside : k < length steps =
    omega (arith, long, place-below t channel channels (length c.args.codes.now) c.requires.channel c.loop-t-test.true, c.requires.room) in
    let eight = v.eights k inside in
    record {
      long = length-set steps k (set (get_or steps k []) lane x) ∙ v.long;
      eights = lane-eights steps k lane x inside v.eights;
      here = below_more _ _
          (λ u lt le.
          let other : u ≢ t = omega arith in
          lane-row steps k (u * channels + channel) lane x (place-other_sample u t channel channel channels c.requires.channel c.requires.channel other)
          ∙ v.here u lt le)
          (λ le. lane-same steps k lane x inside (omega arith));
      before = λ u lt.
          let other : u ≢ t = omega arith in
          lane-row steps k (u * channels + channel) lane x (place-other_sample u t channel channel channels c.requires.channel c.requires.channel other)
          ∙ v.before u lt;
      channels = λ u d lt ne. lane-row steps k (u * channels + d) lane x (place-other_channel u t d channel channels lt c.requires.channel ne)
          ∙ v.channels u d lt ne;
      lanes = λ j other ne. lane-other steps k j lane other x inside ne ∙ v.lanes j other ne;
    }
