-- The jobs of what is lent are decoded.
use Rattle.std.proofs.Common.{◌<◌, length, get_or, arith}
use Rattle.dst_frames.proofs.Lanes.{one_of}
use Rattle.dst_read.specs.Jobs.{IsWorked}
use Rattle.dst_read.proofs.Lent.{lent_at, worked, shape_back, all_zip}
use Rattle.dst_read.proofs.work.work_eight.Goals as goal

pub decode_batch-requires-clause-stored : goal.decode_batch-requires-clause-stored
decode_batch-requires-clause-stored c = λ n frame h.
    (lent_at c.args.channels c.args.run.now c.lend_all.new.run c.lend_all.new.frames c.lend_all.new.heard n frame
    (one_of c.lend_all.new.heard n (omega arith)) c.requires.few (omega arith) c.requires.jobs c.lend_all.ensures).short

pub decode_batch-requires-clause-frames : goal.decode_batch-requires-clause-frames
decode_batch-requires-clause-frames c = λ n frame h.
    (lent_at c.args.channels c.args.run.now c.lend_all.new.run c.lend_all.new.frames c.lend_all.new.heard n frame
    (one_of c.lend_all.new.heard n (omega arith)) c.requires.few (omega arith) c.requires.jobs c.lend_all.ensures).most

pub decode_batch-requires-clause-sounds : goal.decode_batch-requires-clause-sounds
decode_batch-requires-clause-sounds c = λ n sound h.
    (lent_at c.args.channels c.args.run.now c.lend_all.new.run c.lend_all.new.frames c.lend_all.new.heard n
    (one_of c.lend_all.new.frames n (omega arith)) sound c.requires.few (omega arith) c.requires.jobs c.lend_all.ensures).sound

pub returns-clause-done : goal.returns-clause-done
returns-clause-done c =
    all_zip (IsWorked c.args.channels) c.args.run.now c.give_back_all.new.run (omega arith) (λ n d h.
    let frame = one_of c.lend_all.new.frames n (omega arith) in
    let sound = one_of c.lend_all.new.heard n (omega arith) in
    rw (c.give_back_all.ensures n d frame sound (omega arith)) (worked c.args.channels _ _ _ _ _ (c.lend_all.ensures n d frame sound h)
    (c.decode_batch.ensures.decoded n frame sound (omega arith))))

pub returns-clause-shapes : goal.returns-clause-shapes
returns-clause-shapes c = λ n d h.
    let lt : n < length c.args.run.now = omega arith in
    let frame = one_of c.lend_all.new.frames n (omega arith) in
    let sound = one_of c.lend_all.new.heard n (omega arith) in
    rw (c.give_back_all.ensures n d frame sound (omega arith)) (shape_back c.args.channels _ _ _ _
    (get_or c.decode_batch.new.heard n sound) c.requires.few (c.requires.jobs n d lt)
    (c.lend_all.ensures n d frame sound lt) (c.decode_batch.ensures.long n sound (omega arith)))
