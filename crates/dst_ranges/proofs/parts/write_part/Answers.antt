-- The part lies in one frame: it is read and written, or what it stops at.
use Rattle.std.proofs.Common.{length, Err, ap}
use Rattle.dst_spec.specs.Sample.{sound_bytes}
use Rattle.dst_commands.proofs.Writing.{added, cut_off}
use Rattle.dst_ranges.proofs.Geometry.{part_touched}
use Rattle.dst_ranges.proofs.OnePart.{one_wrote, one_unwritten, one_refused}
use Rattle.dst_ranges.proofs.parts.write_part.Goals as goal

pub returns-in-Err-Frame-clause-stops : goal.returns-in-Err-Frame-clause-stops
returns-in-Err-Frame-clause-stops g c =
    let one = part_touched (sound_bytes c.args.reader.now.shape) c.args.from (length c.args.room.now) c.requires.some c.requires.frame in
    one_refused c.args.reader.now _ c.args.from _ c.in-Err-Frame.frame c.in-Err-Frame.fault _ _ _ _ (g.K.Sink.room c.args.sink.now) one
    (c.in-Err-Frame.ensures.frame c.in-Err-Frame.frame c.in-Err-Frame.fault (ap Err c.in-Err-Frame.field-0-is))

pub returns-in-Ok-append-clause-wrote : goal.returns-in-Ok-append-clause-wrote
returns-in-Ok-append-clause-wrote g c =
    let one = part_touched (sound_bytes c.args.reader.now.shape) c.args.from (length c.args.room.now) c.requires.some c.requires.frame in
    let h = c.in-Ok.ensures in
    one_wrote c.args.reader.now c.read.new.self _ c.args.from _ c.in-Ok.field-0.decoded _ c.read.new.out _ _ _ _ _ _ _ one c.read.auto.out
    (record { same = h.same; order_is = h.order; decoded_is = h.decoded; given_is = h.given; holds_sounds = h.holds_sounds; means = h.means })
    h.sound
    (added c.append.result c.read.new.out _ _ _ _ c.append.ensures.sure c.in-Ok-append.ensures.written)

pub returns-in-Err-clause-stops : goal.returns-in-Err-clause-stops
returns-in-Err-clause-stops g c =
    let one = part_touched (sound_bytes c.args.reader.now.shape) c.args.from (length c.args.room.now) c.requires.some c.requires.frame in
    let h = c.in-Ok.ensures in
    one_unwritten c.args.reader.now c.read.new.self _ c.args.from _ c.in-Ok.field-0.decoded _ c.read.new.out _ _ _ _ _ _ one c.read.auto.out
    (record { same = h.same; order_is = h.order; decoded_is = h.decoded; given_is = h.given; holds_sounds = h.holds_sounds; means = h.means })
    h.sound
    (cut_off c.in-Err.field-0 c.read.new.out _ _ _ _ c.in-Err.ensures.sure c.in-Err.ensures.written)
