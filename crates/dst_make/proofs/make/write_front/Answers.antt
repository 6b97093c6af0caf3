-- The pieces are what stands in front of the sound.
use Rattle.std.proofs.Common.{◌*◌, ap, ◌∙◌}
use Rattle.dst_make.proofs.MadeSounds.{front_is, in_one_call}
use Rattle.dst_make.proofs.make.write_front.Goals as goal

pub returns-clause-written : goal.returns-clause-written
returns-clause-written g c =
    in_one_call c.append_all.result _ _ _ _ _ _
    (front_is c.args.frames c.count-count.result c.multiple.result (c.from.result * c.sound_bytes.result) c.args.channels _ _ _ _ _ _
    c.count-count.ensures.shape c.count-count.ensures.count c.multiple.ensures.multiple
    (ap (λ k. k * c.sound_bytes.result) c.from.ensures ∙ ap (λ k. c.args.frames * k) c.sound_bytes.ensures.bytes) c.to_be_bytes.ensures
    c.to_be_bytes-2.ensures c.to_be_bytes-3.ensures c.to_be_bytes-4.ensures c.to_be_bytes-5.ensures c.to_be_bytes-6.ensures)
    c.append_all.ensures.written c.append_all.ensures.sure
