-- The unread bytes behind the end of the code are the tail with which the frame means its sound.
use Rattle.dst_frames.proofs.Frames.{is_sound, coded_means}
use Rattle.std.proofs.Common.{◌+◌, ◌-◌, ◌/◌, length, ap, ◌∙◌}
use Rattle.dst_frames.proofs.batch.tail_of.Goals as goal

pub returns : goal.returns
returns c = λ f P place used long inside header first code end_is.
    coded_means f P c.args.frame.now c.args.sound.now place used c.unread.result inside header first (is_sound f c.args.sound.now long c.type_inv.sound) code
    (c.unread.ensures ∙ ap (λ e. length c.args.frame.now - (e + 7) / 8) end_is)
