-- The size is that of the parts together: the chunks around the sound, the sound, the index and `KEPT`.
use Rattle.std.proofs.Common.{arith}
use Rattle.dst_write.proofs.sizes.form_size.Goals as goal

pub returns : goal.returns
returns c file fits =
    omega (
      arith,
      c.side_length-before.ensures.length file fits,
      c.side_length-behind.ensures.length file fits,
      c.sound_size.ensures.size,
      c.origin_size.ensures.size,
    )
