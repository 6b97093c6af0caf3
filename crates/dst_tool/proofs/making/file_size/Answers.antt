-- What stands around a made sound has 122 bytes and 4 for each channel, and the rest is the frames' sound.
use Rattle.std.proofs.Common.{◌+◌, ◌*◌, ℕ, ap₂, sym, ◌∙◌, arith}
use Rattle.dst_tool.proofs.MadeRuns.{file_long}
use Rattle.dst_tool.proofs.making.file_size.Goals as goal

pub returns-clause-size : goal.returns-clause-size
returns-clause-size c start =
    file_long start c.args.frames c.args.channels (omega (arith, c.requires.most)) c.count.ensures.shape
    ∙ ap₂ (λ (k n : ℕ). 122 + 4 * k + c.args.frames * n) (sym c.count.ensures.count) (sym c.sound_bytes.ensures.bytes)
