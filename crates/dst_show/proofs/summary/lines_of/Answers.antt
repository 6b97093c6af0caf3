-- Each line is that of the definitions.
use Rattle.std.proofs.Common.{◌++◌, decimal, codes}
use Rattle.dst_show.proofs.LineByLine.{fed_five}
use Rattle.dst_show.proofs.summary.lines_of.Goals as goal

pub returns : goal.returns
returns c =
    let s = c.args.summary.now in
    fed_five (codes "kind " ++ s.kind.now) (codes "channels " ++ decimal s.channels.channels) (codes "sound " ++ decimal s.sound ++ codes " bytes")
    (codes "frames " ++ decimal s.frames) (codes "chunks " ++ decimal s.chunks) c.with_text.ensures (rw c.count.ensures.count at c.with_number.ensures)
    c.with_bytes.ensures (rw c.from.ensures at c.with_number-2.ensures) c.with_number-3.ensures
