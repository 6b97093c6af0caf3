-- A stream ends as its stage has it.
use Rattle.std.proofs.Common.{rules}
use Rattle.push_decoder.proofs.reading.ending_of.Goals as goal

pub returns-in-FrameCount : goal.returns-in-FrameCount
returns-in-FrameCount c = search rules
