-- An early sample has the probability 128, another its own.
use Rattle.std.proofs.Common.{rules}
use Rattle.dst_frames.proofs.eight.early_chance.Goals as goal

pub returns-then-early-clause-prob : goal.returns-then-early-clause-prob
returns-then-early-clause-prob c = search rules
