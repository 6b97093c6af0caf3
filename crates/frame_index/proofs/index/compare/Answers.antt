-- Indexes of as many entries that are the same one by one are the same.
use Rattle.std.proofs.Common.{arith}
use Rattle.std.proofs.lemmas.List.{ext_get_or}
use Rattle.frame_index.proofs.index.compare.Goals as goal

pub returns-clause-same : goal.returns-clause-same
returns-clause-same c =
    ext_get_or (record { offset = 0; size = 0 }) c.args.a.now c.args.b.now c.requires.same_length (λ j lt. c.loop-k.invariant j (omega (arith, lt)))
