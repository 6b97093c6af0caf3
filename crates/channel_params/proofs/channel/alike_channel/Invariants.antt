-- None of the channels so far has the same as this one.
use Rattle.std.proofs.Common.{ℕ, ◌<◌}
use Rattle.channel_params.specs.Alike.{AreAlike}
use Rattle.channel_params.proofs.channel.alike_channel.Given as goal

abbrev pub invariant-loop-d : goal.invariant-loop-d
invariant-loop-d l = (d : ℕ) → d < l.d → AreAlike l.fn.params d l.fn.c → ⊥
