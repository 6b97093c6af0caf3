-- The stretches so far have the bits of their eight bytes.
use Rattle.std.proofs.Common.{◌≡◌, ℕ, ◌+◌, ◌-◌, ◌*◌, ◌/◌, ◌%◌, ◌^◌, ◌<◌, get_or}
use Rattle.filter_analyser.proofs.stretches.pack.Given as goal

abbrev pub invariant-loop-place : goal.invariant-loop-place
invariant-loop-place l = (w i : ℕ) → w < l.place → i < 64
    → get_or l.stretches w 0 / 2 ^ (63 - i) % 2 ≡ get_or l.sound ((8 * w + i / 8) * l.channels + l.channel) 0 / 2 ^ (7 - i % 8) % 2
