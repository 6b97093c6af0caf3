-- The bits of the bytes so far stand at the low end of the stretch, with nothing above them.
use Rattle.std.proofs.Common.{◌≡◌, ℕ, ◌+◌, ◌-◌, ◌*◌, ◌/◌, ◌%◌, ◌^◌, ◌<◌, get_or}
use Rattle.filter_analyser.proofs.stretches.stretch_at.Given as goal

abbrev pub invariant-loop-byte : goal.invariant-loop-byte
invariant-loop-byte l =
    (l.stretch < 2 ^ (8 * l.byte))
    × ((i : ℕ) → i < 8 * l.byte → l.stretch / 2 ^ (8 * l.byte - 1 - i) % 2
    ≡ get_or l.sound ((l.first + i / 8) * l.channels + l.channel) 0 / 2 ^ (7 - i % 8) % 2)
