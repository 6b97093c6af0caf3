-- The channels so far have their samples and next waves, and those to come are as at first.
use Rattle.std.proofs.Common.{◌≡◌, ℕ, ◌+◌, ◌*◌, ◌%◌, ◌<◌, ◌≤◌, length, get_or, take}
use Rattle.dsdiff_spec.specs.Made.{at_time}
use Rattle.sound_maker.proofs.Making.{still}
use Rattle.sound_maker.proofs.maker.sample_each.Given as goal

abbrev pub invariant-loop-channel : goal.invariant-loop-channel
invariant-loop-channel l =
    (take l.channel l.waves ≡ (at_time l.time 0 (take l.channel l.initial.waves) l.initial.generator).waves)
    × (l.generator ≡ (at_time l.time 0 (take l.channel l.initial.waves) l.initial.generator).generator)
    × ((c : ℕ) → c < l.channel → get_or l.bytes c 0
    ≡ get_or l.initial.bytes c 0 % 128 * 2 + get_or (at_time l.time 0 (take l.channel l.initial.waves) l.initial.generator).samples c 0)
    × ((c : ℕ) → l.channel ≤ c → get_or l.waves c still ≡ get_or l.initial.waves c still)
    × ((c : ℕ) → l.channel ≤ c → get_or l.bytes c 0 ≡ get_or l.initial.bytes c 0)
    × (length l.waves ≡ 6)
    × (length l.initial.waves ≡ 6)
    × (length l.bytes ≡ 6)
