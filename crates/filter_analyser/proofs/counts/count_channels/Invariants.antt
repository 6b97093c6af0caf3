-- The codes of the channels so far are counted, and the row has a place for each sample of a channel.
use Rattle.std.proofs.Common.{◌≡◌, ℕ, ◌<◌, ◌==◌, length, get_or, take}
use Rattle.dst_spec.specs.Sample.{samples}
use Rattle.level_spec.specs.Counts.{count_from}
use Rattle.frame_predictions.specs.Codes.{code_at}
use Rattle.filter_analyser.proofs.counts.count_channels.Given as goal

abbrev pub invariant-loop-member : goal.invariant-loop-member
invariant-loop-member l =
    (length l.counts ≡ 128)
    × ((q : ℕ) → q < 128 → get_or l.counts q 0 ≡ count_from l.first l.channels (λ c t. code_at l.channels l.sound c l.known t == q)
    (take l.member-index l.members))
    × (length l.row ≡ samples l.channels)
