-- There is a zero for each channel so far.
use Rattle.std.proofs.Common.{◌≡◌, replicate}
use Rattle.frame_header.proofs.maps.zeros.Given as goal

abbrev pub invariant-loop-channel : goal.invariant-loop-channel
invariant-loop-channel l = l.elements.items ≡ replicate l.channel 0
