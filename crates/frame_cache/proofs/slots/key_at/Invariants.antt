-- The frame at the place is found in the slots that are left, at the place less the frames passed.
use Rattle.std.proofs.Common.{◌≡◌, slice_get}
use Rattle.frame_cache.specs.Slots.{frames_in, held_in}
use Rattle.frame_cache.proofs.slots.key_at.Given as goal

abbrev pub invariant-loop-slot : goal.invariant-loop-slot
invariant-loop-slot l =
    (goal.iterator-loop-slot).can_next l.slot-iterator × (goal.iterator-loop-slot).is_finite l.slot-iterator
    × (slice_get (frames_in (held_in l.slot-iterator)) l.left ≡ slice_get (frames_in (held_in l.slots.entries)) l.place)
