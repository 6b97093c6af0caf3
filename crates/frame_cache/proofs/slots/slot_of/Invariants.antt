-- What is found in the slots that are left is what is found in all of them.
use Rattle.std.proofs.Common.{◌≡◌}
use Rattle.frame_cache.specs.Slots.{slot_of}
use Rattle.frame_cache.proofs.slots.slot_of.Given as goal

abbrev pub invariant-loop-number : goal.invariant-loop-number
invariant-loop-number l =
    (goal.iterator-loop-number).can_next l.number-iterator × (goal.iterator-loop-number).is_finite l.number-iterator
    × (slot_of l.number-iterator l.frame ≡ slot_of l.slots.entries l.frame)
