-- The slots so far hold no frame, and their numbers are below the next one.
use Rattle.std.proofs.Common.{◌≡◌}
use Rattle.frame_cache.proofs.Renewing.{AreMade}
use Rattle.frame_cache.proofs.slots.fresh_slots.Given as goal

abbrev pub invariant-loop-number : goal.invariant-loop-number
invariant-loop-number l = record { capacity : l.slots.cap ≡ l.capacity; made : AreMade l.number l.bytes l.slots.entries }
