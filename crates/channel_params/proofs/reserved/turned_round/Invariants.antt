-- The low bits so far are turned round, and the higher ones are left.
use Rattle.std.proofs.Common.{◌≡◌, ◌/◌, ◌^◌}
use Rattle.channel_params.specs.Reserved.{turned}
use Rattle.channel_params.proofs.reserved.turned_round.Given as goal

abbrev pub invariant-loop-place : goal.invariant-loop-place
invariant-loop-place l = (l.number ≡ turned l.place l.bits) × (l.left ≡ l.bits / 2 ^ l.place)
