-- The channels so far have their solution of the order.
use Rattle.std.proofs.Common.{◌≡◌, ℕ, ◌<◌, [], length, get_or}
use Rattle.filter_analyser.proofs.picker.of_order.Given as goal

abbrev pub invariant-loop-c : goal.invariant-loop-c
invariant-loop-c l = (length l.own ≡ 6) × ((c : ℕ) → c < l.c → get_or l.own c [] ≡ get_or (get_or l.solved c []) l.place [])
