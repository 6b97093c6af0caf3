-- The channels so far have their rows and steps, with at most one row more for each, and no row has changed.
use Rattle.std.proofs.Common.{◌≡◌, ◌+◌, ◌≤◌, length}
use Rattle.frame_store.specs.Coded.{AreCoded, Stay}
use Rattle.frame_store.proofs.coded.code_channels.Given as goal

abbrev pub invariant-loop-c : goal.invariant-loop-c
invariant-loop-c l = record {
  six : length l.coded ≡ 6;
  sound : l.predictions.sound ≡ l.initial.predictions.sound;
  channels : l.predictions.channels ≡ l.initial.predictions.channels;
  few : length l.predictions.rows ≤ length l.initial.predictions.rows + l.c;
  stay : Stay l.initial.predictions.rows l.predictions.rows;
  coded : AreCoded l.params l.predictions.rows l.coded l.c;
}
