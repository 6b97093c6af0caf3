-- The symbols of the channels so far stand at their places.
use Rattle.std.proofs.Common.{◌≡◌, length}
use Rattle.frame_store.proofs.Placed.{ArePlaced}
use Rattle.frame_store.proofs.lay_out.lay_out.Given as goal

abbrev pub invariant-loop-c : goal.invariant-loop-c
invariant-loop-c l = record {
  many : length l.symbols ≡ length l.initial.symbols;
  sound : l.predictions.sound ≡ l.initial.predictions.sound;
  channels : l.predictions.channels ≡ l.initial.predictions.channels;
  placed : ArePlaced l.initial.predictions.channels l.params l.initial.predictions.sound l.symbols l.c;
}
