-- Parameters of the orders so far are found, for each channel and then shared, and the sound stays.
use Rattle.std.proofs.Common.{◌≡◌, ◌++◌, map, take}
use Rattle.level_spec.specs.Picks.{per_channel, shared, orders}
use Rattle.filter_analyser.proofs.picker.pick_all.Given as goal

abbrev pub invariant-loop-own : goal.invariant-loop-own
invariant-loop-own l = record {
  found : l.found.items ≡ map (per_channel l.channels l.fn.sound) (take l.own orders);
  sound : l.predictions.sound ≡ l.fn.predictions.sound;
  channels : l.predictions.channels ≡ l.fn.predictions.channels;
}

abbrev pub invariant-loop-place : goal.invariant-loop-place
invariant-loop-place l = record {
  found : l.found.items ≡ map (per_channel l.channels l.fn.sound) orders ++ map (shared l.channels l.fn.sound) (take l.place orders);
  sound : l.predictions.sound ≡ l.fn.predictions.sound;
  channels : l.predictions.channels ≡ l.fn.predictions.channels;
}
