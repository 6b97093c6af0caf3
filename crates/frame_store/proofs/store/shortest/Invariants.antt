-- The choice is the first of the shortest among the plain form and the candidates measured so far.
use Rattle.std.proofs.Common.{◌≡◌, ◌+◌, ◌-◌, ◌≤◌, length}
use Rattle.frame_store.specs.Choosing.{IsChosen}
use Rattle.frame_store.proofs.store.shortest.Given as goal

abbrev pub invariant-loop-first : goal.invariant-loop-first
invariant-loop-first l = record {
  inside : l.first ≤ length l.found;
  many : length l.symbols ≡ length l.fn.symbols;
  steps : length l.steps ≡ length l.fn.steps;
  sound : l.predictions.sound ≡ l.fn.predictions.sound;
  channels : l.predictions.channels ≡ l.fn.predictions.channels;
  fits : l.choice.least ≤ 1 + l.bytes;
  chosen : IsChosen l.fn.predictions.channels l.fn.predictions.sound l.found l.first l.choice.best l.choice.least;
}

abbrev pub decreases-loop-first : goal.decreases-loop-first
decreases-loop-first l = length l.found - l.first
