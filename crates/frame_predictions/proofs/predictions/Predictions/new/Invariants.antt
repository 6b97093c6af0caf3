-- The rows so far have one code for each sample of a channel.
use Rattle.std.proofs.Common.{◌≡◌, length, All}
use Rattle.frame_predictions.proofs.predictions.Predictions.new.Given as goal

abbrev pub invariant-loop : goal.invariant-loop
invariant-loop l = record {
  count : length l.rows.items ≡ l.counter;
  long : All (λ row. length row.codes.items ≡ l.samples) l.rows.items;
}
