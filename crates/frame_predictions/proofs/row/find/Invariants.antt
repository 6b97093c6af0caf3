-- None of the rows so far is that of the channel with the filter.
use Rattle.std.proofs.Common.{◌≡◌, ℕ, ◌<◌, get_or}
use Rattle.frame_predictions.specs.Rows.{predicted}
use Rattle.frame_predictions.specs.declared.row.Row.{Row}
use Rattle.frame_predictions.proofs.row.find.Given as goal

abbrev pub invariant-loop-place : goal.invariant-loop-place
invariant-loop-place l = record {
  first : (k : ℕ) (other : Row) → k < l.place → predicted (get_or l.rows k other) ≡ record { channel = l.channel; filter = l.filter } → ⊥;
}
