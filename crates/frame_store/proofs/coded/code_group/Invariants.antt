-- The candidates so far have their channels in their lanes and the steps of their reserved symbols.
use Rattle.std.proofs.Common.{◌≡◌, ℕ, ◌*◌, ◌<◌, ◌≤◌, false, [], length, get_or}
use Rattle.dst_spec.specs.Header.{Params}
use Rattle.dst_spec.specs.Symbols.{reserved_probability}
use Rattle.arith_encoder.specs.Lanes.{IsStep}
use Rattle.frame_store.specs.Coded.{AreCoded}
use Rattle.frame_store.proofs.coded.code_group.Given as goal

abbrev pub invariant-loop-lane : goal.invariant-loop-lane
invariant-loop-lane l = record {
  eight : length l.lanes ≡ 8;
  eight_reserved : length l.reserved ≡ 8;
  sound : l.predictions.sound ≡ l.initial.predictions.sound;
  channels : l.predictions.channels ≡ l.initial.predictions.channels;
  few : length l.predictions.rows ≤ l.lane * l.initial.predictions.channels.channels;
  reserved : (lane : ℕ) (other : Params) → lane < l.lane → IsStep false (reserved_probability (get_or l.group lane other)) (get_or l.reserved lane 0);
  coded : (lane : ℕ) (other : Params) → lane < l.lane
      → AreCoded (get_or l.group lane other) l.predictions.rows (get_or l.lanes lane []) l.initial.predictions.channels.channels;
}
