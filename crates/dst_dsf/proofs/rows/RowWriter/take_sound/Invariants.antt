-- A front of the piece is taken.
use Rattle.std.proofs.Common.{◌≡◌, ℕ, ◌+◌, ◌-◌, ◌≤◌, ◌++◌, List, length, take, Option}
use Rattle.dst_dsf.specs.Gathering.{HasTaken}
use Rattle.dst_dsf.proofs.rows.RowWriter.take_sound.Given as goal

abbrev pub invariant-loop-place : goal.invariant-loop-place
invariant-loop-place g l = record {
  within : l.place ≤ length l.piece;
  lent : l.self.sink.ghost_name ≡ l.initial.self.sink.ghost_name;
  form : l.self.row.form ≡ l.initial.self.row.form;
  size : l.self.row.size ≡ l.initial.self.row.size;
  taken : l.self.row.taken ≡ l.initial.self.row.taken + l.place;
  later : g.K.Sink.faults l.initial.self.sink.now ≤ g.K.Sink.faults l.self.sink.now;
  written : (sound : List ℕ) (old : Option (List ℕ)) (room : Option ℕ) → HasTaken g.K.Sink.written g.K.Sink.room sound old room l.initial.self →
      HasTaken g.K.Sink.written g.K.Sink.room (sound ++ take l.place l.piece) old room l.self;
}

abbrev pub decreases-loop-place : goal.decreases-loop-place
decreases-loop-place g l = length l.piece - l.place
