-- Sound that is gathered into rows of blocks.
use Rattle.std.specs.Prelude.{◌≡◌, ℕ, ◌*◌, ◌/◌, ◌≤◌, List, length, Option}
use Rattle.dsdiff_spec.specs.Dsf.{Dsf}
use Rattle.dsf_files.specs.Forms.{dsf_seen}
use Rattle.dst_commands.specs.Writing.{Adds, Stops}
use Rattle.dst_dsf.specs.declared.rows.RowWriter.{RowWriter}
use Rattle.dst_dsf.specs.Rows.{rows_of, HasRow}

-- so much of a sound is taken: its whole rows are written, to a sink that told this and had this sure room, and the next row has the rest
pub record HasTaken {K : Type 0} (written : K → Option (List ℕ)) (room : K → Option ℕ) (sound : List ℕ) (old : Option (List ℕ)) (before : Option ℕ)
    (s : RowWriter K) : Type 0 where
  pub count : s.row.taken ≡ length sound
  pub row : HasRow s.row.form.channels.channels sound (s.row.taken / (4096 * s.row.form.channels.channels)) s.row.bytes
  pub adds : Adds (rows_of (dsf_seen s.row.form) sound (s.row.taken / (4096 * s.row.form.channels.channels))) old (written s.sink.now) before (room s.sink.now)

-- the sink failed at a row that the sound fills whole
pub record FailsAtRow (d : Dsf) (sound : List ℕ) (old new : Option (List ℕ)) (before : Option ℕ) : Type 0 where
  pub rows : ℕ
  pub within : rows * (4096 * d.channels) ≤ length sound
  pub stops : Stops (Unit {0}) (rows_of d sound rows) old new before
