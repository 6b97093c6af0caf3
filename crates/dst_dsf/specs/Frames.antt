-- Frames that are decoded into rows of blocks: how their run ends.
use Rattle.std.specs.Prelude.{◌≡◌, ◌⊎◌, ℕ, ◌*◌, ◌/◌, ◌≤◌, List, length, Option, Some, Result, Ok, Err, IfErr, OnOk}
use Rattle.dsdiff_spec.specs.Dsf.{Dsf, rows}
use Rattle.dsdiff_spec.specs.Form.{Form}
use Rattle.dsdiff_spec.specs.Progress.{AreDecoded}
use Rattle.dst_streams.specs.Told.{and_then}
use Rattle.dsf_files.specs.Forms.{dsf_seen}
use Rattle.dst_commands.specs.Writing.{Adds, Stops}
use Rattle.dst_read.specs.declared.faults.DecodeFault.{DecodeFault}
use Rattle.dst_read.specs.declared.faults.DecodeFault.TheVariants.{Write, Frame}
use Rattle.dst_read.specs.declared.feed.StoredFrames.{StoredFrames}
use Rattle.dst_read.specs.Decoding.{StopsAt, HasItsCause, sound_of}
use Rattle.dst_read.specs.Feeding as feeding
use Rattle.dst_dsf.specs.declared.rows.RowWriter.{RowWriter}
use Rattle.dst_dsf.specs.Rows.{rows_of}
use Rattle.dst_dsf.specs.Gathering.{HasTaken}
use Rattle.dst_dsf.specs.Draining as draining

-- it stopped at a row that the sound fills whole; where the sink is at fault, its sure room had no place for the rows up to it
pub record IsStoppedInRows (sink_is_at_fault : Type 0) (d : Dsf) (sound : List ℕ) (old new : Option (List ℕ)) (before : Option ℕ) : Type 0 where
  pub rows : ℕ
  pub within : rows * (4096 * d.channels) ≤ length sound
  pub stops : Stops sink_is_at_fault (rows_of d sound rows) old new before

-- the rows that the sounds of the frames fill, in front of the first one that is refused
abbrev pub RowsEnd : {K : Type 0} → (K → Option (List ℕ)) → (K → Option ℕ) → Result (Unit {0}) DecodeFault → List ℕ → Form → (old : Option (List ℕ)) →
    (before : Option ℕ) → RowWriter K → Type 0
RowsEnd written room (Ok u) file form old before t =
    (sounds : List (List ℕ)) × AreDecoded file form form.frames sounds × HasTaken written room (sound_of form sounds) old before t
RowsEnd written room (Err (Frame k fault)) file form old before t =
    (sounds : List (List ℕ)) × StopsAt file form k fault sounds
    × (written t.sink.now ≡ and_then old (rows_of (dsf_seen t.row.form) (sound_of form sounds)
    (length (sound_of form sounds) / (4096 * t.row.form.channels.channels))))
RowsEnd written room (Err fault) file form old before t =
    (k : ℕ) × (sounds : List (List ℕ)) × AreDecoded file form k sounds × (k ≤ form.frames)
    × IsStoppedInRows (fault ≡ Write) (dsf_seen t.row.form) (sound_of form sounds) old (written t.sink.now) before

-- the frames of a feed were decoded, and their sounds drained, up to the first cause to stop
pub record HasRun {S K : Type 0} (bytes : S → Option (List ℕ)) (known : S → Option ℕ) (faults gave : S → ℕ) (written : K → Option (List ℕ))
    (room : K → Option ℕ)
    (sink_faults : K → ℕ) (form : Form) (s s' : StoredFrames S) (t t' : RowWriter K) (result : Result (Unit {0}) DecodeFault) : Type 0 where
  pub feed : feeding.IsLater bytes known faults gave s s'
  pub drain : draining.IsLater sink_faults t t'
  pub all : OnOk result (t'.row.taken ≡ t'.row.size)
  pub cause : IfErr result (λ fault. HasItsCause fault (faults s.source.now) (faults s'.source.now) (sink_faults t.sink.now) (sink_faults t'.sink.now))
  pub ends : (file : List ℕ) → bytes s.source.now ≡ Some file →
      RowsEnd written room result file form (written t.sink.now) (room t.sink.now) t'

-- the rows of the whole sound are written, or those in front of the first frame that is refused; or a device failed at some of them
abbrev pub FramesEnd : Result (Unit {0}) DecodeFault → List ℕ → Form → Dsf → (old new : Option (List ℕ)) → (room left : Option ℕ) → Type 0
FramesEnd (Ok u) file form d old new room left =
    (sounds : List (List ℕ)) × AreDecoded file form form.frames sounds × Adds (rows_of d (sound_of form sounds) (rows d)) old new room left
FramesEnd (Err (Frame k fault)) file form d old new room left =
    (sounds : List (List ℕ)) × StopsAt file form k fault sounds
    × (new ≡ and_then old (rows_of d (sound_of form sounds) (length (sound_of form sounds) / (4096 * d.channels))))
FramesEnd (Err fault) file form d old new room left =
    (k : ℕ) × (sounds : List (List ℕ)) × AreDecoded file form k sounds × (k ≤ form.frames)
    × (IsStoppedInRows (fault ≡ Write) d (sound_of form sounds) old new room
    ⊎ ((k ≡ form.frames) × Stops (fault ≡ Write) (rows_of d (sound_of form sounds) (rows d)) old new room))

-- and so of a feed and a drain
pub record HasWritten {S K : Type 0} (bytes : S → Option (List ℕ)) (known : S → Option ℕ) (faults gave : S → ℕ) (written : K → Option (List ℕ))
    (room : K → Option ℕ)
    (sink_faults : K → ℕ) (form : Form) (s s' : StoredFrames S) (t t' : RowWriter K) (result : Result (Unit {0}) DecodeFault) : Type 0 where
  pub feed : feeding.IsLater bytes known faults gave s s'
  pub lent : t'.sink.ghost_name ≡ t.sink.ghost_name
  pub later : sink_faults t.sink.now ≤ sink_faults t'.sink.now
  pub cause : IfErr result (λ fault. HasItsCause fault (faults s.source.now) (faults s'.source.now) (sink_faults t.sink.now) (sink_faults t'.sink.now))
  pub ends : (file : List ℕ) → bytes s.source.now ≡ Some file →
      FramesEnd result file form (dsf_seen t.row.form) (written t.sink.now) (written t'.sink.now) (room t.sink.now) (room t'.sink.now)
