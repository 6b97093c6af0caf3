-- Frames that are worked: the room that they need, a feed before its first frame, and how their run ends.
use Rattle.std.specs.Prelude.{◌≡◌, ℕ, List, length, Option, Some, Result, IfErr}
use Rattle.dst_spec.specs.Sample.{Shape}
use Rattle.dsdiff_spec.specs.Form.{Form}
use Rattle.dst_commands.specs.Rooms.{jobs_in}
use Rattle.dst_read.specs.declared.faults.DecodeFault.{DecodeFault}
use Rattle.dst_read.specs.declared.feed.StoredFrames.{StoredFrames}
use Rattle.dst_read.specs.declared.drain.SoundWriter.{SoundWriter}
use Rattle.dst_read.specs.declared.frames.Workspace.{Workspace}
use Rattle.dst_read.specs.Jobs.{AreJobsFor, AreTablesFor}
use Rattle.dst_read.specs.Feeding as feeding
use Rattle.dst_read.specs.Draining as draining
use Rattle.dst_read.specs.Decoding.{FramesEnd, HasItsCause}

-- what workers decode with, jobs for frames of this shape, as many as these workers have, and a buffer of 65,536 bytes
pub record HasRoomFor (f : Shape) (frames : ℕ) (w : Workspace) : Type 0 where
  pub tables : AreTablesFor f w.tables.items
  pub jobs : AreJobsFor f w.jobs.items
  pub count : length w.jobs.items ≡ jobs_in f frames (length w.tables.items)
  pub buffer : length w.buffer.items ≡ 65536

-- the frames of a feed were worked, and their sounds drained, up to the first cause to stop
pub record HasRun {S K : Type 0} (bytes : S → Option (List ℕ)) (known : S → Option ℕ) (faults gave : S → ℕ) (written : K → Option (List ℕ))
    (room : K → Option ℕ)
    (sink_faults : K → ℕ) (form : Form) (s s' : StoredFrames S) (t t' : SoundWriter K) (result : Result (Unit {0}) DecodeFault) : Type 0 where
  pub feed : feeding.IsLater bytes known faults gave s s'
  pub drain : draining.IsLater sink_faults t t'
  pub cause : IfErr result (λ fault. HasItsCause fault (faults s.source.now) (faults s'.source.now) (sink_faults t.sink.now) (sink_faults t'.sink.now))
  pub ends : (file : List ℕ) → bytes s.source.now ≡ Some file →
      FramesEnd result file form (written t.sink.now) (written t'.sink.now) (room t.sink.now) (room t'.sink.now)
