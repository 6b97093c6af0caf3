-- Frames that are stored: the room that they need, and how their run ends.
use Rattle.std.specs.Prelude.{◌≡◌, ℕ, ◌+◌, ◌≤◌, List, All, length, replicate, Option, Some, Result, IfErr, OnOk}
use Rattle.dst_spec.specs.Sample.{Shape, sound_bytes}
use Rattle.dst_streams.specs.Told.{Loan}
use Rattle.dsdiff_spec.specs.Coded.{Picks, stored_frames}
use Rattle.dsdiff_chunks.specs.Forms.{plain_seen}
use Rattle.dst_commands.specs.Rooms.{jobs_in}
use Rattle.dst_write.specs.declared.faults.EncodeFault.{EncodeFault}
use Rattle.dst_write.specs.declared.feed.SoundPieces.{SoundPieces}
use Rattle.dst_write.specs.declared.drain.FrameWriter.{FrameWriter}
use Rattle.dst_write.specs.declared.frames.Workspace.{Workspace}
use Rattle.dst_write.specs.Jobs.{AreJobsFor, AreScratchesFor}
use Rattle.dst_write.specs.Feeding as feeding
use Rattle.dst_write.specs.Draining as draining
use Rattle.dst_write.specs.Encoding.{FramesEnd, HasItsCause}

-- what workers store with, jobs for frames of this shape, as many as these workers have, a size 0 for each frame, and a buffer of 65,536 bytes
pub record HasRoomFor (f : Shape) (frames : ℕ) (w : Workspace) : Type 0 where
  pub scratches : AreScratchesFor f w.scratches.items
  pub jobs : AreJobsFor f w.jobs.items
  pub count : length w.jobs.items ≡ jobs_in f frames (length w.scratches.items)
  pub sizes : w.sizes.items ≡ replicate frames 0
  pub buffer : length w.buffer.items ≡ 65536

-- the pieces of a feed were stored, and drained as frames, up to the first cause to stop
pub record HasRun {S K : Type 0} (bytes : S → Option (List ℕ)) (known : S → Option ℕ) (loan : S → Loan) (faults gave : S → ℕ)
    (written : K → Option (List ℕ)) (appended : K → ℕ) (room : K → Option ℕ) (sink_faults : K → ℕ)
    (picks : Picks) (s s' : SoundPieces S) (t t' : FrameWriter K) (result : Result (Unit {0}) EncodeFault) : Type 0 where
  pub feed : feeding.IsLater bytes known loan faults gave s s'
  pub drain : draining.IsLater appended sink_faults t t'
  pub short : OnOk result (All (λ n. n ≤ 1 + sound_bytes s.form.now.channels) t'.sizes.now)
  pub cause : IfErr result (λ fault. HasItsCause fault (faults s.source.now) (faults s'.source.now) (sink_faults t.sink.now) (sink_faults t'.sink.now))
  pub ends : (file : List ℕ) → bytes s.source.now ≡ Some file →
      FramesEnd result (stored_frames picks file (plain_seen s.form.now)) t'.sizes.now (written t.sink.now) (written t'.sink.now) (room t.sink.now)
      (room t'.sink.now)
