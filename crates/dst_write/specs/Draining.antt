-- Draining: what becomes of stored frames.
use Rattle.std.specs.Prelude.{◌≡◌, ℕ, ◌≤◌, List, length, slice_set, Option}
use Rattle.dst_streams.specs.Causes.{Rose}
use Rattle.dsdiff_spec.specs.Written.{dstf}
use Rattle.dst_write.specs.declared.faults.EncodeFault.{EncodeFault}
use Rattle.dst_write.specs.declared.faults.EncodeFault.TheVariants.{Write}
use Rattle.dst_write.specs.declared.jobs.Job.{Job}
use Rattle.dst_write.specs.declared.drain.FrameWriter.{FrameWriter}
use Rattle.dst_write.specs.Jobs.{frame_in}
use Rattle.dst_commands.specs.Writing.{Adds, Stops}

-- it is the same drain, later on
pub record IsLater {K : Type 0} (appended faults : K → ℕ) (s t : FrameWriter K) : Type 0 where
  pub lent : t.sink.ghost_name ≡ s.sink.ghost_name
  pub sizes_lent : t.sizes.ghost_name ≡ s.sizes.ghost_name
  pub long : length t.sizes.now ≡ length s.sizes.now
  pub grows : appended s.sink.now ≤ appended t.sink.now
  pub later : faults s.sink.now ≤ faults t.sink.now

-- the frame is written in a chunk of its own, and its size noted at its number
pub record TakesFrame {K : Type 0} (written : K → Option (List ℕ)) (appended : K → ℕ) (room : K → Option ℕ) (faults : K → ℕ) (s : FrameWriter K)
    (job : Job) (t : FrameWriter K) : Type 0 where
  pub same : IsLater appended faults s t
  pub adds : Adds (dstf (frame_in job)) (written s.sink.now) (written t.sink.now) (room s.sink.now) (room t.sink.now)
  pub noted : t.sizes.now ≡ slice_set s.sizes.now job.number job.size

-- the sink fails at the frame
pub record FailsAtFrame {K : Type 0} (written : K → Option (List ℕ)) (appended : K → ℕ) (room : K → Option ℕ) (faults : K → ℕ) (s : FrameWriter K)
    (job : Job) (fault : EncodeFault) (t : FrameWriter K) : Type 0 where
  pub same : IsLater appended faults s t
  pub is_write : fault ≡ Write
  pub stops : Stops (Unit {0}) (dstf (frame_in job)) (written s.sink.now) (written t.sink.now) (room s.sink.now)
  pub rose : Rose (faults s.sink.now) (faults t.sink.now)
