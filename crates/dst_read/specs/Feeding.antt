-- Feeding: the stored frames of a form, read in order.
use Rattle.std.specs.Prelude.{◌≡◌, ℕ, ◌+◌, ◌*◌, ◌^◌, ◌<◌, ◌≤◌, Bool, not, ◌&&◌, if◌then◌else◌, List, length, drop, sum_by, Option, Some, None}
use Rattle.std.specs.List.{list_all}
use Rattle.dst_spec.specs.Sample.{Shape, sound_bytes}
use Rattle.dst_streams.specs.Causes.{Rose}
use Rattle.dst_streams.specs.declared.source.Failed.{Failed}
use Rattle.dsdiff_spec.specs.Bytes.{◌below◌, ◌above◌}
use Rattle.dsdiff_spec.specs.Walk.{Entry, entry, frame_at}
use Rattle.dst_commands.specs.Rooms.{shape_number}
use Rattle.dst_read.specs.Jobs.{stored_in}
use Rattle.dst_read.specs.declared.jobs.Job.{Job}
use Rattle.dst_read.specs.declared.feed.StoredFrames.{StoredFrames}

-- a frame lies in a source of this size, and isn't too long for its buffer
abbrev pub lies_in : ℕ → Shape → Entry → Bool
lies_in size f e = not (e.offset + e.size above size) && e.offset + e.size below 2 ^ 64 && not (e.size above 2 * (sound_bytes f + 1))

-- the number of the jobs' shape, and 1, which no job has, where the source doesn't have the frames
abbrev pub feed_shape : Option ℕ → List Entry → Shape → ℕ
feed_shape None index f = 1
feed_shape (Some size) index f = if f.channels below 8 && list_all (lies_in size f) index then shape_number f else 1

-- bytes of the stored frames that entries name, and of those that a feed has not come to
abbrev pub bytes_of_entries : List Entry → ℕ
bytes_of_entries es = sum_by (λ e. e.size) es

abbrev pub bytes_left : {S : Type 0} → StoredFrames S → ℕ
bytes_left s = bytes_of_entries (drop s.next s.walked.now.index)

-- it is the same feed, later on: the source gave each stored byte that is no longer left once at most
pub record IsLater {S : Type 0} (bytes : S → Option (List ℕ)) (known : S → Option ℕ) (faults gave : S → ℕ) (s t : StoredFrames S) : Type 0 where
  pub lent : t.source.ghost_name ≡ s.source.ghost_name
  pub index_is : t.walked.now.index ≡ s.walked.now.index
  pub bytes_are : bytes t.source.now ≡ bytes s.source.now
  pub size_is : known t.source.now ≡ known s.source.now
  pub later : faults s.source.now ≤ faults t.source.now
  pub once : gave t.source.now + bytes_left t ≤ gave s.source.now + bytes_left s

-- the next frame is read
pub record GivesFrame {S : Type 0} (bytes : S → Option (List ℕ)) (known : S → Option ℕ) (faults gave : S → ℕ) (s : StoredFrames S) (job : Job)
    (t : StoredFrames S) : Type 0 where
  pub same : IsLater bytes known faults gave s t
  pub next : t.next ≡ s.next + 1
  pub within : s.next < length s.walked.now.index
  pub number : job.number ≡ s.next
  pub frame : (file : List ℕ) → bytes s.source.now ≡ Some file → stored_in job ≡ frame_at file (entry s.walked.now.index s.next)

-- the source failed
pub record FailsToRead {S : Type 0} (bytes : S → Option (List ℕ)) (known : S → Option ℕ) (faults gave : S → ℕ) (s : StoredFrames S) (failed : Failed)
    (t : StoredFrames S) : Type 0 where
  pub same : IsLater bytes known faults gave s t
  pub rose : Rose (faults s.source.now) (faults t.source.now)
