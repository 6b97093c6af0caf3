-- Jobs: the buffers that a frame is worked in, described by one number, and what the work leaves in them.
use Rattle.std.specs.Prelude.{◌≡◌, ℕ, ◌+◌, ◌*◌, ◌<◌, ◌≤◌, Bool, not, ◌&&◌, ◌==◌, if◌then◌else◌, List, All, length, take, MatchResult, vec_capacity}
use Rattle.dst_spec.specs.Sample.{Shape, IsShape, sound_bytes}
use Rattle.dst_spec.specs.Means.{MeansWithTail}
use Rattle.dst_spec.specs.Offends.{Offends}
use Rattle.dst_spec.specs.declared.faults.FrameFault.{FrameFault}
use Rattle.dsdiff_spec.specs.Bytes.{◌below◌, ◌above◌}
use Rattle.dst_commands.specs.Rooms.{shape_number}
use Rattle.dst_read.specs.declared.jobs.Job.{Job}
use Rattle.dst_read.specs.declared.jobs.Tables.{Tables}

-- a frame that is read takes at most so many bytes
abbrev pub longest : Shape → ℕ
longest f = 2 * (sound_bytes f + 1)

-- The frame of this size lies in its buffer, which has room for the longest one and is no longer than that. The sound's buffer is as long as the sound.
abbrev pub has_room : (size long room sound : ℕ) → Shape → Bool
has_room size long room sound f =
    f.channels below 8 && not (size above long) && not (long above longest f) && not (longest f above room) && sound == sound_bytes f

-- the number of the shape, and 0 where the buffers don't have this room
abbrev pub room_number : (size long room sound : ℕ) → Shape → ℕ
room_number size long room sound f = if has_room size long room sound f then shape_number f else 0

-- the number of a job's shape
abbrev pub shape_of_job : Job → ℕ
shape_of_job j = room_number j.size (length j.frame.items) (vec_capacity j.frame) (length j.sound.items) j.channels

-- at least one job, and each is of this shape
pub record AreJobsFor (f : Shape) (jobs : List Job) : Type 0 where
  pub lawful : IsShape f
  pub some : 0 < length jobs
  pub shapes : All (λ j. shape_of_job j ≡ shape_number f) jobs

-- the number of the shape of what a worker decodes with
abbrev pub shape_of_tables : Tables → ℕ
shape_of_tables t = if t.scratch.channels.channels below 8 then shape_number t.scratch.channels else 0

-- one to sixteen of them, each of this shape
pub record AreTablesFor (f : Shape) (tables : List Tables) : Type 0 where
  pub some : 0 < length tables
  pub few : length tables ≤ 16
  pub shapes : All (λ t. shape_of_tables t ≡ shape_number f) tables

-- ---- the stored bytes of a job's frame, and what decoding them answers
abbrev pub stored_in : Job → List ℕ
stored_in j = take j.size j.frame.items

-- the frame means a sound with so many unread bytes behind it, and isn't refused
pub record IsHeard (f : Shape) (frame sound : List ℕ) (tail : ℕ) : Type 0 where
  pub means : MeansWithTail f frame sound tail
  pub not_refused : (fault : FrameFault) → Offends f frame fault → ⊥

-- the job's frame was decoded
pub record IsWorked (f : Shape) (before after : Job) : Type 0 where
  pub number : after.number ≡ before.number
  pub answer : MatchResult after.answer (IsHeard f (stored_in before) after.sound.items) (Offends f (stored_in before))
