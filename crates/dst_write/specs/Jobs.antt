-- Jobs: the buffers that a frame is stored in, described by one number, and what the work leaves in them.
use Rattle.std.specs.Prelude.{◌≡◌, ℕ, ◌+◌, ◌<◌, ◌≤◌, if◌then◌else◌, List, All, length, take}
use Rattle.dst_spec.specs.Sample.{Shape, IsShape, sound_bytes}
use Rattle.dst_spec.specs.Spell.{stored}
use Rattle.dsdiff_spec.specs.Bytes.{◌below◌}
use Rattle.dsdiff_spec.specs.Coded.{Picks}
use Rattle.dst_commands.specs.Rooms.{shape_number, room_number}
use Rattle.dst_write.specs.declared.jobs.Job.{Job}
use Rattle.dst_write.specs.declared.jobs.Scratch.{Scratch}

-- no stored frame is longer than the plain form
abbrev pub longest : Shape → ℕ
longest f = 1 + sound_bytes f

-- the number of a job's shape, and 0 where its buffers don't have this room
abbrev pub shape_of_job : Job → ℕ
shape_of_job j = room_number longest j.size (length j.frame.items) (length j.sound.items) j.channels

-- at least one job, and each is of this shape
pub record AreJobsFor (f : Shape) (jobs : List Job) : Type 0 where
  pub lawful : IsShape f
  pub some : 0 < length jobs
  pub shapes : All (λ j. shape_of_job j ≡ shape_number f) jobs

-- the number of the shape of what a worker stores with
abbrev pub shape_of_scratch : Scratch → ℕ
shape_of_scratch s = if s.store.channels.channels below 8 then shape_number s.store.channels else 0

-- one to sixteen of them, each of this shape
pub record AreScratchesFor (f : Shape) (scratches : List Scratch) : Type 0 where
  pub some : 0 < length scratches
  pub few : length scratches ≤ 16
  pub shapes : All (λ s. shape_of_scratch s ≡ shape_number f) scratches

-- ---- the stored bytes of a job's frame
abbrev pub frame_in : Job → List ℕ
frame_in j = take j.size j.frame.items

-- the job's sound was stored, by what is picked for it
pub record IsStored (f : Shape) (picks : Picks) (before after : Job) : Type 0 where
  pub number : after.number ≡ before.number
  pub frame : frame_in after ≡ stored f before.sound.items (picks before.sound.items f)
  pub size : after.size ≡ length (frame_in after)
  pub short : after.size ≤ 1 + sound_bytes f
