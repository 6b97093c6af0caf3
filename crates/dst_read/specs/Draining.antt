-- Draining: what becomes of worked frames, up to the first one that is refused.
use Rattle.std.specs.Prelude.{◌≡◌, ℕ, ◌+◌, ◌-◌, ◌^◌, ◌<◌, ◌≤◌, min, List, length, take, Option, Ok, Err}
use Rattle.dst_streams.specs.Causes.{Rose}
use Rattle.dst_spec.specs.declared.faults.FrameFault.{FrameFault}
use Rattle.dst_read.specs.declared.faults.CheckFault.{CheckFault}
use Rattle.dst_read.specs.declared.faults.CheckFault.TheVariants as check
use Rattle.dst_read.specs.declared.faults.DecodeFault.{DecodeFault}
use Rattle.dst_read.specs.declared.faults.DecodeFault.TheVariants.{Source, Write, Frame}
use Rattle.dst_read.specs.declared.jobs.Job.{Job}
use Rattle.dst_read.specs.declared.drain.SoundWriter.{SoundWriter}
use Rattle.dst_read.specs.declared.drain.TailSum.{TailSum}
use Rattle.dst_commands.specs.Writing.{Adds, Stops}

-- a refused frame is answered by its number and its fault
pub record IsRefusedAs (job : Job) (k : ℕ) (fault : FrameFault) : Type 0 where
  pub number : k ≡ job.number
  pub answer : job.answer ≡ Err fault

-- it is the same drain, later on
pub record IsLater {K : Type 0} (faults : K → ℕ) (s t : SoundWriter K) : Type 0 where
  pub lent : t.sink.ghost_name ≡ s.sink.ghost_name
  pub later : faults s.sink.now ≤ faults t.sink.now

-- of the frame's sound as many bytes as are left are written
pub record TakesSound {K : Type 0} (written : K → Option (List ℕ)) (room : K → Option ℕ) (faults : K → ℕ) (s : SoundWriter K) (job : Job)
    (t : SoundWriter K) : Type 0 where
  pub same : IsLater faults s t
  pub tail : ℕ
  pub answer : job.answer ≡ Ok tail
  pub left : t.left ≡ s.left - length job.sound.items
  pub adds : Adds (take s.left job.sound.items) (written s.sink.now) (written t.sink.now) (room s.sink.now) (room t.sink.now)

-- nothing is written of a refused frame; the sink may fail at those bytes
pub record FailsToWrite {K : Type 0} (written : K → Option (List ℕ)) (room : K → Option ℕ) (faults : K → ℕ) (s : SoundWriter K) (job : Job)
    (t : SoundWriter K) : Type 0 where
  pub tail : ℕ
  pub answer : job.answer ≡ Ok tail
  pub stops : Stops (Unit {0}) (take s.left job.sound.items) (written s.sink.now) (written t.sink.now) (room s.sink.now)
  pub rose : Rose (faults s.sink.now) (faults t.sink.now)

abbrev pub EndsAt : {K : Type 0} → (K → Option (List ℕ)) → (K → Option ℕ) → (K → ℕ) → SoundWriter K → Job → DecodeFault → SoundWriter K → Type 0
EndsAt written room faults s job Write t = FailsToWrite written room faults s job t
EndsAt written room faults s job (Frame k fault) t = IsRefusedAs job k fault × (written t.sink.now ≡ written s.sink.now)
EndsAt written room faults s job (Source fault) t = ⊥

pub record FailsAtSound {K : Type 0} (written : K → Option (List ℕ)) (room : K → Option ℕ) (faults : K → ℕ) (s : SoundWriter K) (job : Job)
    (fault : DecodeFault) (t : SoundWriter K) : Type 0 where
  pub same : IsLater faults s t
  pub ends : EndsAt written room faults s job fault t

-- the unread bytes are added; a sum of 64 bits stops at its type's end
pub record TakesTail (s : TailSum) (job : Job) (t : TailSum) : Type 0 where
  pub tail : ℕ
  pub few : tail < 2 ^ 32
  pub answer : job.answer ≡ Ok tail
  pub sum : t.unread ≡ min (s.unread + tail) (2 ^ 64 - 1)

abbrev pub FailsAtTail : TailSum → Job → CheckFault → TailSum → Type 0
FailsAtTail s job (check.Frame k fault) t = IsRefusedAs job k fault
FailsAtTail s job (check.Source fault) t = ⊥
