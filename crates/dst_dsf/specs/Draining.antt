-- Draining: what becomes of decoded frames, up to the first one that is refused.
use Rattle.std.specs.Prelude.{◌≡◌, ℕ, ◌+◌, ◌-◌, ◌≤◌, List, ◌++◌, length, take, Option, Ok}
use Rattle.dst_streams.specs.Causes.{Rose}
use Rattle.dsf_files.specs.Forms.{dsf_seen}
use Rattle.dst_read.specs.declared.faults.DecodeFault.{DecodeFault}
use Rattle.dst_read.specs.declared.faults.DecodeFault.TheVariants.{Source, Write, Frame}
use Rattle.dst_read.specs.declared.jobs.Job.{Job}
use Rattle.dst_read.specs.Draining.{IsRefusedAs}
use Rattle.dst_dsf.specs.declared.rows.RowWriter.{RowWriter}
use Rattle.dst_dsf.specs.Gathering.{HasTaken, FailsAtRow}

-- it is the same drain, later on
pub record IsLater {K : Type 0} (faults : K → ℕ) (s t : RowWriter K) : Type 0 where
  pub lent : t.sink.ghost_name ≡ s.sink.ghost_name
  pub form_is : t.row.form ≡ s.row.form
  pub size_is : t.row.size ≡ s.row.size
  pub later : faults s.sink.now ≤ faults t.sink.now

-- of a frame's sound as many bytes as are left
abbrev pub part_of : {K : Type 0} → RowWriter K → Job → List ℕ
part_of s job = take (s.row.size - s.row.taken) job.sound.items

pub record TakesSound {K : Type 0} (written : K → Option (List ℕ)) (room : K → Option ℕ) (faults : K → ℕ) (s : RowWriter K) (job : Job)
    (t : RowWriter K) : Type 0 where
  pub same : IsLater faults s t
  pub tail : ℕ
  pub answer : job.answer ≡ Ok tail
  pub taken : t.row.taken ≡ s.row.taken + length (part_of s job)
  pub takes : (sound : List ℕ) (old : Option (List ℕ)) (before : Option ℕ) → HasTaken written room sound old before s →
      HasTaken written room (sound ++ part_of s job) old before t

-- nothing is written of a refused frame; the sink may fail at a row
pub record FailsToWrite {K : Type 0} (written : K → Option (List ℕ)) (room : K → Option ℕ) (faults : K → ℕ) (s : RowWriter K) (job : Job)
    (t : RowWriter K) : Type 0 where
  pub tail : ℕ
  pub answer : job.answer ≡ Ok tail
  pub fails : (sound : List ℕ) (old : Option (List ℕ)) (before : Option ℕ) → HasTaken written room sound old before s →
      FailsAtRow (dsf_seen s.row.form) (sound ++ part_of s job) old (written t.sink.now) before
  pub rose : Rose (faults s.sink.now) (faults t.sink.now)

abbrev pub EndsAt : {K : Type 0} → (K → Option (List ℕ)) → (K → Option ℕ) → (K → ℕ) → RowWriter K → Job → DecodeFault → RowWriter K → Type 0
EndsAt written room faults s job Write t = FailsToWrite written room faults s job t
EndsAt written room faults s job (Frame k fault) t = IsRefusedAs job k fault × (written t.sink.now ≡ written s.sink.now)
EndsAt written room faults s job (Source fault) t = ⊥

pub record FailsAtSound {K : Type 0} (written : K → Option (List ℕ)) (room : K → Option ℕ) (faults : K → ℕ) (s : RowWriter K) (job : Job)
    (fault : DecodeFault) (t : RowWriter K) : Type 0 where
  pub same : IsLater faults s t
  pub ends : EndsAt written room faults s job fault t
