-- Feeding: the pieces of a plain form's sound, read in order.
use Rattle.std.specs.Prelude.{◌≡◌, ℕ, ◌+◌, ◌-◌, ◌*◌, ◌<◌, ◌≤◌, not, ◌&&◌, if◌then◌else◌, List, Option, Some, None}
use Rattle.dst_spec.specs.Sample.{Shape, sound_bytes}
use Rattle.dst_streams.specs.Causes.{Rose}
use Rattle.dst_streams.specs.declared.source.Failed.{Failed}
use Rattle.dst_streams.specs.Told.{Loan}
use Rattle.dsdiff_spec.specs.Bytes.{bytes_at, ◌below◌, ◌above◌}
use Rattle.dsdiff_spec.specs.Chunks.{body_of}
use Rattle.dsdiff_spec.specs.Coded.{filled}
use Rattle.dsdiff_chunks.specs.Seen.{head_seen}
use Rattle.dst_commands.specs.Rooms.{shape_number}
use Rattle.dst_write.specs.declared.jobs.Job.{Job}
use Rattle.dst_write.specs.declared.feed.SoundPieces.{SoundPieces}

-- piece k of a sound in pieces of n bytes, filled up where the sound ends in it
abbrev pub piece_of : ℕ → List ℕ → ℕ → List ℕ
piece_of n sound k = filled n (bytes_at sound (k * n) n)

-- the number of the jobs' shape, and 1, which no job has, where the source ends before the form does
abbrev pub feed_shape : Option ℕ → ℕ → Shape → ℕ
feed_shape None end f = 1
feed_shape (Some size) end f = if f.channels below 8 && not (end above size) then shape_number f else 1

-- bytes of the sound that are still to be read
abbrev pub bytes_left : {S : Type 0} → SoundPieces S → ℕ
bytes_left s = s.form.now.sound.size - s.next * sound_bytes s.form.now.channels

-- it is the same feed, later on: the source gave each byte of the sound that is no longer left once at most
pub record IsLater {S : Type 0} (bytes : S → Option (List ℕ)) (known : S → Option ℕ) (loan : S → Loan) (faults gave : S →
    ℕ) (s t : SoundPieces S) : Type 0 where
  pub lent : t.source.ghost_name ≡ s.source.ghost_name
  pub form_is : t.form.now ≡ s.form.now
  pub bytes_are : bytes t.source.now ≡ bytes s.source.now
  pub size_is : known t.source.now ≡ known s.source.now
  pub loan_is : loan t.source.now ≡ loan s.source.now
  pub later : faults s.source.now ≤ faults t.source.now
  pub once : gave t.source.now + bytes_left t ≤ gave s.source.now + bytes_left s

-- the next piece is read
pub record GivesPiece {S : Type 0} (bytes : S → Option (List ℕ)) (known : S → Option ℕ) (loan : S → Loan) (faults gave : S → ℕ) (s : SoundPieces S)
    (job : Job) (t : SoundPieces S) : Type 0 where
  pub same : IsLater bytes known loan faults gave s t
  pub next : t.next ≡ s.next + 1
  pub within : s.next < s.form.now.frames
  pub number : job.number ≡ s.next
  pub piece : (file : List ℕ) → bytes s.source.now ≡ Some file →
      job.sound.items ≡ piece_of (sound_bytes s.form.now.channels) (body_of file (head_seen s.form.now.sound)) s.next

-- the source failed
pub record FailsToRead {S : Type 0} (bytes : S → Option (List ℕ)) (known : S → Option ℕ) (loan : S → Loan) (faults gave : S → ℕ) (s : SoundPieces S)
    (failed : Failed) (t : SoundPieces S) : Type 0 where
  pub same : IsLater bytes known loan faults gave s t
  pub rose : Rose (faults s.source.now) (faults t.source.now)
