-- A run of batches is read as one loop, a frame at a time.
use Rattle.std.proofs.Common.{◌≡◌, ℕ, ◌*◌, ◌≤◌, List, [], length, Option, Some, Ok, Err, sym, subst}
use Rattle.dst_spec.specs.Sample.{Shape, IsShape}
use Rattle.dst_streams.specs.declared.source.Failed.{Failed}
use Rattle.dsdiff_spec.specs.Form.{Form, shape, sound_bytes_of, size_of_sound}
use Rattle.frame_crew.specs.Runs.{Ran, FailsAtFeed, FailsAtDrain}
use Rattle.frame_crew.specs.Laws.{Ran-keep}
use Rattle.dst_read.specs.declared.jobs.Job.{Job}
use Rattle.dsdiff_chunks.specs.Forms.{coded_seen}
use Rattle.dsdiff_chunks.specs.declared.open.OpenFault.TheVariants.{Read}
use Rattle.dst_read.specs.declared.faults.DecodeFault.{DecodeFault}
use Rattle.dst_read.specs.declared.faults.DecodeFault.TheVariants.{Source}
use Rattle.dst_read.specs.declared.feed.StoredFrames.{StoredFrames}
use Rattle.dst_dsf.specs.declared.rows.RowWriter.{RowWriter}
use Rattle.dst_read.specs.Decoding.{IsOpened}
use Rattle.dst_read.specs.Jobs.{IsWorked}
use Rattle.dst_read.specs.Feeding.{GivesFrame, FailsToRead}
use Rattle.dst_dsf.specs.Draining.{TakesSound, FailsAtSound}
use Rattle.dst_dsf.specs.Frames.{HasRun}
use Rattle.dst_dsf.specs.Gathering.{HasTaken}
use Rattle.dst_read.proofs.Feeding as fed
use Rattle.dst_dsf.proofs.Underway as under

-- what is known before the first frame
pub record IsBegun {S K : Type 0} (bytes : S → Option (List ℕ)) (written : K → Option (List ℕ)) (room : K → Option ℕ) (form : Form) (f : Shape)
    (s : StoredFrames S) (t : RowWriter K) : Type 0 where
  pub same : shape form ≡ f
  pub lawful : IsShape f
  pub first : s.next ≡ 0
  pub size : t.row.size ≡ size_of_sound form
  pub whole : size_of_sound form ≤ form.frames * sound_bytes_of form
  pub begins : HasTaken written room [] (written t.sink.now) (room t.sink.now) t
  pub count : length s.walked.now.index ≡ form.frames
  pub opened : (file : List ℕ) → bytes s.source.now ≡ Some file → IsOpened file form s.walked.now.index

-- of a walked form
pub begun : {S K : Type 0} (bytes : S → Option (List ℕ)) (written : K → Option (List ℕ)) (room : K → Option ℕ) (s : StoredFrames S) (t : RowWriter K) →
    IsShape s.walked.now.form.channels → s.next ≡ 0 → t.row.size ≡ size_of_sound (coded_seen s.walked.now.form) →
    HasTaken written room [] (written t.sink.now) (room t.sink.now) t →
    ((file : List ℕ) → bytes s.source.now ≡ Some file → IsOpened file (coded_seen s.walked.now.form) s.walked.now.index) →
    IsBegun bytes written room (coded_seen s.walked.now.form) s.walked.now.form.channels s t
begun bytes written room s t lawful first size begins opened =
    let walked = s.walked.now in
    record {
      same = walked.form.shape;
      lawful = lawful;
      first = first;
      size = size;
      whole = under.sound_in_frames walked.form lawful;
      begins = begins;
      count = walked.fits.count;
      opened = opened;
    }

module _ {S K : Type 0} (bytes : S → Option (List ℕ)) (known : S → Option ℕ) (faults gave : S → ℕ) (written : K → Option (List ℕ)) (room : K → Option ℕ)
    (sink_faults : K → ℕ) (form : Form) (f : Shape) (s0 : StoredFrames S) (t0 : RowWriter K) where
  abbrev gives : StoredFrames S → Job → StoredFrames S → Type 0
  gives = GivesFrame bytes known faults gave

  abbrev feed_failed : StoredFrames S → Failed → StoredFrames S → Type 0
  feed_failed = FailsToRead bytes known faults gave

  abbrev takes : RowWriter K → Job → RowWriter K → Type 0
  takes = TakesSound written room sink_faults

  abbrev failed : RowWriter K → Job → DecodeFault → RowWriter K → Type 0
  failed = FailsAtSound written room sink_faults

  abbrev IsUnderway : ℕ → StoredFrames S → RowWriter K → Type 0
  IsUnderway = under.IsUnderway bytes known faults gave written room sink_faults form s0 t0

  lawful_shape : IsBegun bytes written room form f s0 t0 → IsShape (shape form)
  lawful_shape b = subst IsShape (sym b.same) b.lawful

  worked_so : IsBegun bytes written room form f s0 t0 → (job worked : Job) → IsWorked f job worked → IsWorked (shape form) job worked
  worked_so b job worked = subst (λ f. IsWorked f job worked) (sym b.same)

  ran_on : IsBegun bytes written room form f s0 t0 → (s : StoredFrames S) (t : RowWriter K) (count : ℕ) → Ran gives takes (IsWorked f) s0 s t0 t count →
      IsUnderway count s t
  ran_on b s t count ran =
      Ran-keep gives takes (IsWorked f) IsUnderway
      (λ n u v x y job worked p given work took. under.goes_on bytes known faults gave written room sink_faults form s0 t0
      (lawful_shape b) n u v x y job worked p given (worked_so b job worked work) took)
      s0 s t0 t count ran (under.begins bytes known faults gave written room sink_faults form s0 t0 b.first b.size b.begins)

  pub run_ended : IsBegun bytes written room form f s0 t0 → (s : StoredFrames S) (t : RowWriter K) (count : ℕ) → Ran gives takes (IsWorked f) s0 s t0 t count →
      length s.walked.now.index ≤ s.next →
      HasRun bytes known faults gave written room sink_faults form s0 s t0 t (Ok tt)
  run_ended b s t count ran ended =
      let p = ran_on b s t count ran in
      record {
        feed = p.feed;
        drain = p.drain;
        all = under.ends_all bytes known faults gave written room sink_faults form s0 t0 count s t p ended b.count b.whole;
        cause = tt {0};
        ends = λ file told. under.ends_whole bytes known faults gave written room sink_faults form s0 t0 count s t file p ended b.count told
            (b.opened file told);
      }

  pub run_at_read : IsBegun bytes written room form f s0 t0 → (s : StoredFrames S) (t : RowWriter K) (e : Failed) →
      FailsAtFeed gives feed_failed takes (IsWorked f) s0 s t0 t e →
      HasRun bytes known faults gave written room sink_faults form s0 s t0 t (Err (Source Read))
  run_at_read b s t e stop =
      let p = ran_on b stop.feed_before t stop.count stop.ran in
      record {
        feed = fed.later_on bytes known faults gave s0 stop.feed_before s p.feed stop.fails.same;
        drain = p.drain;
        all = tt {0};
        cause = fed.rose_since bytes known faults gave s0 stop.feed_before s e p.feed stop.fails;
        ends = λ file told. under.ends_at_read bytes known faults gave written room sink_faults form s0 t0 stop.count stop.feed_before t file p b.count told
            (b.opened file told);
      }

  pub run_at_job : IsBegun bytes written room form f s0 t0 → (s : StoredFrames S) (t : RowWriter K) (most : ℕ) (fault : DecodeFault) →
      FailsAtDrain gives feed_failed takes failed (IsWorked f) most s0 s t0 t fault →
      HasRun bytes known faults gave written room sink_faults form s0 s t0 t (Err fault)
  run_at_job b s t most fault stop =
      let p = ran_on b stop.feed_before stop.drain_before stop.place stop.ran in
      record {
        feed = fed.fed_ahead bytes known faults gave s0 stop.feed_before stop.feed_after stop.feed_ahead s stop.job stop.ahead p.feed stop.given stop.fed_ahead
            stop.feed_left;
        drain = under.drained_on bytes known faults gave written room sink_faults form s0 t0 stop.drain_before t p.drain stop.fails.same;
        all = tt {0};
        cause = under.caused bytes known faults gave written room sink_faults form s0 t0 stop.drain_before t stop.worked fault _ _ p.drain stop.fails.ends;
        ends = λ file told. under.ends_at_job bytes known faults gave written room sink_faults form s0 t0
            (lawful_shape b) stop.place stop.feed_before stop.feed_after stop.drain_before t stop.job stop.worked fault file p b.count
            stop.given (worked_so b stop.job stop.worked stop.work) stop.fails.same stop.fails.ends told (b.opened file told);
      }
