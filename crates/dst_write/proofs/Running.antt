-- A run of batches is read as one loop, a piece at a time.
use Rattle.std.proofs.Common.{◌≡◌, ℕ, ◌≤◌, List, length, Option, Some, Ok, Err, Result, arith}
use Rattle.dst_streams.specs.declared.source.Failed.{Failed}
use Rattle.dst_streams.specs.Told.{Loan}
use Rattle.dsdiff_spec.specs.Coded.{Picks}
use Rattle.dsdiff_chunks.specs.declared.open.OpenFault.TheVariants.{Read}
use Rattle.frame_crew.specs.Runs.{Ran, FailsAtFeed, FailsAtDrain}
use Rattle.frame_crew.specs.Laws.{Ran-keep}
use Rattle.dst_write.specs.declared.jobs.Job.{Job}
use Rattle.dst_write.specs.declared.faults.EncodeFault.{EncodeFault}
use Rattle.dst_write.specs.declared.faults.EncodeFault.TheVariants.{Source}
use Rattle.dst_write.specs.declared.feed.SoundPieces.{SoundPieces}
use Rattle.dst_write.specs.declared.drain.FrameWriter.{FrameWriter}
use Rattle.dst_write.specs.Jobs.{IsStored}
use Rattle.dst_write.specs.Feeding.{GivesPiece, FailsToRead}
use Rattle.dst_write.specs.Draining.{TakesFrame, FailsAtFrame}
use Rattle.dst_write.specs.Frames.{HasRun}
use Rattle.dst_write.proofs.Feeding as fed
use Rattle.dst_write.proofs.Underway as under

-- what is known before the first piece
pub record IsBegun {S K : Type 0} (bytes : S → Option (List ℕ)) (s : SoundPieces S) (t : FrameWriter K) : Type 0 where
  pub first : s.next ≡ 0
  pub count : length t.sizes.now ≡ s.form.now.frames
  pub whole : (file : List ℕ) → bytes s.source.now ≡ Some file → s.form.now.end ≤ length file

-- of a form that ends within the n bytes of its file
pub begun : {S K : Type 0} (bytes : S → Option (List ℕ)) (s : SoundPieces S) (t : FrameWriter K) (n : ℕ) → s.next ≡ 0 →
    length t.sizes.now ≡ s.form.now.frames → s.form.now.end ≤ n → ((file : List ℕ) → bytes s.source.now ≡ Some file → n ≡ length file) →
    IsBegun bytes s t
begun bytes s t n first count within known = record { first = first; count = count; whole = λ file told. omega (arith, known file told) }

module _ {S K : Type 0} (bytes : S → Option (List ℕ)) (known : S → Option ℕ) (loan : S → Loan) (faults gave : S → ℕ) (written : K → Option (List ℕ))
    (appended : K → ℕ) (room : K → Option ℕ) (sink_faults : K → ℕ) (picks : Picks) (s0 : SoundPieces S) (t0 : FrameWriter K) where
  abbrev gives : SoundPieces S → Job → SoundPieces S → Type 0
  gives = GivesPiece bytes known loan faults gave

  abbrev feed_failed : SoundPieces S → Failed → SoundPieces S → Type 0
  feed_failed = FailsToRead bytes known loan faults gave

  abbrev takes : FrameWriter K → Job → FrameWriter K → Type 0
  takes = TakesFrame written appended room sink_faults

  abbrev failed : FrameWriter K → Job → EncodeFault → FrameWriter K → Type 0
  failed = FailsAtFrame written appended room sink_faults

  abbrev done : Job → Job → Type 0
  done = IsStored s0.form.now.channels picks

  abbrev IsUnderway : ℕ → SoundPieces S → FrameWriter K → Type 0
  IsUnderway = under.IsUnderway bytes known loan faults gave written appended room sink_faults picks s0 t0

  abbrev Ends : SoundPieces S → FrameWriter K → Result (Unit {0}) EncodeFault → Type 0
  Ends s t result = HasRun bytes known loan faults gave written appended room sink_faults picks s0 s t0 t result

  ran_on : IsBegun bytes s0 t0 → (s : SoundPieces S) (t : FrameWriter K) (count : ℕ) → Ran gives takes done s0 s t0 t count → IsUnderway count s t
  ran_on b s t count ran =
      Ran-keep gives takes done IsUnderway
      (λ n u v x y job worked p given work took. under.goes_on bytes known loan faults gave written appended room sink_faults picks s0 t0 b.count n u v x y
      job worked p given work took)
      s0 s t0 t count ran (under.begins bytes known loan faults gave written appended room sink_faults picks s0 t0 b.first)

  pub run_ended : IsBegun bytes s0 t0 → (s : SoundPieces S) (t : FrameWriter K) (count : ℕ) → Ran gives takes done s0 s t0 t count →
      s.form.now.frames ≤ s.next → Ends s t (Ok tt)
  run_ended b s t count ran ended =
      let p = ran_on b s t count ran in
      record {
        feed = p.feed;
        drain = p.drain;
        short = under.ends_short bytes known loan faults gave written appended room sink_faults picks s0 t0 count s t p ended b.count;
        cause = tt {0};
        ends = λ file told. under.ends_whole bytes known loan faults gave written appended room sink_faults picks s0 t0 count s t file p ended b.count told
            (b.whole file told);
      }

  pub run_at_read : IsBegun bytes s0 t0 → (s : SoundPieces S) (t : FrameWriter K) (e : Failed) →
      FailsAtFeed gives feed_failed takes done s0 s t0 t e → Ends s t (Err (Source Read))
  run_at_read b s t e stop =
      let p = ran_on b stop.feed_before t stop.count stop.ran in
      record {
        feed = fed.later_on bytes known loan faults gave s0 stop.feed_before s p.feed stop.fails.same;
        drain = p.drain;
        short = tt {0};
        cause = fed.rose_since bytes known loan faults gave s0 stop.feed_before s e p.feed stop.fails;
        ends = λ file told. under.ends_at_read bytes known loan faults gave written appended room sink_faults picks s0 t0 stop.count stop.feed_before t
            file p told (b.whole file told);
      }

  pub run_at_job : IsBegun bytes s0 t0 → (s : SoundPieces S) (t : FrameWriter K) (most : ℕ) (fault : EncodeFault) →
      FailsAtDrain gives feed_failed takes failed done most s0 s t0 t fault → Ends s t (Err fault)
  run_at_job b s t most fault stop =
      let p = ran_on b stop.feed_before stop.drain_before stop.place stop.ran in
      record {
        feed = fed.fed_ahead bytes known loan faults gave s0 stop.feed_before stop.feed_after stop.feed_ahead s stop.job stop.ahead p.feed stop.given
            stop.fed_ahead stop.feed_left;
        drain = under.drained_on bytes known loan faults gave written appended room sink_faults picks s0 t0 stop.drain_before t p.drain stop.fails.same;
        short = tt {0};
        cause = under.caused bytes known loan faults gave written appended room sink_faults picks s0 t0 stop.drain_before t stop.worked fault _ _ p.drain
            stop.fails;
        ends = λ file told. under.ends_at_write bytes known loan faults gave written appended room sink_faults picks s0 t0 stop.place stop.feed_before
            stop.feed_after stop.drain_before t stop.job stop.worked fault file p stop.given stop.work stop.fails told
            (b.whole file told);
      }
