-- The run of the frames, and the last row behind it.
use Rattle.std.proofs.Common.{◌≡◌, inl, inr, ℕ, ◌*◌, ◌/◌, ◌≤◌, List, length, Option, Ok, Err, refl, ap, subst, ◌∙◌, arith}
use Rattle.dst_streams.specs.Told.{and_then}
use Rattle.dst_streams.specs.Causes.{Rose}
use Rattle.dst_streams.proofs.Counts.{Rose-earlier}
use Rattle.dsdiff_spec.specs.Dsf.{rows}
use Rattle.dsdiff_spec.specs.Form.{Form}
use Rattle.dsf_files.specs.declared.form.DsfForm.{DsfForm}
use Rattle.dsf_files.specs.Forms.{dsf_seen}
use Rattle.dst_commands.specs.Writing.{Adds, Stops}
use Rattle.dst_commands.proofs.Writing.{stops_for}
use Rattle.dst_read.specs.declared.faults.DecodeFault.{DecodeFault}
use Rattle.dst_read.specs.declared.faults.DecodeFault.TheVariants.{Source, Write, Frame}
use Rattle.dst_read.specs.declared.feed.StoredFrames.{StoredFrames}
use Rattle.dst_read.specs.Decoding.{sound_of}
use Rattle.dst_dsf.specs.declared.rows.RowWriter.{RowWriter}
use Rattle.dst_dsf.specs.Rows.{rows_of}
use Rattle.dst_dsf.specs.Gathering.{HasTaken}
use Rattle.dst_dsf.specs.Frames.{RowsEnd, FramesEnd, IsStoppedInRows, HasRun, HasWritten}

module _ {S K : Type 0} (bytes : S → Option (List ℕ)) (known : S → Option ℕ) (faults gave : S → ℕ) (written : K → Option (List ℕ)) (room : K → Option ℕ)
    (sink_faults : K → ℕ) (form : Form) (s s' : StoredFrames S) (t t' : RowWriter K) where
  -- it stopped in the frames
  rows_stopped : (fault : DecodeFault) (file : List ℕ) (old : Option (List ℕ)) (before : Option ℕ) → t'.row.form ≡ t.row.form →
      RowsEnd written room (Err fault) file form old before t' →
      FramesEnd (Err fault) file form (dsf_seen t.row.form) old (written t'.sink.now) before (room t'.sink.now)
  rows_stopped (Frame k fault) file old before same (sounds, at, told) = (
    sounds,
    at,
    told ∙ ap (λ (f : DsfForm). and_then old (rows_of (dsf_seen f) (sound_of form sounds) (length (sound_of form sounds) / (4096 * f.channels.channels)))) same,
  )
  rows_stopped Write file old before same (k, sounds, h, few, stop) = (
    k,
    sounds,
    h,
    few,
    inl (subst (λ (f : DsfForm). IsStoppedInRows (Write ≡ Write) (dsf_seen f) (sound_of form sounds) old (written t'.sink.now)
        before) same stop),
  )
  rows_stopped (Source fault) file old before same (k, sounds, h, few, stop) = (
    k,
    sounds,
    h,
    few,
    inl (subst (λ (f : DsfForm). IsStoppedInRows (Source fault ≡ Write) (dsf_seen f) (sound_of form sounds) old
        (written t'.sink.now) before) same stop),
  )

  pub stopped : (fault : DecodeFault) → HasRun bytes known faults gave written room sink_faults form s s' t t' (Err fault) →
      HasWritten bytes known faults gave written room sink_faults form s s' t t' (Err fault)
  stopped fault h = record {
    feed = h.feed;
    lent = h.drain.lent;
    later = h.drain.later;
    cause = h.cause;
    ends = λ file told. rows_stopped fault file (written t.sink.now) (room t.sink.now) h.drain.form_is (h.ends file told);
  }

  -- all frames are gathered, and the last row is written, or the sink fails at it
  pub finished : (u : RowWriter K) → HasRun bytes known faults gave written room sink_faults form s s' t t' (Ok tt) → u.sink.ghost_name ≡ t'.sink.ghost_name →
      sink_faults t'.sink.now ≤ sink_faults u.sink.now →
      ((sound : List ℕ) (old : Option (List ℕ)) (before : Option ℕ) → HasTaken written room sound old before t' →
      Adds (rows_of (dsf_seen t'.row.form) sound (rows (dsf_seen t'.row.form))) old (written u.sink.now) before (room u.sink.now)) →
      HasWritten bytes known faults gave written room sink_faults form s s' t u (Ok tt)
  finished u h lent later adds = record {
    feed = h.feed;
    lent = lent ∙ h.drain.lent;
    later = omega (arith, h.drain.later, later);
    cause = tt {0};
    ends = λ file told.
        let e = h.ends file told in (
          e.0,
          e.1,
          subst (λ (f : DsfForm). Adds (rows_of (dsf_seen f) (sound_of form e.0) (rows (dsf_seen f))) (written t.sink.now) (written u.sink.now)
              (room t.sink.now) (room u.sink.now))
              h.drain.form_is (adds (sound_of form e.0) (written t.sink.now) (room t.sink.now) e.2),
        );
  }

  pub unfinished : (u : RowWriter K) → HasRun bytes known faults gave written room sink_faults form s s' t t' (Ok tt) → u.sink.ghost_name ≡ t'.sink.ghost_name →
      sink_faults t'.sink.now ≤ sink_faults u.sink.now → Rose (sink_faults t'.sink.now) (sink_faults u.sink.now) →
      ((sound : List ℕ) (old : Option (List ℕ)) (before : Option ℕ) → HasTaken written room sound old before t' →
      Stops (Unit {0}) (rows_of (dsf_seen t'.row.form) sound (rows (dsf_seen t'.row.form))) old (written u.sink.now) before) →
      HasWritten bytes known faults gave written room sink_faults form s s' t u (Err Write)
  unfinished u h lent later rose stops = record {
    feed = h.feed;
    lent = lent ∙ h.drain.lent;
    later = omega (arith, h.drain.later, later);
    cause = Rose-earlier (sink_faults t.sink.now) (sink_faults t'.sink.now) (sink_faults u.sink.now) h.drain.later rose;
    ends = λ file told.
        let e = h.ends file told in (
          form.frames,
          e.0,
          e.1,
          omega arith,
          inr (
            refl,
            stops_for (Unit {0}) (Write ≡ Write) _ _ _ _ (λ w. tt {0})
                (subst (λ (f : DsfForm). Stops (Unit {0}) (rows_of (dsf_seen f) (sound_of form e.0) (rows (dsf_seen f))) (written t.sink.now)
                (written u.sink.now) (room t.sink.now))
                h.drain.form_is (stops (sound_of form e.0) (written t.sink.now) (room t.sink.now) e.2)),
          ),
        );
  }
