-- Frames that are read, decoded and gathered into rows, up to some number.
use Rattle.std.proofs.Common.{◌≡◌, ℕ, zero, suc, ◌+◌, ◌-◌, ◌*◌, ◌/◌, ◌≤◌, List, [], ◌∷◌, ◌++◌, length, take, Option, Some, None, Ok, Err, refl}
use Rattle.std.proofs.Common.{ap, sym, subst, ◌∙◌, arith}
use Rattle.std.specs.Prelude.{option_map}
use Rattle.std.proofs.lemmas.List.{length-take}
use Rattle.dst_spec.specs.Sample.{IsShape}
use Rattle.dst_spec.specs.Offends.{Offends}
use Rattle.dst_streams.specs.Told.{and_then}
use Rattle.dst_streams.proofs.Counts.{Rose-earlier}
use Rattle.dsdiff_spec.specs.Form.{Form, shape, sound_bytes_of, size_of_sound, plain_size}
use Rattle.dsdiff_spec.specs.Walk.{Entry, entry, frame_at}
use Rattle.dsdiff_spec.specs.Progress.{AreDecoded}
use Rattle.dsdiff_spec.proofs.CodedFiles.{needed, some_bytes}
use Rattle.dsdiff_spec.proofs.Progress.{none_decoded_yet, sound_of_frame}
use Rattle.dsf_files.specs.declared.form.DsfForm.{DsfForm}
use Rattle.dsf_files.specs.Forms.{dsf_seen}
use Rattle.dsdiff_chunks.specs.declared.form.CodedForm.{CodedForm}
use Rattle.dsdiff_chunks.specs.declared.origin.Origin.{Origin}
use Rattle.dsdiff_chunks.specs.declared.open.OpenFault.TheVariants.{Read}
use Rattle.dsdiff_chunks.specs.Forms.{coded_seen}
use Rattle.dsdiff_chunks.specs.Lawful.{IsOriginIfAny}
use Rattle.dsdiff_chunks.specs.Seen.{origin_seen}
use Rattle.dsdiff_chunks.proofs.LawfulForms.{coded_parts}
use Rattle.dst_commands.proofs.Writing.{stops_for, stops_behind}
use Rattle.dst_read.specs.declared.jobs.Job.{Job}
use Rattle.dst_read.specs.declared.faults.DecodeFault.{DecodeFault}
use Rattle.dst_read.specs.declared.faults.DecodeFault.TheVariants.{Source, Write, Frame}
use Rattle.dst_read.specs.declared.feed.StoredFrames.{StoredFrames}
use Rattle.dst_read.specs.Decoding.{IsOpened, StopsAt, HasItsCause, sound_of}
use Rattle.dst_read.specs.Jobs.{IsWorked, stored_in}
use Rattle.dst_read.specs.Feeding as feeding
use Rattle.dst_read.proofs.Feeding as fed
use Rattle.dst_read.proofs.Framing.{IsUnderstood, is_understood, count_is, one_more, refused_at}
use Rattle.dst_read.proofs.Working.{heard, refused}
use Rattle.dst_read.proofs.Underway.{one_less}
use Rattle.dst_dsf.specs.declared.rows.RowWriter.{RowWriter}
use Rattle.dst_dsf.specs.Rows.{rows_of}
use Rattle.dst_dsf.specs.Gathering.{HasTaken, FailsAtRow}
use Rattle.dst_dsf.specs.Draining as draining
use Rattle.dst_dsf.specs.Frames.{RowsEnd, IsStoppedInRows}
use Rattle.dst_dsf.proofs.Gathering.{within_row}

-- the frames of a form have all of its sound
pub sound_in_frames : (form : CodedForm) → IsShape form.channels → size_of_sound (coded_seen form) ≤ form.frames * sound_bytes_of (coded_seen form)
sound_in_frames form lawful = go form.origin (coded_parts (coded_seen form) form.lawful refl).origin
  where
    go : (o : Option Origin) → IsOriginIfAny form.channels.channels (sound_bytes_of (coded_seen form)) form.frames (option_map origin_seen o) →
        plain_size (option_map origin_seen o) (form.frames * sound_bytes_of (coded_seen form)) ≤ form.frames * sound_bytes_of (coded_seen form)
    go None h = omega arith
    go (Some o) h = (needed (sound_bytes_of (coded_seen form)) o.sound form.frames
        (some_bytes (shape (coded_seen form)) (subst IsShape (sym form.shape) lawful)) h.count).0

module _ {S K : Type 0} (bytes : S → Option (List ℕ)) (known : S → Option ℕ) (faults gave : S → ℕ) (written : K → Option (List ℕ)) (room : K → Option ℕ)
    (sink_faults : K → ℕ) (form : Form) (s0 : StoredFrames S) (t0 : RowWriter K) where
  -- so many frames are decoded and gathered
  pub record AreGathered (file : List ℕ) (n : ℕ) (sounds : List (List ℕ)) (t : RowWriter K) : Type 0 where
    pub decoded : AreDecoded file form n sounds
    pub taken : HasTaken written room (sound_of form sounds) (written t0.sink.now) (room t0.sink.now) t

  pub record IsUnderway (n : ℕ) (s : StoredFrames S) (t : RowWriter K) : Type 0 where
    pub feed : feeding.IsLater bytes known faults gave s0 s
    pub drain : draining.IsLater sink_faults t0 t
    pub next : s.next ≡ n
    pub few : n ≤ length s0.walked.now.index
    pub left : t.row.size - t.row.taken ≡ size_of_sound form - n * sound_bytes_of form
    pub within : t.row.taken ≤ t.row.size
    pub done : (file : List ℕ) → bytes s0.source.now ≡ Some file → IsOpened file form s0.walked.now.index →
        (sounds : List (List ℕ)) × AreGathered file n sounds t

  pub begins : s0.next ≡ 0 → t0.row.size ≡ size_of_sound form → HasTaken written room [] (written t0.sink.now) (room t0.sink.now) t0 → IsUnderway 0 s0 t0
  begins first size h = record {
    feed = fed.is_itself bytes known faults gave s0;
    drain = record { lent = refl; form_is = refl; size_is = refl; later = omega arith };
    next = first;
    few = omega arith;
    left = omega (arith, size, h.count);
    within = omega (arith, h.count);
    done = λ file told o. (
      [],
      record {
        decoded = none_decoded_yet file form;
        taken = subst (λ w. HasTaken written room w (written t0.sink.now) (room t0.sink.now) t0) (sym (nothing (size_of_sound form))) h;
      },
    );
  }
    where
      nothing : (n : ℕ) → take {A = ℕ} n [] ≡ []
      nothing zero = refl
      nothing (suc n) = refl

  pub drained_on : (t u : RowWriter K) → draining.IsLater sink_faults t0 t → draining.IsLater sink_faults t u → draining.IsLater sink_faults t0 u
  drained_on t u p q = record {
    lent = q.lent ∙ p.lent;
    form_is = q.form_is ∙ p.form_is;
    size_is = q.size_is ∙ p.size_is;
    later =
        omega (arith, p.later, q.later);
  }

  understood : (s : StoredFrames S) (t : RowWriter K) (u : StoredFrames S) (job worked : Job) (n tail : ℕ) (file : List ℕ) → IsShape (shape form) →
      IsUnderway n s t → feeding.GivesFrame bytes known faults gave s job u →
      IsWorked (shape form) job worked → worked.answer ≡ Ok tail → bytes s0.source.now ≡ Some file →
      IsUnderstood (shape form) (frame_at file (entry s0.walked.now.index n)) worked.sound.items
  understood s t u job worked n tail file lawful p given work answered told =
      subst (λ frame. IsUnderstood (shape form) frame worked.sound.items) (fed.given_frame bytes known faults gave s0 s u job n file p.feed p.next given told)
      (is_understood (shape form) (stored_in job) worked.sound.items tail lawful (heard (shape form) job worked tail work answered))

  -- the part of one more sound
  part_is : (t : RowWriter K) (worked : Job) (n : ℕ) (file : List ℕ) (sounds : List (List ℕ)) → n ≤ length s0.walked.now.index →
      t.row.size - t.row.taken ≡ size_of_sound form - n * sound_bytes_of form → IsOpened file form s0.walked.now.index → AreDecoded file form n sounds →
      sound_of form sounds ++ draining.part_of t worked ≡ sound_of form (sounds ++ worked.sound.items ∷ [])
  part_is t worked n file sounds few left o h =
      ap (λ m. sound_of form sounds ++ take m worked.sound.items) left
      ∙ sym (sound_of_frame file form n sounds worked.sound.items h (omega (arith, few, count_is file form s0.walked.now.index o)))

  pub goes_on : IsShape (shape form) → (n : ℕ) (s s' : StoredFrames S) (t t' : RowWriter K) (job worked : Job) → IsUnderway n s t →
      feeding.GivesFrame bytes known faults gave s job s' → IsWorked (shape form) job worked →
      draining.TakesSound written room sink_faults t worked t' → IsUnderway (n + 1) s' t'
  goes_on lawful n s s' t t' job worked p given work takes =
      let within = fed.given_within bytes known faults gave s0 s s' job n p.feed p.next given in
      let long : length worked.sound.items ≡ sound_bytes_of form = (heard (shape form) job worked takes.tail work takes.answer).means.0.long in
      let part = length-take (t.row.size - t.row.taken) worked.sound.items in
      record {
        feed = fed.later_on bytes known faults gave s0 s s' p.feed given.same;
        drain = drained_on t t' p.drain takes.same;
        next = omega (arith, given.next, p.next);
        few = omega (arith, within);
        left = omega (arith, takes.taken, takes.same.size_is, part, long, p.left, p.within, one_less (size_of_sound form) n (sound_bytes_of form));
        within = omega (arith, takes.taken, takes.same.size_is, part, p.within);
        done = λ file told o.
            let before = p.done file told o in (
              before.0 ++ worked.sound.items ∷ [],
              record {
                decoded = one_more file form s0.walked.now.index n before.0 worked.sound.items o within before.1.decoded
                    (understood s t s' job worked n takes.tail file lawful p given work takes.answer told);
                taken = subst (λ w. HasTaken written room w (written t0.sink.now) (room t0.sink.now) t')
                    (part_is t worked n file before.0 p.few p.left o before.1.decoded)
                    (takes.takes (sound_of form before.0) (written t0.sink.now) (room t0.sink.now) before.1.taken);
              },
            );
      }

  -- ---- how it ends: at the end, at a read that failed, at a frame that is refused, at a row at which the sink failed
  pub ends_all : (n : ℕ) (s : StoredFrames S) (t : RowWriter K) → IsUnderway n s t → length s.walked.now.index ≤ s.next →
      length s0.walked.now.index ≡ form.frames → size_of_sound form ≤ form.frames * sound_bytes_of form → t.row.taken ≡ t.row.size
  ends_all n s t p ended count whole =
      let all : n ≡ form.frames = omega (arith, ended, count, p.next, p.few, ap (λ (es : List Entry). length es) p.feed.index_is) in
      omega (arith, p.left, p.within, whole, ap (λ k. k * sound_bytes_of form) all)

  pub ends_whole : (n : ℕ) (s : StoredFrames S) (t : RowWriter K) (file : List ℕ) → IsUnderway n s t → length s.walked.now.index ≤ s.next →
      length s0.walked.now.index ≡ form.frames → bytes s0.source.now ≡ Some file →
      IsOpened file form s0.walked.now.index → RowsEnd written room (Ok tt) file form (written t0.sink.now) (room t0.sink.now) t
  ends_whole n s t file p ended count told o =
      let before = p.done file told o in
      let all : n ≡ form.frames = omega (arith, ended, count, p.next, p.few, ap (λ (es : List Entry). length es) p.feed.index_is) in
      (before.0, subst (λ n. AreDecoded file form n before.0) all before.1.decoded, before.1.taken)

  -- the rows that are written
  rows_so_far : (P : Type 0) (t : RowWriter K) (sound : List ℕ) (old : Option (List ℕ)) (before : Option ℕ) → (P → ⊥) →
      HasTaken written room sound old before t →
      IsStoppedInRows P (dsf_seen t.row.form) sound old (written t.sink.now) before
  rows_so_far P t sound old before not h = record {
    rows = t.row.taken / (4096 * t.row.form.channels.channels);
    within = omega (arith, within_row t.row.taken (4096 * t.row.form.channels.channels), h.count);
    stops = stops_behind P (rows_of (dsf_seen t.row.form) sound (t.row.taken / (4096 * t.row.form.channels.channels))) old (written t.sink.now) before
        (room t.sink.now) not h.adds;
  }

  pub ends_at_read : (n : ℕ) (s : StoredFrames S) (t : RowWriter K) (file : List ℕ) → IsUnderway n s t → length s0.walked.now.index ≡ form.frames →
      bytes s0.source.now ≡ Some file →
      IsOpened file form s0.walked.now.index → RowsEnd written room (Err (Source Read)) file form (written t0.sink.now) (room t0.sink.now) t
  ends_at_read n s t file p count told o =
      let before = p.done file told o in (
        n,
        before.0,
        before.1.decoded,
        omega (arith, p.few, count),
        rows_so_far (Source Read ≡ Write) t (sound_of form before.0) (written t0.sink.now) (room t0.sink.now) (λ e. absurd cc) before.1.taken,
      )

  pub ends_at_job : IsShape (shape form) → (n : ℕ) (s u : StoredFrames S) (t t' : RowWriter K) (job worked : Job) (fault : DecodeFault) (file : List ℕ) →
      IsUnderway n s t → length s0.walked.now.index ≡ form.frames →
      feeding.GivesFrame bytes known faults gave s job u → IsWorked (shape form) job worked → draining.IsLater sink_faults t t' →
      draining.EndsAt written room sink_faults t worked fault t' →
      bytes s0.source.now ≡ Some file → IsOpened file form s0.walked.now.index →
      RowsEnd written room (Err fault) file form (written t0.sink.now) (room t0.sink.now) t'
  ends_at_job lawful n s u t t' job worked (Frame k fault) file p count given work later (refuses, same) told o =
      let before = p.done file told o in
      let within = fed.given_within bytes known faults gave s0 s u job n p.feed p.next given in
      let place : n ≡ k = omega (arith, refuses.number, work.number, given.number, p.next) in
      let offends = subst (λ frame. Offends (shape form) frame fault) (fed.given_frame bytes known faults gave s0 s u job n file p.feed p.next given told)
      (refused (shape form) job worked fault work refuses.answer) in (
        before.0,
        subst (λ k. StopsAt file form k fault before.0) place
            (refused_at file form s0.walked.now.index n fault before.0 o within count before.1.decoded offends),
        same ∙ before.1.taken.adds.written
            ∙ ap (λ k. and_then (written t0.sink.now)
            (rows_of (dsf_seen t.row.form) (sound_of form before.0) (k / (4096 * t.row.form.channels.channels)))) before.1.taken.count
            ∙ ap (λ (f : DsfForm). and_then (written t0.sink.now)
            (rows_of (dsf_seen f) (sound_of form before.0) (length (sound_of form before.0) / (4096 * f.channels.channels)))) (sym later.form_is),
      )
  ends_at_job lawful n s u t t' job worked Write file p count given work later stop told o =
      let before = p.done file told o in
      let within = fed.given_within bytes known faults gave s0 s u job n p.feed p.next given in
      let here = understood s t u job worked n stop.tail file lawful p given work stop.answer told in
      let fails = subst (λ w. FailsAtRow (dsf_seen t.row.form) w (written t0.sink.now) (written t'.sink.now) (room t0.sink.now))
      (part_is t worked n file before.0 p.few p.left o before.1.decoded)
      (stop.fails (sound_of form before.0) (written t0.sink.now) (room t0.sink.now) before.1.taken) in (
        n + 1,
        before.0 ++ worked.sound.items ∷ [],
        one_more file form s0.walked.now.index n before.0 worked.sound.items o within before.1.decoded here,
        omega (arith, within, count),
        subst (λ (f : DsfForm). IsStoppedInRows (Write ≡ Write) (dsf_seen f) (sound_of form (before.0 ++ worked.sound.items ∷ []))
            (written t0.sink.now) (written t'.sink.now) (room t0.sink.now))
            (sym later.form_is)
            (record { rows = fails.rows; within = fails.within; stops = stops_for (Unit {0}) (Write ≡ Write) _ _ _ _ (λ e. tt {0}) fails.stops }),
      )
  ends_at_job lawful n s u t t' job worked (Source fault) file p count given work later ends told o = absurd ends

  -- and by its cause
  pub caused : (t t' : RowWriter K) (worked : Job) (fault : DecodeFault) (n now : ℕ) → draining.IsLater sink_faults t0 t →
      draining.EndsAt written room sink_faults t worked fault t' →
      HasItsCause fault n now (sink_faults t0.sink.now) (sink_faults t'.sink.now)
  caused t t' worked (Frame k fault) n now p ends = tt {0}
  caused t t' worked Write n now p stop = Rose-earlier (sink_faults t0.sink.now) (sink_faults t.sink.now) (sink_faults t'.sink.now) p.later stop.rose
  caused t t' worked (Source fault) n now p ends = absurd ends
