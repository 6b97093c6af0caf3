-- Frames that are read, worked and written, up to some number.
use Rattle.std.proofs.Common.{◌≡◌, ℕ, suc, ◌+◌, ◌-◌, ◌*◌, ◌≤◌, List, [], ◌∷◌, ◌++◌, length, Option, Some, Ok, Err, refl, ap, subst, ◌∙◌, arith}
use Rattle.std.proofs.Math.Nat.{suc-mul}
use Rattle.dst_spec.specs.Sample.{IsShape}
use Rattle.dst_spec.specs.Offends.{Offends}
use Rattle.dst_streams.proofs.Counts.{Rose-earlier}
use Rattle.dsdiff_spec.specs.Form.{Form, shape, sound_bytes_of, size_of_sound}
use Rattle.dsdiff_spec.specs.Walk.{Entry, entry, frame_at}
use Rattle.dsdiff_spec.specs.Progress.{AreDecoded}
use Rattle.dst_read.specs.declared.jobs.Job.{Job}
use Rattle.dsdiff_chunks.specs.declared.open.OpenFault.TheVariants.{Read}
use Rattle.dst_read.specs.declared.faults.DecodeFault.{DecodeFault}
use Rattle.dst_read.specs.declared.faults.DecodeFault.TheVariants.{Source, Write, Frame}
use Rattle.dst_read.specs.declared.feed.StoredFrames.{StoredFrames}
use Rattle.dst_read.specs.declared.drain.SoundWriter.{SoundWriter}
use Rattle.dst_read.specs.Decoding.{IsOpened, StopsAt, FramesEnd, HasItsCause, sound_of}
use Rattle.dst_read.specs.Jobs.{IsWorked, stored_in}
use Rattle.dst_read.specs.Feeding as feeding
use Rattle.dst_read.specs.Draining as draining
use Rattle.dst_read.proofs.Feeding as fed
use Rattle.dst_read.proofs.Framing.{IsUnderstood, is_understood, AreWritten, none_written, one_more, next_frame, refused_at, stops_at_sound}
use Rattle.dst_read.proofs.Working.{heard, refused}
use Rattle.dst_commands.proofs.Writing.{stops_behind}

pub one_less : (size n whole : ℕ) → size - n * whole - whole ≡ size - (n + 1) * whole
one_less size n whole =
    let same : (n + 1) * whole ≡ suc n * whole = ap (λ k. k * whole) (omega arith) in
    omega (arith, suc-mul n whole, same)

module _ {S K : Type 0} (bytes : S → Option (List ℕ)) (known : S → Option ℕ) (faults gave : S → ℕ) (written : K → Option (List ℕ)) (room : K → Option ℕ)
    (sink_faults : K → ℕ) (form : Form) (s0 : StoredFrames S) (t0 : SoundWriter K) where
  -- so many frames are worked and written
  pub record IsUnderway (n : ℕ) (s : StoredFrames S) (t : SoundWriter K) : Type 0 where
    pub feed : feeding.IsLater bytes known faults gave s0 s
    pub drain : draining.IsLater sink_faults t0 t
    pub next : s.next ≡ n
    pub few : n ≤ length s0.walked.now.index
    pub left : t.left ≡ size_of_sound form - n * sound_bytes_of form
    pub done : (file : List ℕ) → bytes s0.source.now ≡ Some file → IsOpened file form s0.walked.now.index →
        (sounds : List (List ℕ)) × AreWritten file form n sounds (written t0.sink.now) (written t.sink.now) (room t0.sink.now) (room t.sink.now)

  pub begins : s0.next ≡ 0 → t0.left ≡ size_of_sound form → IsUnderway 0 s0 t0
  begins first left = record {
    feed = fed.is_itself bytes known faults gave s0;
    drain = record { lent = refl; later = omega arith };
    next = first;
    few = omega arith;
    left = omega (arith, left);
    done = λ file told o. ([], none_written file form (written t0.sink.now) (room t0.sink.now));
  }

  pub drained_on : (t u : SoundWriter K) → draining.IsLater sink_faults t0 t → draining.IsLater sink_faults t u → draining.IsLater sink_faults t0 u
  drained_on t u p q = record { lent = q.lent ∙ p.lent; later = omega (arith, p.later, q.later) }

  understood : (s : StoredFrames S) (t : SoundWriter K) (u : StoredFrames S) (job worked : Job) (n tail : ℕ) (file : List ℕ) → IsShape (shape form) →
      IsUnderway n s t → feeding.GivesFrame bytes known faults gave s job u →
      IsWorked (shape form) job worked → worked.answer ≡ Ok tail → bytes s0.source.now ≡ Some file →
      IsUnderstood (shape form) (frame_at file (entry s0.walked.now.index n)) worked.sound.items
  understood s t u job worked n tail file lawful p given work is told =
      subst (λ frame. IsUnderstood (shape form) frame worked.sound.items) (fed.given_frame bytes known faults gave s0 s u job n file p.feed p.next given told)
      (is_understood (shape form) (stored_in job) worked.sound.items tail lawful (heard (shape form) job worked tail work is))

  pub goes_on : IsShape (shape form) → (n : ℕ) (s s' : StoredFrames S) (t t' : SoundWriter K) (job worked : Job) → IsUnderway n s t →
      feeding.GivesFrame bytes known faults gave s job s' → IsWorked (shape form) job worked →
      draining.TakesSound written room sink_faults t worked t' → IsUnderway (n + 1) s' t'
  goes_on lawful n s s' t t' job worked p given work takes =
      let within = fed.given_within bytes known faults gave s0 s s' job n p.feed p.next given in
      let long = (heard (shape form) job worked takes.tail work takes.answer).means.0.long in
      record {
        feed = fed.later_on bytes known faults gave s0 s s' p.feed given.same;
        drain = drained_on t t' p.drain takes.same;
        next = omega (arith, given.next, p.next);
        few = omega (arith, within);
        left = takes.left ∙ ap (λ m. t.left - m) long ∙ ap (λ m. m - sound_bytes_of form) p.left ∙ one_less (size_of_sound form) n (sound_bytes_of form);
        done = λ file told o.
            let before = p.done file told o in (
              before.0 ++ worked.sound.items ∷ [],
              next_frame file form s0.walked.now.index n t.left before.0 worked.sound.items _ _ _ _ _ _ o within p.left before.1
                  (understood s t s' job worked n takes.tail file lawful p given work takes.answer told) takes.adds,
            );
      }

  -- ---- how it ends: at the end, at a read that failed, at a frame that is refused, at a write that failed
  pub ends_whole : (n : ℕ) (s : StoredFrames S) (t : SoundWriter K) (file : List ℕ) → IsUnderway n s t → length s.walked.now.index ≤ s.next →
      length s0.walked.now.index ≡ form.frames → bytes s0.source.now ≡ Some file →
      IsOpened file form s0.walked.now.index →
      FramesEnd {A = Unit {0}} (Ok tt) file form (written t0.sink.now) (written t.sink.now) (room t0.sink.now) (room t.sink.now)
  ends_whole n s t file p ended count told o =
      let before = p.done file told o in
      let all : n ≡ form.frames = omega (arith, ended, count, p.next, p.few, ap (λ (es : List Entry). length es) p.feed.index_is) in
      (before.0, subst (λ n. AreDecoded file form n before.0) all before.1.decoded, before.1.adds)

  pub ends_at_read : (n : ℕ) (s : StoredFrames S) (t : SoundWriter K) (file : List ℕ) → IsUnderway n s t → bytes s0.source.now ≡ Some file →
      IsOpened file form s0.walked.now.index →
      FramesEnd {A = Unit {0}} (Err (Source Read)) file form (written t0.sink.now) (written t.sink.now) (room t0.sink.now) (room t.sink.now)
  ends_at_read n s t file p told o =
      let before = p.done file told o in
      (n, before.0, before.1.decoded, stops_behind (Source Read ≡ Write) (sound_of form before.0) _ _ _ _ (λ e. absurd cc) before.1.adds)

  pub ends_at_job : IsShape (shape form) → (n : ℕ) (s u : StoredFrames S) (t t' : SoundWriter K) (job worked : Job) (fault : DecodeFault) (file : List ℕ) →
      IsUnderway n s t → length s0.walked.now.index ≡ form.frames →
      feeding.GivesFrame bytes known faults gave s job u → IsWorked (shape form) job worked → draining.EndsAt written room sink_faults t worked fault t' →
      bytes s0.source.now ≡ Some file → IsOpened file form s0.walked.now.index →
      FramesEnd {A = Unit {0}} (Err fault) file form (written t0.sink.now) (written t'.sink.now) (room t0.sink.now) (room t'.sink.now)
  ends_at_job lawful n s u t t' job worked (Frame k fault) file p count given work (refuses, same) told o =
      let before = p.done file told o in
      let within = fed.given_within bytes known faults gave s0 s u job n p.feed p.next given in
      let place : n ≡ k = omega (arith, refuses.number, work.number, given.number, p.next) in
      let offends = subst (λ frame. Offends (shape form) frame fault) (fed.given_frame bytes known faults gave s0 s u job n file p.feed p.next given told)
      (refused (shape form) job worked fault work refuses.answer) in (
        before.0,
        subst (λ k. StopsAt file form k fault before.0) place
            (refused_at file form s0.walked.now.index n fault before.0 o within count before.1.decoded offends),
        same ∙ before.1.adds.written,
      )
  ends_at_job lawful n s u t t' job worked Write file p count given work stop told o =
      let before = p.done file told o in
      let within = fed.given_within bytes known faults gave s0 s u job n p.feed p.next given in
      let here = understood s t u job worked n stop.tail file lawful p given work stop.answer told in (
        n + 1,
        before.0 ++ worked.sound.items ∷ [],
        one_more file form s0.walked.now.index n before.0 worked.sound.items o within before.1.decoded here,
        stops_at_sound (Write ≡ Write) file form s0.walked.now.index n t.left before.0 worked.sound.items _ _ _ _ _ o within p.left before.1 stop.stops,
      )
  ends_at_job lawful n s u t t' job worked (Source fault) file p count given work ends told o = absurd ends

  -- and by its cause
  pub caused : (t t' : SoundWriter K) (worked : Job) (fault : DecodeFault) (n now : ℕ) → draining.IsLater sink_faults t0 t →
      draining.EndsAt written room sink_faults t worked fault t' →
      HasItsCause fault n now (sink_faults t0.sink.now) (sink_faults t'.sink.now)
  caused t t' worked (Frame k fault) n now p ends = tt {0}
  caused t t' worked Write n now p stop = Rose-earlier (sink_faults t0.sink.now) (sink_faults t.sink.now) (sink_faults t'.sink.now) p.later stop.rose
  caused t t' worked (Source fault) n now p ends = absurd ends
