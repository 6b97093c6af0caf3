-- Pieces that are read, stored and written as frames, up to some number.
use Rattle.std.proofs.Common.{◌≡◌, ℕ, ◌+◌, ◌<◌, ◌≤◌, List, [], ◌∷◌, ◌++◌, length, map, flat_map, take, get_or, set, All, Option, Some, Ok, Err, refl}
use Rattle.std.proofs.Common.{ap, sym, subst, ◌∙◌, arith}
use Rattle.std.proofs.lemmas.List.{take_all, take_more_set}
use Rattle.std.proofs.lemmas.List.Elements.{All-push}
use Rattle.dst_spec.specs.Sample.{sound_bytes}
use Rattle.dst_streams.proofs.Counts.{Rose-earlier}
use Rattle.dst_streams.specs.Told.{Loan}
use Rattle.dsdiff_spec.specs.Coded.{Picks}
use Rattle.dsdiff_spec.specs.Written.{dstf}
use Rattle.dsdiff_chunks.specs.declared.form.PlainForm.{PlainForm}
use Rattle.dsdiff_chunks.specs.declared.open.OpenFault.TheVariants.{Read}
use Rattle.dst_commands.specs.Writing.{Adds}
use Rattle.dst_commands.proofs.InTurn.{one_more_part, stops_in_part, all_parts, begins_with_parts}
use Rattle.dst_commands.proofs.Writing.{adds_nothing, stops_behind, stops_for, stops_in}
use Rattle.dst_write.specs.declared.jobs.Job.{Job}
use Rattle.dst_write.specs.declared.faults.EncodeFault.{EncodeFault}
use Rattle.dst_write.specs.declared.faults.EncodeFault.TheVariants.{Source, Write}
use Rattle.dst_write.specs.declared.feed.SoundPieces.{SoundPieces}
use Rattle.dst_write.specs.declared.drain.FrameWriter.{FrameWriter}
use Rattle.dst_write.specs.Encoding.{FramesEnd, HasItsCause}
use Rattle.dst_write.specs.Jobs.{IsStored, frame_in}
use Rattle.dst_write.specs.Feeding as feeding
use Rattle.dst_write.specs.Draining as draining
use Rattle.dst_write.proofs.Feeding as fed
use Rattle.dst_write.proofs.Coding.{frames_in, frame_for, frame_at_number, length-frames, one_more_size}

module _ {S K : Type 0} (bytes : S → Option (List ℕ)) (known : S → Option ℕ) (loan : S → Loan) (faults gave : S → ℕ) (written : K → Option (List ℕ))
    (appended : K → ℕ) (room : K → Option ℕ) (sink_faults : K → ℕ) (picks : Picks) (s0 : SoundPieces S) (t0 : FrameWriter K) where
  abbrev form : PlainForm
  form = s0.form.now

  -- the frames of a file up to some number are written, and their sizes noted
  pub record AreWritten (file : List ℕ) (n : ℕ) (t : FrameWriter K) : Type 0 where
    pub adds : Adds (flat_map dstf (take n (frames_in picks file form))) (written t0.sink.now) (written t.sink.now) (room t0.sink.now) (room t.sink.now)
    pub sizes : take n t.sizes.now ≡ map length (take n (frames_in picks file form))

  -- so many pieces are stored and written
  pub record IsUnderway (n : ℕ) (s : SoundPieces S) (t : FrameWriter K) : Type 0 where
    pub feed : feeding.IsLater bytes known loan faults gave s0 s
    pub drain : draining.IsLater appended sink_faults t0 t
    pub next : s.next ≡ n
    pub few : n ≤ form.frames
    pub short : All (λ m. m ≤ 1 + sound_bytes form.channels) (take n t.sizes.now)
    pub done : (file : List ℕ) → bytes s0.source.now ≡ Some file → form.end ≤ length file → AreWritten file n t

  pub begins : s0.next ≡ 0 → IsUnderway 0 s0 t0
  begins first = record {
    feed = fed.is_itself bytes known loan faults gave s0;
    drain = record { lent = refl; sizes_lent = refl; long = refl; grows = omega arith; later = omega arith };
    next = first;
    few = omega arith;
    short = λ k d l. absurd (omega arith);
    done = λ file told whole. record { adds = adds_nothing (written t0.sink.now) (room t0.sink.now); sizes = refl };
  }

  pub drained_on : (t u : FrameWriter K) → draining.IsLater appended sink_faults t0 t → draining.IsLater appended sink_faults t u →
      draining.IsLater appended sink_faults t0 u
  drained_on t u p q = record {
    lent = q.lent ∙ p.lent;
    sizes_lent = q.sizes_lent ∙ p.sizes_lent;
    long = q.long ∙ p.long;
    grows = omega (arith, p.grows, q.grows);
    later = omega (arith, p.later, q.later);
  }

  -- what the work left of a piece is the frame of its number
  stored_frame : (n : ℕ) (s u : SoundPieces S) (t : FrameWriter K) (job worked : Job) (file : List ℕ) → IsUnderway n s t →
      feeding.GivesPiece bytes known loan faults gave s job u → IsStored form.channels picks job worked →
      bytes s0.source.now ≡ Some file → form.end ≤ length file → frame_in worked ≡ get_or (frames_in picks file form) n []
  stored_frame n s u t job worked file p given work told whole =
      let within = fed.given_within bytes known loan faults gave s0 s u job n p.feed p.next given in
      work.frame ∙ ap (frame_for picks form.channels) (fed.given_piece bytes known loan faults gave s0 s u job n file p.feed p.next given told)
      ∙ sym (frame_at_number picks file form n whole within)

  numbered : (n : ℕ) (s u : SoundPieces S) (t : FrameWriter K) (job worked : Job) → IsUnderway n s t →
      feeding.GivesPiece bytes known loan faults gave s job u → IsStored form.channels picks job worked → worked.number ≡ n
  numbered n s u t job worked p given work = work.number ∙ given.number ∙ p.next

  pub goes_on : length t0.sizes.now ≡ form.frames → (n : ℕ) (s s' : SoundPieces S) (t t' : FrameWriter K) (job worked : Job) → IsUnderway n s t →
      feeding.GivesPiece bytes known loan faults gave s job s' →
      IsStored form.channels picks job worked → draining.TakesFrame written appended room sink_faults t worked t' → IsUnderway (n + 1) s' t'
  goes_on count n s s' t t' job worked p given work takes =
      let within = fed.given_within bytes known loan faults gave s0 s s' job n p.feed p.next given in
      let inside : n < length t.sizes.now = omega (arith, within, count, p.drain.long) in
      let noted : t'.sizes.now ≡ set t.sizes.now n worked.size = takes.noted
      ∙ ap (λ k. set t.sizes.now k worked.size) (numbered n s s' t job worked p given work) in
      let more : take (n + 1) t'.sizes.now ≡ take n t.sizes.now ++ worked.size ∷ [] = ap (take (n + 1)) noted
      ∙ take_more_set t.sizes.now n worked.size inside in
      record {
        feed = fed.later_on bytes known loan faults gave s0 s s' p.feed given.same;
        drain = drained_on t t' p.drain takes.same;
        next = omega (arith, given.next, p.next);
        few = omega (arith, within);
        short = subst (All (λ m. m ≤ 1 + sound_bytes form.channels)) (sym more)
            (All-push (λ m. m ≤ 1 + sound_bytes form.channels) (take n t.sizes.now) worked.size p.short work.short);
        done = λ file told whole.
            let before = p.done file told whole in
            let frames = frames_in picks file form in
            let l : n < length frames = omega (arith, within, length-frames picks file form whole) in
            let is = stored_frame n s s' t job worked file p given work told whole in
            record {
              adds = one_more_part dstf frames n [] (dstf (frame_in worked)) _ _ _ _ _ _ l (ap dstf is) before.adds takes.adds;
              sizes = ap (take (n + 1)) noted ∙ one_more_size t.sizes.now n worked.size frames (frame_in worked) inside l work.size is before.sizes;
            };
      }

  -- ---- how it ends: at the end, at a read that failed, at a write that failed
  all_sizes : (n : ℕ) (s : SoundPieces S) (t : FrameWriter K) → IsUnderway n s t → form.frames ≤ n → length t0.sizes.now ≡ form.frames →
      take n t.sizes.now ≡ t.sizes.now
  all_sizes n s t p all count = take_all n t.sizes.now (omega (arith, all, count, p.drain.long))

  at_end : (n : ℕ) (s : SoundPieces S) (t : FrameWriter K) → IsUnderway n s t → s.form.now.frames ≤ s.next → form.frames ≤ n
  at_end n s t p ended = omega (arith, ended, p.next, ap (λ (f : PlainForm). f.frames) p.feed.form_is)

  pub ends_short : (n : ℕ) (s : SoundPieces S) (t : FrameWriter K) → IsUnderway n s t → s.form.now.frames ≤ s.next →
      length t0.sizes.now ≡ form.frames → All (λ m. m ≤ 1 + sound_bytes form.channels) t.sizes.now
  ends_short n s t p ended count = subst (All (λ m. m ≤ 1 + sound_bytes form.channels)) (all_sizes n s t p (at_end n s t p ended) count) p.short

  pub ends_whole : (n : ℕ) (s : SoundPieces S) (t : FrameWriter K) (file : List ℕ) → IsUnderway n s t → s.form.now.frames ≤ s.next →
      length t0.sizes.now ≡ form.frames → bytes s0.source.now ≡ Some file → form.end ≤ length file →
      FramesEnd (Ok tt) (frames_in picks file form) t.sizes.now (written t0.sink.now) (written t.sink.now) (room t0.sink.now) (room t.sink.now)
  ends_whole n s t file p ended count told whole =
      let before = p.done file told whole in
      let frames = frames_in picks file form in
      let last = at_end n s t p ended in
      let all : length frames ≤ n = omega (arith, last, length-frames picks file form whole) in
      (all_parts dstf frames n _ _ _ _ all before.adds, sym (all_sizes n s t p last count) ∙ before.sizes ∙ ap (map length) (take_all n frames all))

  pub ends_at_read : (n : ℕ) (s : SoundPieces S) (t : FrameWriter K) (file : List ℕ) → IsUnderway n s t → bytes s0.source.now ≡ Some file →
      form.end ≤ length file →
      FramesEnd (Err (Source Read)) (frames_in picks file form) t.sizes.now (written t0.sink.now) (written t.sink.now) (room t0.sink.now) (room t.sink.now)
  ends_at_read n s t file p told whole =
      let frames = frames_in picks file form in
      stops_in (Source Read ≡ Write) (flat_map dstf frames) (flat_map dstf (take n frames)) _ _ _ (begins_with_parts dstf frames n)
      (stops_behind (Source Read ≡ Write) (flat_map dstf (take n frames)) _ _ _ _ (λ e. absurd cc) (p.done file told whole).adds)

  pub ends_at_write : (n : ℕ) (s u : SoundPieces S) (t t' : FrameWriter K) (job worked : Job) (fault : EncodeFault) (file : List ℕ) →
      IsUnderway n s t → feeding.GivesPiece bytes known loan faults gave s job u →
      IsStored form.channels picks job worked → draining.FailsAtFrame written appended room sink_faults t worked fault t' →
      bytes s0.source.now ≡ Some file → form.end ≤ length file →
      FramesEnd (Err fault) (frames_in picks file form) t'.sizes.now (written t0.sink.now) (written t'.sink.now) (room t0.sink.now) (room t'.sink.now)
  ends_at_write n s u t t' job worked fault file p given work fails told whole =
      let frames = frames_in picks file form in
      let within = fed.given_within bytes known loan faults gave s0 s u job n p.feed p.next given in
      let l : n < length frames = omega (arith, within, length-frames picks file form whole) in
      let is = stored_frame n s u t job worked file p given work told whole in
      stops_in_part (fault ≡ Write) dstf frames n [] (dstf (frame_in worked)) _ _ _ _ _ l (ap dstf is) (p.done file told whole).adds
      (stops_for (Unit {0}) (fault ≡ Write) (dstf (frame_in worked)) _ _ _ (λ e. tt {0}) fails.stops)

  -- and by its cause
  pub caused : (t t' : FrameWriter K) (worked : Job) (fault : EncodeFault) (n now : ℕ) → draining.IsLater appended sink_faults t0 t →
      draining.FailsAtFrame written appended room sink_faults t worked fault t' →
      HasItsCause fault n now (sink_faults t0.sink.now) (sink_faults t'.sink.now)
  caused t t' worked fault n now p fails =
      subst (λ fault. HasItsCause fault n now (sink_faults t0.sink.now) (sink_faults t'.sink.now)) (sym fails.is_write)
      (Rose-earlier (sink_faults t0.sink.now) (sink_faults t.sink.now) (sink_faults t'.sink.now) p.later fails.rose)
