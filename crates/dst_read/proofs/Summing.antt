-- Frames that are read and worked for their unread bytes, as one loop.
use Rattle.std.proofs.Common.{◌≡◌, ℕ, ◌+◌, ◌*◌, ◌<◌, ◌≤◌, List, [], ◌∷◌, ◌++◌, length, map, take, get_or, Option, Some, Ok, Err, ap, sym, subst, ◌∙◌, arith}
use Rattle.std.specs.Prelude.{sum}
use Rattle.std.specs.List.{AllZip}
use Rattle.std.proofs.lemmas.List.{take_more, length-map}
use Rattle.std.proofs.lemmas.List.Sums.{sum-map, sum_by-append}
use Rattle.std.proofs.Math.Nat.{min-eq_left}
use Rattle.dst_spec.specs.Sample.{Shape}
use Rattle.dst_spec.specs.Means.{MeansWithTail}
use Rattle.dst_spec.specs.Offends.{Offends}
use Rattle.dst_streams.specs.declared.source.Failed.{Failed}
use Rattle.dsdiff_spec.specs.Form.{Form, shape}
use Rattle.dsdiff_spec.specs.Walk.{Entry, entry, entries, frame_at}
use Rattle.dsdiff_spec.specs.Decoded.{frames_of}
use Rattle.dsdiff_spec.specs.Words.{check}
use Rattle.dsdiff_spec.proofs.Progress.{zip_push, all_push, frame_of_entry}
use Rattle.dsdiff_spec.specs.Progress.{NoneOf, NotRefused}
use Rattle.frame_crew.specs.Runs.{Ran, FailsAtFeed, FailsAtDrain}
use Rattle.frame_crew.specs.Laws.{Ran-keep}
use Rattle.dst_read.specs.declared.jobs.Job.{Job}
use Rattle.dsdiff_chunks.specs.declared.open.OpenFault.TheVariants.{Read}
use Rattle.dst_read.specs.declared.faults.CheckFault.{CheckFault}
use Rattle.dst_read.specs.declared.faults.CheckFault.TheVariants.{Source, Frame}
use Rattle.dst_read.specs.declared.feed.StoredFrames.{StoredFrames}
use Rattle.dst_read.specs.declared.drain.TailSum.{TailSum}
use Rattle.dst_read.specs.Checking.{AreHeard, IsRefusedAt, TailsEnd, HasSourceCause, HasSummed}
use Rattle.dst_read.specs.Jobs.{IsHeard, IsWorked}
use Rattle.dst_read.specs.Feeding.{IsLater, GivesFrame, FailsToRead}
use Rattle.dst_read.specs.Draining.{TakesTail, FailsAtTail}
use Rattle.dst_read.proofs.Feeding as fed
use Rattle.dst_read.proofs.Working.{heard, refused}

-- ---- one frame more
one_more_heard : (file : List ℕ) (form : Form) (k : ℕ) (sounds : List (List ℕ × ℕ)) (sound : List ℕ) (tail : ℕ) → AreHeard file form k sounds →
    k < length (frames_of file form) →
    IsHeard (shape form) (get_or (frames_of file form) k []) sound tail → AreHeard file form (k + 1) (sounds ++ (sound, tail) ∷ [])
one_more_heard file form k sounds sound tail h l heard =
    let frames = frames_of file form in
    let frame = get_or frames k [] in
    let more = sym (take_more frames k [] l) in
    record {
      each = subst (λ fs. AllZip (λ f s. MeansWithTail (shape form) f s.0 s.1) fs (sounds ++ (sound, tail) ∷ [])) more
          (zip_push (λ f s. MeansWithTail (shape form) f s.0 s.1) (take k frames) sounds frame (sound, tail) h.each heard.means);
      none = subst (NoneOf check (shape form)) more (all_push (NotRefused check (shape form)) (take k frames) frame h.none heard.not_refused);
    }

one_more_tail : (sounds : List (List ℕ × ℕ)) (sound : List ℕ) (tail : ℕ) →
    sum (map (λ s. s.1) (sounds ++ (sound, tail) ∷ [])) ≡ sum (map (λ s. s.1) sounds) + tail
one_more_tail sounds sound tail =
    let all = sum-map (λ (s : List ℕ × ℕ). s.1) (sounds ++ (sound, tail) ∷ []) in
    let parts = sum_by-append (λ (s : List ℕ × ℕ). s.1) sounds ((sound, tail) ∷ []) in
    let before = sum-map (λ (s : List ℕ × ℕ). s.1) sounds in
    omega (arith, all, parts, before)

-- the frames are those that the index names
count_is : (file : List ℕ) (form : Form) (index : List Entry) → entries file form ≡ index → length (frames_of file form) ≡ length index
count_is file form index walked = length-map (entries file form) (frame_at file) ∙ ap length walked

named_frame : (file : List ℕ) (form : Form) (index : List Entry) (k : ℕ) → entries file form ≡ index → k < length index →
    frame_at file (entry index k) ≡ get_or (frames_of file form) k []
named_frame file form index k walked l = ap (λ es. frame_at file (entry es k)) (sym walked)
    ∙ frame_of_entry file form k (omega (arith, l, count_is file form index walked))

-- ---- so many frames are worked, and their unread bytes added
module _ {S : Type 0} (bytes : S → Option (List ℕ)) (known : S → Option ℕ) (faults gave : S → ℕ) (form : Form) (f : Shape) (s0 : StoredFrames S) where
  pub record IsBegun : Type 0 where
    pub same : shape form ≡ f
    pub first : s0.next ≡ 0
    pub count : length s0.walked.now.index ≡ form.frames
    pub most : form.frames ≤ 1000000
    pub walked : (file : List ℕ) → bytes s0.source.now ≡ Some file → entries file form ≡ s0.walked.now.index

  pub record IsSummed (n : ℕ) (s : StoredFrames S) (t : TailSum) : Type 0 where
    pub feed : IsLater bytes known faults gave s0 s
    pub next : s.next ≡ n
    pub few : n ≤ length s0.walked.now.index
    pub small : t.unread ≤ n * 4294967296
    pub done : (file : List ℕ) → bytes s0.source.now ≡ Some file →
        (sounds : List (List ℕ × ℕ)) × AreHeard file form n sounds × (t.unread ≡ sum (map (λ s. s.1) sounds))

  begins : IsBegun → (t : TailSum) → t.unread ≡ 0 → IsSummed 0 s0 t
  begins b t none = record {
    feed = fed.is_itself bytes known faults gave s0;
    next = b.first;
    few = omega arith;
    small = omega (arith, none);
    done = λ file told. ([], record { each = tt; none = tt }, none);
  }

  goes_on : IsBegun → (n : ℕ) (s s' : StoredFrames S) (t t' : TailSum) (job worked : Job) → IsSummed n s t → GivesFrame bytes known faults gave s job s' →
      IsWorked f job worked → TakesTail t worked t' → IsSummed (n + 1) s' t'
  goes_on b n s s' t t' job worked p given work takes =
      let within = fed.given_within bytes known faults gave s0 s s' job n p.feed p.next given in
      let sum_is : t'.unread ≡ t.unread + takes.tail = takes.sum
      ∙ min-eq_left {n = t.unread + takes.tail} {m = 18446744073709551615} (omega (arith, p.small, takes.few, within, b.count, b.most)) in
      record {
        feed = fed.later_on bytes known faults gave s0 s s' p.feed given.same;
        next = omega (arith, given.next, p.next);
        few = omega (arith, within);
        small = omega (arith, sum_is, p.small, takes.few);
        done = λ file told.
            let before = p.done file told in
            let frame = fed.given_frame bytes known faults gave s0 s s' job n file p.feed p.next given told
            ∙ named_frame file form s0.walked.now.index n (b.walked file told) within in
            let here = subst (λ frame. IsHeard f frame worked.sound.items takes.tail) frame (heard f job worked takes.tail work takes.answer) in
            let shaped = subst (λ f. IsHeard f (get_or (frames_of file form) n []) worked.sound.items takes.tail) (sym b.same) here in
            let inside : n < length (frames_of file form) = omega (arith, within, count_is file form s0.walked.now.index (b.walked file told)) in (
              before.0 ++ (worked.sound.items, takes.tail) ∷ [],
              one_more_heard file form n before.0 worked.sound.items takes.tail before.1 inside shaped,
              sum_is ∙ ap (λ n. n + takes.tail) before.2 ∙ sym (one_more_tail before.0 worked.sound.items takes.tail),
            );
      }

  abbrev gives : StoredFrames S → Job → StoredFrames S → Type 0
  gives = GivesFrame bytes known faults gave

  abbrev feed_failed : StoredFrames S → Failed → StoredFrames S → Type 0
  feed_failed = FailsToRead bytes known faults gave

  ran_on : IsBegun → (s : StoredFrames S) (t0 t : TailSum) (count : ℕ) → t0.unread ≡ 0 → Ran gives TakesTail (IsWorked f) s0 s t0 t count → IsSummed count s t
  ran_on b s t0 t count none ran = Ran-keep gives TakesTail (IsWorked f) IsSummed (goes_on b) s0 s t0 t count ran (begins b t0 none)

  -- ---- how it ends
  pub sum_ended : IsBegun → (s : StoredFrames S) (t0 t : TailSum) (count : ℕ) → t0.unread ≡ 0 → Ran gives TakesTail (IsWorked f) s0 s t0 t count →
      length s.walked.now.index ≤ s.next → HasSummed bytes known faults gave form s0 s (Ok t.unread)
  sum_ended b s t0 t count none ran ended =
      let p = ran_on b s t0 t count none ran in
      record {
        feed = p.feed;
        cause = tt {0};
        ends = λ file told.
            let before = p.done file told in
            let all : count ≡ length (frames_of file form) =
            omega (
              arith,
              ended,
              p.next,
              p.few,
              ap (λ (es : List Entry). length es) p.feed.index_is,
              count_is file form s0.walked.now.index (b.walked file told),
            ) in
            (before.0, subst (λ n. AreHeard file form n before.0) all before.1, before.2);
      }

  pub sum_at_read : IsBegun → (s : StoredFrames S) (t0 t : TailSum) (e : Failed) → t0.unread ≡ 0 →
      FailsAtFeed gives feed_failed TakesTail (IsWorked f) s0 s t0 t e → HasSummed bytes known faults gave form s0 s (Err (Source Read))
  sum_at_read b s t0 t e none stop =
      let p = ran_on b stop.feed_before t0 t stop.count none stop.ran in
      record {
        feed = fed.later_on bytes known faults gave s0 stop.feed_before s p.feed stop.fails.same;
        cause = fed.rose_since bytes known faults gave s0 stop.feed_before s e p.feed stop.fails;
        ends = λ file told. tt {0};
      }

  refused_so : IsBegun → (n : ℕ) (s u : StoredFrames S) (t t' : TailSum) (job worked : Job) (fault : CheckFault) (before now : ℕ) → IsSummed n s t →
      gives s job u → IsWorked f job worked → FailsAtTail t worked fault t' →
      HasSourceCause fault before now × ((file : List ℕ) → bytes s0.source.now ≡ Some file → TailsEnd (Err fault) file form)
  refused_so b n s u t t' job worked (Frame k fault) before now p given work refuses = (
    tt {0},
    λ file told.
        let within = fed.given_within bytes known faults gave s0 s u job n p.feed p.next given in
        let place : n ≡ k = omega (arith, refuses.number, work.number, given.number, p.next) in
        let frame = fed.given_frame bytes known faults gave s0 s u job n file p.feed p.next given told
        ∙ named_frame file form s0.walked.now.index n (b.walked file told) within in
        let here = subst (λ frame. Offends f frame fault) frame (refused f job worked fault work refuses.answer) in
        let shaped = subst (λ f. Offends f (get_or (frames_of file form) n []) fault) (sym b.same) here in
        let inside : n < length (frames_of file form) = omega (arith, within, count_is file form s0.walked.now.index (b.walked file told)) in
        subst (λ k. IsRefusedAt file form k fault) place (record { within = inside; first = (p.done file told).1.none; refuses = shaped }),
  )
  refused_so b n s u t t' job worked (Source fault) before now p given work refuses = absurd refuses

  pub sum_at_job : IsBegun → (s : StoredFrames S) (t0 t : TailSum) (most : ℕ) (fault : CheckFault) → t0.unread ≡ 0 →
      FailsAtDrain gives feed_failed TakesTail FailsAtTail (IsWorked f) most s0 s t0 t fault →
      HasSummed bytes known faults gave form s0 s (Err fault)
  sum_at_job b s t0 t most fault none stop =
      let p = ran_on b stop.feed_before t0 stop.drain_before stop.place none stop.ran in
      let ends = refused_so b stop.place stop.feed_before stop.feed_after stop.drain_before t stop.job stop.worked fault (faults s0.source.now)
      (faults s.source.now) p stop.given stop.work stop.fails in
      record {
        feed = fed.fed_ahead bytes known faults gave s0 stop.feed_before stop.feed_after stop.feed_ahead s stop.job stop.ahead p.feed stop.given stop.fed_ahead
            stop.feed_left;
        cause = ends.0;
        ends = ends.1;
      }
