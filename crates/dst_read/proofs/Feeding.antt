-- A feed that goes on: it stays the same feed, of a source that tells the same.
use Rattle.std.proofs.Common.{◌≡◌, ℕ, ◌+◌, ◌*◌, ◌<◌, ◌≤◌, ◌⊎◌, inl, inr, List, length, Option, Some, Result, Ok, Err, IfOk, refl, ap, sym, subst, ◌∙◌, arith}
use Rattle.dst_spec.specs.Sample.{IsShape, sound_bytes}
use Rattle.dst_streams.specs.Causes.{Rose}
use Rattle.dst_streams.proofs.Counts.{Rose-earlier}
use Rattle.dst_streams.specs.declared.source.Failed.{Failed}
use Rattle.dsdiff_spec.specs.Walk.{Entry, entry, frame_at}
use Rattle.frame_crew.specs.Answers.{IfFeedFault, IfDrainFault}
use Rattle.frame_crew.specs.Runs.{Runs, Ran, FailsAtFeed, FailsAtDrain}
use Rattle.frame_crew.specs.declared.ordered.RunFault.{RunFault}
use Rattle.frame_crew.specs.declared.ordered.RunFault.TheVariants as crew
use Rattle.frame_crew.specs.Laws.{Runs-keep}
use Rattle.dst_read.specs.declared.jobs.Job.{Job}
use Rattle.dst_read.specs.declared.feed.StoredFrames.{StoredFrames}
use Rattle.dsdiff_chunks.specs.Forms.{coded_seen}
use Rattle.dst_commands.specs.declared.opened.WalkedForm.{WalkedForm}
use Rattle.dst_read.specs.Feeding.{IsLater, GivesFrame, FailsToRead, feed_shape}
use Rattle.dst_commands.specs.Rooms.{shape_number}
use Rattle.dst_read.specs.Jobs.{stored_in}
use Rattle.dst_read.proofs.Framing.{entry_inside}
use Rattle.dst_commands.proofs.Rooms.{few_channels}
use Rattle.dst_read.proofs.Shapes.{readable}

-- the shape of a feed of a source that has the form
pub ready_shape : (known : Option ℕ) (w : WalkedForm) → (n : ℕ) × (known ≡ Some n) × (w.form.end ≤ n) → IsShape w.form.channels →
    feed_shape known w.index w.form.channels ≡ shape_number w.form.channels
ready_shape known w size lawful =
    let f = w.form.channels in
    let form = coded_seen w.form in
    let short : (k : ℕ) → k < length w.index → (entry w.index k).size ≤ 2 * (sound_bytes f + 1) =
    λ k l. subst (λ f. (entry w.index k).size ≤ 2 * (sound_bytes f + 1)) w.form.shape (w.fits.inside k l).short in
    let read = readable size.0 w.index f (record { offset = 0; size = 0 }) (few_channels f lawful)
    (λ k l. let e = entry_inside form w.index k w.form.lawful w.fits l in omega (arith, e, size.2))
    (λ k l. let e = entry_inside form w.index k w.form.lawful w.fits l in omega (arith, e, w.form.lawful.end))
    short in
    ap (λ n. feed_shape n w.index f) size.1 ∙ read

module _ {S : Type 0} (bytes : S → Option (List ℕ)) (known : S → Option ℕ) (faults gave : S → ℕ) where
  pub is_itself : (s : StoredFrames S) → IsLater bytes known faults gave s s
  is_itself s = record { lent = refl; index_is = refl; bytes_are = refl; size_is = refl; later = omega arith; once = omega arith }

  pub later_on : (s t u : StoredFrames S) → IsLater bytes known faults gave s t → IsLater bytes known faults gave t u → IsLater bytes known faults gave s u
  later_on s t u p q = record {
    lent = q.lent ∙ p.lent;
    index_is = q.index_is ∙ p.index_is;
    bytes_are = q.bytes_are ∙ p.bytes_are;
    size_is = q.size_is ∙ p.size_is;
    later = omega (arith, p.later, q.later);
    once = omega (arith, p.once, q.once);
  }

  pub rose_since : (s t u : StoredFrames S) (e : Failed) → IsLater bytes known faults gave s t → FailsToRead bytes known faults gave t e u →
      Rose (faults s.source.now) (faults u.source.now)
  rose_since s t u e p q = Rose-earlier (faults s.source.now) (faults t.source.now) (faults u.source.now) p.later q.rose

  fed_on : (s t : StoredFrames S) (jobs : List Job) → Runs (GivesFrame bytes known faults gave) s jobs t → IsLater bytes known faults gave s t
  fed_on s t jobs run = Runs-keep (GivesFrame bytes known faults gave) (IsLater bytes known faults gave s) (λ u job v p q. later_on s u v p q.same) s t jobs run
      (is_itself s)

  -- behind a job, where the feed went on ahead and may have failed
  pub fed_ahead : (s t u v w : StoredFrames S) (job : Job) (jobs : List Job) → IsLater bytes known faults gave s t →
      GivesFrame bytes known faults gave t job u →
      Runs (GivesFrame bytes known faults gave) u jobs v →
      ((w ≡ v) ⊎ ((e : Failed) × FailsToRead bytes known faults gave v e w)) → IsLater bytes known faults gave s w
  fed_ahead s t u v w job jobs p given run (inl same) =
      subst (IsLater bytes known faults gave s) (sym same) (later_on s u v (later_on s t u p given.same) (fed_on u v jobs run))
  fed_ahead s t u v w job jobs p given run (inr (e, fails)) = later_on s v w (later_on s u v (later_on s t u p given.same) (fed_on u v jobs run)) fails.same

  -- whatever a run ends with, the feed is later on
  pub run_goes_on : {T E : Type 0} (takes : T → Job → T → Type 0) (done : Job → Job → Type 0) (failed : T → Job → E → T → Type 0) (most : ℕ)
      (s s' : StoredFrames S) (t t' : T) (r : Result ℕ (RunFault Failed E)) →
      IfOk r (λ count. Ran (GivesFrame bytes known faults gave) takes done s s' t t' count) →
      IfFeedFault r (λ e. FailsAtFeed (GivesFrame bytes known faults gave) (FailsToRead bytes known faults gave) takes done s s' t t' e) →
      IfDrainFault r (λ e. FailsAtDrain (GivesFrame bytes known faults gave) (FailsToRead bytes known faults gave) takes failed done most s s' t t' e) →
      IsLater bytes known faults gave s s'
  run_goes_on takes done failed most s s' t t' (Ok count) ran at_feed at_drain = fed_on s s' ran.fed ran.feeds
  run_goes_on takes done failed most s s' t t' (Err (crew.Feed e)) ran stop at_drain =
      later_on s stop.feed_before s' (fed_on s stop.feed_before stop.ran.fed stop.ran.feeds) stop.fails.same
  run_goes_on takes done failed most s s' t t' (Err (crew.Drain e)) ran at_feed stop =
      fed_ahead s stop.feed_before stop.feed_after stop.feed_ahead s' stop.job stop.ahead (fed_on s stop.feed_before stop.ran.fed stop.ran.feeds)
      stop.given stop.fed_ahead stop.feed_left

  -- the frame that it gave is the one that stands there
  pub given_frame : (s t u : StoredFrames S) (job : Job) (n : ℕ) (file : List ℕ) → IsLater bytes known faults gave s t → t.next ≡ n →
      GivesFrame bytes known faults gave t job u → bytes s.source.now ≡ Some file →
      stored_in job ≡ frame_at file (entry s.walked.now.index n)
  given_frame s t u job n file p at given told =
      given.frame file (p.bytes_are ∙ told) ∙ ap (λ (es : List Entry). frame_at file (entry es t.next)) p.index_is
      ∙ ap (λ k. frame_at file (entry s.walked.now.index k)) at

  pub given_within : (s t u : StoredFrames S) (job : Job) (n : ℕ) → IsLater bytes known faults gave s t → t.next ≡ n →
      GivesFrame bytes known faults gave t job u →
      n < length s.walked.now.index
  given_within s t u job n p at given = omega (arith, given.within, at, ap (λ (es : List Entry). length es) p.index_is)
