-- A feed that goes on: it stays the same feed, of a source that tells the same.
use Rattle.std.proofs.Common.{◌≡◌, ℕ, suc, ◌+◌, ◌-◌, ◌*◌, ◌≤◌, ◌<◌, ◌⊎◌, inl, inr, List, Option, Some, refl, ap, sym, subst, ◌∙◌, arith}
use Rattle.std.specs.Prelude.{min}
use Rattle.std.proofs.Math.Nat.{suc-mul}
use Rattle.dst_spec.specs.Sample.{sound_bytes}
use Rattle.dst_streams.specs.Causes.{Rose}
use Rattle.dst_streams.proofs.Counts.{Rose-earlier}
use Rattle.dst_streams.specs.declared.source.Failed.{Failed}
use Rattle.dst_streams.specs.Told.{Loan}
use Rattle.dsdiff_spec.specs.Chunks.{body_of}
use Rattle.dsdiff_chunks.specs.declared.form.PlainForm.{PlainForm}
use Rattle.dsdiff_chunks.specs.Seen.{head_seen}
use Rattle.frame_crew.specs.Runs.{Runs}
use Rattle.frame_crew.specs.Laws.{Runs-keep}
use Rattle.dst_write.specs.declared.jobs.Job.{Job}
use Rattle.dst_write.specs.declared.feed.SoundPieces.{SoundPieces}
use Rattle.dst_write.specs.Feeding.{IsLater, GivesPiece, FailsToRead, piece_of}

-- a piece of a form's sound in a file
abbrev pub piece_in : List ℕ → PlainForm → ℕ → List ℕ
piece_in file f k = piece_of (sound_bytes f.channels) (body_of file (head_seen f.sound)) k

-- behind a piece that is read once, in room of n bytes, its bytes are no longer left
pub piece_once : (before now size k m n : ℕ) → m ≡ n → now ≤ before + min (size - k * m) m → now + (size - (k + 1) * n) ≤ before + (size - k * n)
piece_once before now size k m n room read =
    let same : (k + 1) * n ≡ suc k * n = ap (λ j. j * n) (omega arith) in
    let most : now ≤ before + min (size - k * n) n = subst (λ m. now ≤ before + min (size - k * m) m) room read in
    omega (arith, suc-mul k n, same, most)

module _ {S : Type 0} (bytes : S → Option (List ℕ)) (known : S → Option ℕ) (loan : S → Loan) (faults gave : S → ℕ) where
  pub is_itself : (s : SoundPieces S) → IsLater bytes known loan faults gave s s
  is_itself s = record { lent = refl; form_is = refl; bytes_are = refl; size_is = refl; loan_is = refl; later = omega arith; once = omega arith }

  pub later_on : (s t u : SoundPieces S) → IsLater bytes known loan faults gave s t → IsLater bytes known loan faults gave t u →
      IsLater bytes known loan faults gave s u
  later_on s t u p q = record {
    lent = q.lent ∙ p.lent;
    form_is = q.form_is ∙ p.form_is;
    bytes_are = q.bytes_are ∙ p.bytes_are;
    size_is = q.size_is ∙ p.size_is;
    loan_is = q.loan_is ∙ p.loan_is;
    later = omega (arith, p.later, q.later);
    once = omega (arith, p.once, q.once);
  }

  pub rose_since : (s t u : SoundPieces S) (e : Failed) → IsLater bytes known loan faults gave s t → FailsToRead bytes known loan faults gave t e u →
      Rose (faults s.source.now) (faults u.source.now)
  rose_since s t u e p q = Rose-earlier (faults s.source.now) (faults t.source.now) (faults u.source.now) p.later q.rose

  fed_on : (s t : SoundPieces S) (jobs : List Job) → Runs (GivesPiece bytes known loan faults gave) s jobs t → IsLater bytes known loan faults gave s t
  fed_on s t jobs run = Runs-keep (GivesPiece bytes known loan faults gave) (IsLater bytes known loan faults gave s) (λ u job v p q. later_on s u v p q.same) s
      t jobs run (is_itself s)

  -- behind a job, where the feed went on ahead and may have failed
  pub fed_ahead : (s t u v w : SoundPieces S) (job : Job) (jobs : List Job) → IsLater bytes known loan faults gave s t →
      GivesPiece bytes known loan faults gave t job u → Runs (GivesPiece bytes known loan faults gave) u jobs v →
      ((w ≡ v) ⊎ ((e : Failed) × FailsToRead bytes known loan faults gave v e w)) → IsLater bytes known loan faults gave s w
  fed_ahead s t u v w job jobs p given run (inl same) =
      subst (IsLater bytes known loan faults gave s) (sym same) (later_on s u v (later_on s t u p given.same) (fed_on u v jobs run))
  fed_ahead s t u v w job jobs p given run (inr (e, fails)) = later_on s v w (later_on s u v (later_on s t u p given.same) (fed_on u v jobs run)) fails.same

  -- the piece that it gave is that of its number
  pub given_piece : (s t u : SoundPieces S) (job : Job) (n : ℕ) (file : List ℕ) → IsLater bytes known loan faults gave s t → t.next ≡ n →
      GivesPiece bytes known loan faults gave t job u → bytes s.source.now ≡ Some file →
      job.sound.items ≡ piece_in file s.form.now n
  given_piece s t u job n file p at given told =
      given.piece file (p.bytes_are ∙ told) ∙ ap (λ (f : PlainForm). piece_in file f t.next) p.form_is ∙ ap (λ k. piece_in file s.form.now k) at

  pub given_within : (s t u : SoundPieces S) (job : Job) (n : ℕ) → IsLater bytes known loan faults gave s t → t.next ≡ n →
      GivesPiece bytes known loan faults gave t job u → n < s.form.now.frames
  given_within s t u job n p at given = omega (arith, given.within, at, ap (λ (f : PlainForm). f.frames) p.form_is)
