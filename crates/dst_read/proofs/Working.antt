-- What decoding a frame answers, as one fact, and what a worked job tells.
use Rattle.std.proofs.Common.{◌≡◌, ℕ, List, Result, Ok, Err, IfOk, IfErr, subst}
use Rattle.std.specs.Prelude.{MatchResult}
use Rattle.dst_spec.specs.Sample.{Shape}
use Rattle.dst_spec.specs.Means.{MeansWithTail}
use Rattle.dst_spec.specs.Offends.{Offends}
use Rattle.dst_spec.specs.declared.faults.FrameFault.{FrameFault}
use Rattle.dst_read.specs.declared.jobs.Job.{Job}
use Rattle.dst_read.specs.Jobs.{IsHeard, IsWorked, stored_in}

pub heard_or_refused : (r : Result ℕ FrameFault) (f : Shape) (frame sound : List ℕ) → IfOk r (MeansWithTail f frame sound) →
    IfOk r (λ _. (fault : FrameFault) → Offends f frame fault → ⊥) →
    IfErr r (Offends f frame) → MatchResult r (IsHeard f frame sound) (Offends f frame)
heard_or_refused (Ok tail) f frame sound m n o = record { means = m; not_refused = n }
heard_or_refused (Err fault) f frame sound m n o = o

-- ---- a worked job
pub heard : (f : Shape) (job worked : Job) (tail : ℕ) → IsWorked f job worked → worked.answer ≡ Ok tail → IsHeard f (stored_in job) worked.sound.items tail
heard f job worked tail w is = subst (λ r. MatchResult r (IsHeard f (stored_in job) worked.sound.items) (Offends f (stored_in job))) is w.answer

pub refused : (f : Shape) (job worked : Job) (fault : FrameFault) → IsWorked f job worked → worked.answer ≡ Err fault → Offends f (stored_in job) fault
refused f job worked fault w is = subst (λ r. MatchResult r (IsHeard f (stored_in job) worked.sound.items) (Offends f (stored_in job))) is w.answer
