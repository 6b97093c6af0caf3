-- The frames, up to the first that is refused.
use Rattle.std.proofs.Common.{◌≡◌, Result, Err, ap, sym, refl, subst, arith}
use Rattle.std.proofs.Math.Nat.{le_refl}
use Rattle.std.specs.declared.alloc.AllocError.{AllocError}
use Rattle.dsdiff_spec.specs.Form.{Form}
use Rattle.dsdiff_chunks.specs.Forms.{coded_seen}
use Rattle.dsdiff_chunks.specs.declared.open.OpenFault.TheVariants.{Read, Memory}
use Rattle.dst_read.specs.declared.faults.Checked.{Checked}
use Rattle.dst_read.specs.declared.faults.CheckFault.{CheckFault}
use Rattle.dst_read.specs.declared.faults.CheckFault.TheVariants.{Source}
use Rattle.dst_read.specs.Checking.{HasSourceCause}
use Rattle.dst_read.specs.Jobs.{AreJobsFor, AreTablesFor}
use Rattle.dst_read.proofs.Checks.{coded_is_sound, stopped, sound_not_fault}
use Rattle.dst_read.proofs.Once.{stored_in_sound, stored_at_most}
use Rattle.dst_read.proofs.check.check_frames.Goals as goal

same_fault : (a b : CheckFault) → ◌≡◌ {A = Result Checked CheckFault} (Err a) (Err b) → a ≡ b
same_fault a b e = cc

pub returns-in-Ok-sum_tails-clause-ends : goal.returns-in-Ok-sum_tails-clause-ends
returns-in-Ok-sum_tails-clause-ends g c file told =
    let form = coded_seen c.args.walked.now.form in
    let is = (c.requires.walked file told).form_is in
    let ends = c.in-Ok-sum_tails.ensures.summed file told in
    (coded_is_sound c.in-Ok-sum_tails.unread file form ends.0 is refl (c.requires.accepted file told) ends.1 ends.2, ap (λ (f : Form). f.frames) (sym is))

pub returns-clause-ends : goal.returns-clause-ends
returns-clause-ends g c file told =
    stopped c.in-Err-sum_tails.fault file (coded_seen c.args.walked.now.form) (c.requires.walked file told).form_is refl (c.requires.accepted file told)
    (c.in-Err-sum_tails.ensures.summed file told)

pub returns-clause-read : goal.returns-clause-read
returns-clause-read g c e =
    subst (λ fault. HasSourceCause fault (g.S.Source.faults c.args.source.now) (g.S.Source.faults c.sum_tails.new.source))
    (same_fault c.in-Err-sum_tails.fault _ e)
    c.in-Err-sum_tails.ensures.cause

pub returns-in-Ok-sum_tails-clause-given : goal.returns-in-Ok-sum_tails-clause-given
returns-in-Ok-sum_tails-clause-given g c = omega (arith, c.sum_tails.ensures.given, stored_in_sound c.args.walked.now)

pub returns-clause-given : goal.returns-clause-given
returns-clause-given g c = omega (arith, c.sum_tails.ensures.given, stored_in_sound c.args.walked.now)

pub returns-in-Ok-sum_tails-clause-given_any : goal.returns-in-Ok-sum_tails-clause-given_any
returns-in-Ok-sum_tails-clause-given_any g c =
    omega (arith, c.sum_tails.ensures.given, stored_at_most c.args.walked.now c.in-Ok-jobs_for.ensures.jobs.lawful)

pub returns-clause-given_any : goal.returns-clause-given_any
returns-clause-given_any g c =
    omega (arith, c.sum_tails.ensures.given, stored_at_most c.args.walked.now c.in-Ok-jobs_for.ensures.jobs.lawful)

-- ---- the source behind the frames
pub returns-in-Ok-sum_tails-clause-bytes : goal.returns-in-Ok-sum_tails-clause-bytes
returns-in-Ok-sum_tails-clause-bytes g c = c.sum_tails.ensures.bytes

pub returns-clause-bytes : goal.returns-clause-bytes
returns-clause-bytes g c = c.sum_tails.ensures.bytes

pub returns-in-Ok-sum_tails-clause-later : goal.returns-in-Ok-sum_tails-clause-later
returns-in-Ok-sum_tails-clause-later g c = c.sum_tails.ensures.later

pub returns-clause-later : goal.returns-clause-later
returns-clause-later g c = c.sum_tails.ensures.later

pub returns-in-Ok-sum_tails-clause-read : goal.returns-in-Ok-sum_tails-clause-read
returns-in-Ok-sum_tails-clause-read g c e = absurd (sound_not_fault _ _ e)

-- ---- where memory is refused nothing was read
memory_not_read : (refused : AllocError) → ◌≡◌ {A = Result Checked CheckFault} (Err (Source (Memory refused))) (Err (Source Read)) → ⊥
memory_not_read refused e = cc

pub returns-in-Err-clause-bytes : goal.returns-in-Err-clause-bytes
returns-in-Err-clause-bytes g c = refl

pub returns-in-Err-clause-later : goal.returns-in-Err-clause-later
returns-in-Err-clause-later g c = le_refl (g.S.Source.faults c.args.source.now)

pub returns-in-Err-clause-read : goal.returns-in-Err-clause-read
returns-in-Err-clause-read g c e = absurd (memory_not_read c.in-Err.refused e)

pub returns-in-Err-clause-given : goal.returns-in-Err-clause-given
returns-in-Err-clause-given g c = omega arith

pub returns-in-Err-clause-given_any : goal.returns-in-Err-clause-given_any
returns-in-Err-clause-given_any g c = omega arith

pub returns-in-Err-clause-ends : goal.returns-in-Err-clause-ends
returns-in-Err-clause-ends g c file told = tt {0}

pub returns-in-Err-jobs_for-clause-bytes : goal.returns-in-Err-jobs_for-clause-bytes
returns-in-Err-jobs_for-clause-bytes g c = refl

pub returns-in-Err-jobs_for-clause-later : goal.returns-in-Err-jobs_for-clause-later
returns-in-Err-jobs_for-clause-later g c = le_refl (g.S.Source.faults c.args.source.now)

pub returns-in-Err-jobs_for-clause-read : goal.returns-in-Err-jobs_for-clause-read
returns-in-Err-jobs_for-clause-read g c e = absurd (memory_not_read c.in-Err-jobs_for.refused e)

pub returns-in-Err-jobs_for-clause-given : goal.returns-in-Err-jobs_for-clause-given
returns-in-Err-jobs_for-clause-given g c = omega arith

pub returns-in-Err-jobs_for-clause-given_any : goal.returns-in-Err-jobs_for-clause-given_any
returns-in-Err-jobs_for-clause-given_any g c = omega arith

pub returns-in-Err-jobs_for-clause-ends : goal.returns-in-Err-jobs_for-clause-ends
returns-in-Err-jobs_for-clause-ends g c file told = tt {0}

-- ---- the frames are summed in the tables and jobs that were made
pub sum_tails-requires-clause-size : goal.sum_tails-requires-clause-size
sum_tails-requires-clause-size g c κs within = c.requires.size

pub sum_tails-requires-clause-tables : goal.sum_tails-requires-clause-tables
sum_tails-requires-clause-tables g c κs within =
    subst (AreTablesFor c.args.walked.now.form.channels) (sym c.deref_mut.ensures.value) c.in-Ok.ensures.tables

pub sum_tails-requires-clause-jobs : goal.sum_tails-requires-clause-jobs
sum_tails-requires-clause-jobs g c κs within =
    subst (AreJobsFor c.args.walked.now.form.channels) (sym c.deref_mut-2.ensures.value) c.in-Ok-jobs_for.ensures.jobs

pub sum_tails-requires-clause-walked : goal.sum_tails-requires-clause-walked
sum_tails-requires-clause-walked g c κs within file told = (c.requires.walked file told).entries_are
